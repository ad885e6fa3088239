use Rattle.std.proofs.Common.{◌≡◌, ◌<◌, ◌≤◌, List, length, false, sym, ap, ◌∙◌, reverse, drop, suc}
use Rattle.queue_calls.proofs.Common.{ltb-false, ltb-true, coming, has_told, told_closed_line, agreed, Offered}
use Rattle.queue_calls.proofs.CauseTold.{all_passed, behind_passed, no_line, told_off}
use Rattle.queue_calls.proofs.witnesses.Witness.items_cause.Goals as goal

pub returns-in-Some-get : goal.returns-in-Some-get
returns-in-Some-get g c capacity events cause r number n turn e =
    let s = c.args.self.now in
    let items = c.args.items.now in
    let rest : List Offered = coming (reverse events) in
    let open' : has_told (reverse events) ≡ false = no_line (has_told (reverse events)) (told_closed_line (reverse events)) s.told_at r.told c.in_default.not-Some in
    let is : c.next_ones-place.result ≡ agreed items rest = c.next_ones-place.ensures ∙ ap (λ z. agreed items z) r.inside in
    let few : c.next_ones-place.result < length items = ltb-true c.next_ones-place.result (length items) (sym c.in-Some-get.ensures.lookup.0) in
    let b = behind_passed s.limit capacity c.args.why (reverse events) items rest cause c.next_ones-place.result c.in-Some-get.item.now c.in-Some-get.item.now is few c.in-Some-get.ensures.lookup.1 (told_off _ _ _ cause open' e) in
    c.astray_cause.ensures capacity events cause (drop (suc c.next_ones-place.result) items) c.args.why r number b.0 b.1

pub returns-in-None : goal.returns-in-None
returns-in-None g c capacity events cause r number n turn e =
    let s = c.args.self.now in
    let items = c.args.items.now in
    let rest : List Offered = coming (reverse events) in
    let open' : has_told (reverse events) ≡ false = no_line (has_told (reverse events)) (told_closed_line (reverse events)) s.told_at r.told c.in_default.not-Some in
    let is : c.next_ones-place.result ≡ agreed items rest = c.next_ones-place.ensures ∙ ap (λ z. agreed items z) r.inside in
    let many : length items ≤ c.next_ones-place.result = ltb-false c.next_ones-place.result (length items) (sym c.in-None.ensures.lookup.0) in
    c.fewer_cause.ensures capacity events cause r n turn (all_passed s.limit capacity c.args.why (reverse events) items rest cause c.next_ones-place.result is many (told_off _ _ _ cause open' e))
