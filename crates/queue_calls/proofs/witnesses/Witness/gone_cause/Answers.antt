use Rattle.std.proofs.Common.{◌≡◌, ◌+◌, ◌++◌, ◌==◌, List, map, if◌then◌else◌, Some, None, sym, ap, ◌∙◌, reverse}
use Rattle.queue_calls.proofs.Common.{find, length-reverse, last_taken_of, Taken}
use Rattle.queue_calls.specs.Reasons.{again_cause, last_of, line_behind, taken, taken_at}
use Rattle.queue_calls.proofs.CauseTold.{taken_first}
use Rattle.queue_calls.proofs.witnesses.Witness.gone_cause.Goals as goal

pub returns-then-contains : goal.returns-then-contains
returns-then-contains g c capacity events r number =
    let line : line_behind (reverse events) ≡ c.args.line = ap (λ n. n + 2) (length-reverse events) ∙ number in
    let all : List Taken = reverse (last_of c.args.self.now.limit (taken (reverse events))) in
    let is : find (λ t. t.item == c.args.item) (map (taken_at (line_behind (reverse events))) c.args.first.now ++ all) ≡ Some (taken_at c.args.line c.args.item) =
    taken_first (line_behind (reverse events)) c.args.item c.args.first.now all ∙
    ap (λ b. if b then Some (taken_at (line_behind (reverse events)) c.args.item) else find (λ t. t.item == c.args.item) all) (sym c.contains.ensures.value ∙ c.if-contains.true) ∙
    ap (λ z. Some (taken_at z c.args.item)) line in
    ap (λ o. again_cause (reverse events) c.args.item o c.args.next) (sym is)

pub returns-in-Some : goal.returns-in-Some
returns-in-Some g c capacity events r number =
    let all : List Taken = reverse (last_of c.args.self.now.limit (taken (reverse events))) in
    let is : find (λ t. t.item == c.args.item) (map (taken_at (line_behind (reverse events))) c.args.first.now ++ all) ≡ Some c.in-Some.taken =
    taken_first (line_behind (reverse events)) c.args.item c.args.first.now all ∙
    ap (λ b. if b then Some (taken_at (line_behind (reverse events)) c.args.item) else find (λ t. t.item == c.args.item) all) (sym c.contains.ensures.value ∙ c.if-contains.false) ∙
    ap (λ l. last_taken_of c.args.item l) (sym r.taken) ∙ sym c.last_taken_of.ensures ∙ c.in-Some.is in
    ap (λ o. again_cause (reverse events) c.args.item o c.args.next) (sym is)

pub returns-in-None : goal.returns-in-None
returns-in-None g c capacity events r number =
    let all : List Taken = reverse (last_of c.args.self.now.limit (taken (reverse events))) in
    let is : find (λ t. t.item == c.args.item) (map (taken_at (line_behind (reverse events))) c.args.first.now ++ all) ≡ None =
    taken_first (line_behind (reverse events)) c.args.item c.args.first.now all ∙
    ap (λ b. if b then Some (taken_at (line_behind (reverse events)) c.args.item) else find (λ t. t.item == c.args.item) all) (sym c.contains.ensures.value ∙ c.if-contains.false) ∙
    ap (λ l. last_taken_of c.args.item l) (sym r.taken) ∙ sym c.last_taken_of.ensures ∙ c.in-None.is in
    ap (λ o. again_cause (reverse events) c.args.item o c.args.next) (sym is)
