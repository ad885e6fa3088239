use Rattle.std.proofs.Common.{arith, rules, ◌≡◌, true≢false, sym, subst, ◌∙◌}
use Rattle.bits_core.specs.declared.shapes.Shape.{Shape}
use Rattle.ring_core.specs.Counts.{ShowsItem}
use Rattle.ring_ends.proofs.CounterTakerCalls.{to_scan, found_once, to_ask, found_empty, to_rescan, found_twice, found_closed, ShownOf}
use Rattle.ring_ends.proofs.counter_calls.look.Goals as goal

-- what the scans showed, for the shape of the ring
shown_so :
    (c : goal.After-items_shown) → c.shape-shape.result ≡ c.args.stepper.now.ring.shape →
    ShownOf c.args.stepper.now.ring.shape c.scan-seen.result c.args.count c.args.wanted c.items_shown.result
shown_so c shape = grind arith

shown_again :
    (c : goal.After-items_shown-then-has_item-2) → c.shape-shape.result ≡ c.args.stepper.now.ring.shape →
    ShownOf c.args.stepper.now.ring.shape c.scan-again.result c.args.count c.args.wanted c.items_shown-then-has_item-2.result
shown_again c shape = grind arith

pub scan-seen-requires : goal.scan-seen-requires
scan-seen-requires c = record { program = to_scan c.args.stepper.now c.args.count c.args.cell c.args.wanted c.requires.at.0 c.requires.at.1 c.requires.at.2 }

pub returns-then-has_item : goal.returns-then-has_item
returns-then-has_item c = search (rules, found_once, shown_so)

pub read_close-requires-clause-program : goal.read_close-requires-clause-program
read_close-requires-clause-program c =
    let shape : c.shape-shape.result ≡ c.args.stepper.now.ring.shape = c.shape-shape.ensures in
    to_ask c.args.stepper.now c.args.count c.args.cell c.args.wanted c.requires.at.0 c.requires.at.1 c.requires.at.2 c.scan-seen.result c.scan-seen.ensures.below c.scan-seen.new.self c.scan-seen.ensures.grows
    (λ (t : ShowsItem c.args.stepper.now.ring.shape c.scan-seen.result c.args.count). true≢false (sym (c.has_item.ensures.1 (subst (λ (s : Shape). ShowsItem s c.scan-seen.result c.args.count) (sym shape) t)) ∙ c.if-has_item.false))

pub returns-then-not-read_close : goal.returns-then-not-read_close
returns-then-not-read_close c =
    let shape : c.shape-shape.result ≡ c.args.stepper.now.ring.shape = c.shape-shape.ensures in
    λ calls at opened. found_empty c.args.stepper.now c.args.count c.args.cell c.args.wanted calls at opened c.scan-seen.result c.scan-seen.ensures.below c.scan-seen.new.self c.scan-seen.ensures.grows
    (λ (t : ShowsItem c.args.stepper.now.ring.shape c.scan-seen.result c.args.count). true≢false (sym (c.has_item.ensures.1 (subst (λ (s : Shape). ShowsItem s c.scan-seen.result c.args.count) (sym shape) t)) ∙ c.if-has_item.false))
    c.read_close.result c.read_close.new.self c.read_close.ensures c.if-not-read_close.true

pub scan-again-requires : goal.scan-again-requires
scan-again-requires c =
    let shape : c.shape-shape.result ≡ c.args.stepper.now.ring.shape = c.shape-shape.ensures in
    record {
      program = to_rescan c.args.stepper.now c.args.count c.args.cell c.args.wanted c.requires.at.0 c.requires.at.1 c.requires.at.2 c.scan-seen.result c.scan-seen.ensures.below c.scan-seen.new.self c.scan-seen.ensures.grows
          (λ (t : ShowsItem c.args.stepper.now.ring.shape c.scan-seen.result c.args.count). true≢false (sym (c.has_item.ensures.1 (subst (λ (s : Shape). ShowsItem s c.scan-seen.result c.args.count) (sym shape) t)) ∙ c.if-has_item.false))
          c.read_close.result c.read_close.new.self c.read_close.ensures c.if-not-read_close.false;
    }

pub returns-then-has_item-2 : goal.returns-then-has_item-2
returns-then-has_item-2 c =
    let shape : c.shape-shape.result ≡ c.args.stepper.now.ring.shape = c.shape-shape.ensures in
    λ calls at opened. found_twice c.args.stepper.now c.args.count c.args.cell c.args.wanted calls at opened c.scan-seen.result c.scan-seen.ensures.below c.scan-seen.new.self c.scan-seen.ensures.grows
    (λ (t : ShowsItem c.args.stepper.now.ring.shape c.scan-seen.result c.args.count). true≢false (sym (c.has_item.ensures.1 (subst (λ (s : Shape). ShowsItem s c.scan-seen.result c.args.count) (sym shape) t)) ∙ c.if-has_item.false))
    c.read_close.result c.read_close.new.self c.read_close.ensures c.if-not-read_close.false c.scan-again.result c.scan-again.ensures.below c.scan-again.new.self c.scan-again.ensures.grows
    c.items_shown-then-has_item-2.result (shown_again c shape)

pub returns : goal.returns
returns c =
    let shape : c.shape-shape.result ≡ c.args.stepper.now.ring.shape = c.shape-shape.ensures in
    λ calls at opened. found_closed c.args.stepper.now c.args.count c.args.cell c.args.wanted calls at opened c.scan-seen.result c.scan-seen.ensures.below c.scan-seen.new.self c.scan-seen.ensures.grows
    (λ (t : ShowsItem c.args.stepper.now.ring.shape c.scan-seen.result c.args.count). true≢false (sym (c.has_item.ensures.1 (subst (λ (s : Shape). ShowsItem s c.scan-seen.result c.args.count) (sym shape) t)) ∙ c.if-has_item.false))
    c.read_close.result c.read_close.new.self c.read_close.ensures c.if-not-read_close.false c.scan-again.result c.scan-again.ensures.below c.scan-again.new.self c.scan-again.ensures.grows
    (λ (t : ShowsItem c.args.stepper.now.ring.shape c.scan-again.result c.args.count). true≢false (sym (c.has_item-2.ensures.1 (subst (λ (s : Shape). ShowsItem s c.scan-again.result c.args.count) (sym shape) t)) ∙ c.if-has_item-2.false))
