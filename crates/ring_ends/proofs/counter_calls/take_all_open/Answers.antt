use Rattle.std.proofs.Common.{◌≡◌, ℕ, ◌≤◌, Some, List, [], length, take, drop, refl, sym, ◌∙◌, arith}
use Rattle.std.proofs.lemmas.List.{take_at}
use Rattle.ring_core.specs.declared.replies.TakeBatchReply.TheVariants.{Taken}
use Rattle.bits_core.specs.Shape.{take_batch_of}
use Rattle.ring_ends.proofs.Common.{Takes, Open, RingEnd}
use Rattle.ring_core.specs.ConsumerCalls.{take_batch_reply, items_reply}
use Rattle.ring_ends.specs.declared.counter_calls.Scanned.TheVariants.{Shows}
use Rattle.ring_ends.specs.CounterEnds.{TakerList, LookMade, HasLooked}
use Rattle.ring_seats.proofs.CounterPuts.{length-first}
use Rattle.ring_ends.proofs.CounterTakerCalls.{few_found, kept_none}
use Rattle.ring_ends.proofs.counter_calls.take_all_open.Goals as goal

-- the first places, of which there are as many as items were found
looked :
    (a b : RingEnd) (count cell : ℕ) (calls : Takes) (into : List ℕ) (most : ℕ) → TakerList a count cell calls → calls.end ≡ Open → length into ≤ take_batch_of a.ring.shape →
    LookMade a b calls (length into) (Shows most) → (length (take most into) ≡ most) × HasLooked a b count cell calls (length into) (length (take most into))
looked a b count cell calls into most at opened few (look, found) = grind (arith, few_found, length-first)

-- a number of items is determined by their list, and they are the first of the places that they were put into
told : (items : List ℕ) (most : ℕ) → 1 ≤ most → length items ≡ most → Some (Taken most) ≡ take_batch_reply (Some (items_reply items)) items
told items most h1 h2 = grind arith

pub fetch_all-requires : goal.fetch_all-requires
fetch_all-requires c =
    let r = c.requires.at in
    let into = c.args.into.now in
    record { at = (c.args.stepper.now, r.0, length into, (looked c.args.stepper.now c.look.new.stepper c.args.count.now c.args.cell.now r.0 into c.in-Shows.most r.1 r.2 c.requires.few (c.in-Shows.ensures r.0 r.1 r.2)).1) }

pub returns-in-Over-clause-taken : goal.returns-in-Over-clause-taken
returns-in-Over-clause-taken c calls at opened = (
  c.in-Over.reply,
  [],
  kept_none c.args.stepper.now c.look.new.stepper c.args.count.now c.args.cell.now calls (length c.args.into.now) c.in-Over.reply at (c.in-Over.ensures calls at opened).0,
  c.of_none.ensures.reply,
  refl,
)

pub returns-in-Shows-clause-taken : goal.returns-in-Shows-clause-taken
returns-in-Shows-clause-taken c calls at opened =
    let a = c.args.stepper.now in
    let into = c.args.into.now in
    let items = c.fetch_all.new.into in
    let found = c.in-Shows.ensures calls at opened in
    let l = looked a c.look.new.stepper c.args.count.now c.args.cell.now calls into c.in-Shows.most at opened c.requires.few found in (
      items_reply items,
      items,
      c.fetch_all.ensures.kept a calls (length into) l.1,
      told items c.in-Shows.most found.1.some (c.fetch_all.ensures.long ∙ l.0),
      sym (take_at items (drop c.in-Shows.most into) (length items) refl),
    )
