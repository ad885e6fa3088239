use Rattle.std.proofs.Common.{◌≡◌, ◌∙◌, ℕ, ◌+◌, ◌<◌, List, [], ◌∷◌, ◌++◌, length, take, reverse, get_or, refl, sym, subst, arith}
use Rattle.std.proofs.lemmas.List.{length-take-le, take_all}
use Rattle.std.proofs.lemmas.Option.{slice_get-get_or}
use Rattle.register_calls.specs.declared.events.Register.{Register}
use Rattle.register_calls.specs.declared.events.RegisterEvent.{RegisterEvent}
use Rattle.register_calls.specs.Classes.{IsStrongest}
use Rattle.register_calls.specs.Histories.{IsWellFormed}
use Rattle.queue_calls_c.specs.Registers.{AreLost, RefusesEventLine, StandFor}
use Rattle.queue_calls_c.specs.declared.judges.LostClasses.{LostClasses}
use Rattle.queue_calls_c.specs.declared.registers.EventLine.{EventLine}
use Rattle.queue_calls_c.proofs.EventLines.{as_many, none_lost, stand_more}
use Rattle.queue_calls_c.proofs.judges.hear_lines.Goals as goal

pub loop-place-init : goal.loop-place-init
loop-place-init g c = record {
  register = refl;
  window = refl;
  readers = refl;
  heard = ([], refl, (c.requires.none_heard, subst (λ (l : LostClasses). AreLost c.args.auditor.now.register [] l) (sym c.none-lost.ensures) (none_lost c.args.auditor.now.register)));
}

-- the events of the lines so far are as many as these
line_of : (lines : List EventLine) (place : ℕ) (events : List RegisterEvent) → place < length lines → StandFor (take place lines) events → length events + 2 ≡ place + 2
line_of lines place events within stand = omega (arith, as_many (take place lines) events stand, length-take-le place lines (omega arith))

pub loop-place-preserved : goal.loop-place-preserved
loop-place-preserved g c =
    let lines = c.args.lines.now in
    let place = c.loop-place.place in
    let d : EventLine = record { kind = 0; reader = 0; value = 0 } in
    let within : place < length lines = omega arith in
    let inv = c.loop-place.invariant in
    let (events, stand, heard) = inv.heard in
    let (e, is, more) = c.in-Ok.ensures.heard events heard (line_of lines place events within stand) in
    record {
      register = c.in-Ok.ensures.register ∙ inv.register;
      window = c.in-Ok.ensures.rooms.0 ∙ inv.window;
      readers = c.in-Ok.ensures.rooms.1 ∙ inv.readers;
      heard = (events ++ e ∷ [], stand_more lines place d events e within stand is, more);
    }

pub returns-in-Err-clause-refused : goal.returns-in-Err-clause-refused
returns-in-Err-clause-refused g c =
    let lines = c.args.lines.now in
    let place = c.loop-place.place in
    let d : EventLine = record { kind = 0; reader = 0; value = 0 } in
    let within : place < length lines = omega arith in
    let inv = c.loop-place.invariant in
    let (events, stand, heard) = inv.heard in
    let refused = c.in-Err.ensures.refused events heard (line_of lines place events within stand) (inv.readers ∙ c.requires.readers) in
    record {
      place = place;
      next = get_or lines place d;
      there = slice_get-get_or lines place d within;
      number = refused.0;
      before = events;
      stand = stand;
      well_formed = subst (λ (r : Register). IsWellFormed r (reverse events)) inv.register heard.0.well_formed;
      refused = subst (λ (r : Register). RefusesEventLine (g.W.Fifo.room c.args.auditor.now.window) c.in-Err.refusal r (reverse events) (get_or lines place d)) inv.register
          (subst (λ (slots : ℕ). RefusesEventLine slots c.in-Err.refusal c.loop-place.auditor.register (reverse events) (get_or lines place d)) inv.window refused.1);
    }

pub returns-clause-judged : goal.returns-clause-judged
returns-clause-judged g c =
    let lines = c.args.lines.now in
    let inv = c.loop-place.invariant in
    let (events, stand, heard) = inv.heard in (
      events,
      subst (λ (ls : List EventLine). StandFor ls events) (take_all c.loop-place.place lines (omega arith)) stand,
      (
        subst (λ (r : Register). IsWellFormed r (reverse events)) inv.register heard.0.well_formed,
        subst (λ (r : Register). IsStrongest c.class.result r (reverse events)) inv.register (c.class.ensures (reverse events) heard.0),
        subst (λ (r : Register). AreLost r events c.loop-place.lost) inv.register heard.1,
      ),
    )
