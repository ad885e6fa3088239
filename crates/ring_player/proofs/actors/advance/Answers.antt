use Rattle.std.proofs.Common.{rules, ◌≡◌, true, refl, sym, ap, subst, ◌∙◌}
use Rattle.bits_core.specs.declared.events.Act.TheVariants.{WriteEnd}
use Rattle.ring_player.proofs.Common.{Event, Side, other, open_access, IsLawful, subhistory, MemoryState, IsPlaying, IsProgram, Content}
use Rattle.bits_core.specs.Open.{bit_of}
use Rattle.ring_core.specs.Calls.{EndsInZeros, LastBitIsDue}
use Rattle.ring_player.proofs.Steps.{after_end, ends_there, answers_one, end_move, playing_on, reading, writing}
use Rattle.ring_player.proofs.Turns.{turn_begin, turn_quiet, turn_read}
use Rattle.ring_player.proofs.actors.advance.Goals as goal

-- ---- a read ends

pub end-requires-clause-there : goal.end-requires-clause-there
end-requires-clause-there g c =
    ends_there c.args.side c.args.memory.now.events _ _ _ _ _ c.event_count.result c.requires.playing c.reserve.ensures.due c.reserve.ensures.stands
    (reading c.pending.result (open_access c.args.side c.args.memory.now.events) _ _ c.pending.ensures.access c.in-Some-Read.is c.in-Some-Read.field-0-is) c.event_count.ensures (search rules)

pub end-requires-clause-one : goal.end-requires-clause-one
end-requires-clause-one g c last =
    let a = c.reserve.new.self in
    let s = c.args.side in
    let h = c.args.memory.now.events in
    let script : Content = g.A.Actor.script a in
    let p : IsPlaying s h (g.A.Actor.due a) (g.A.Actor.stands a) =
    playing_on s h _ (g.A.Actor.due a) (g.A.Actor.stands c.args.actor.now) (g.A.Actor.stands a) c.requires.playing c.reserve.ensures.due c.reserve.ensures.stands in
    let side_is : g.A.Actor.side a ≡ s = c.reserve.ensures.side ∙ c.requires.side in
    let ok = c.in_ok-answer-in-Some-Read.ensures.ok in
    let shape_is = ap (λ (m : MemoryState). m.shape) ok ∙ c.requires.shape ∙ ap (λ (t : Content). t.shape) (sym c.reserve.ensures.script) in
    answers_one script s h c.end_read.new.self.events (g.A.Actor.due a) (g.A.Actor.stands a)
    (bit_of (open_access s h)) c.in_ok-answer-in-Some-Read.answer p (reading c.pending.result (open_access s h) _ _ c.pending.ensures.access c.in-Some-Read.is c.in-Some-Read.field-0-is) (ap (λ (m : MemoryState). m.events) ok)
    (subst (λ t. IsLawful t c.end_read.new.self.events) shape_is c.events.ensures.lawful)
    (subst (λ (t : Content). IsProgram t (other s) (subhistory (other s) h)) (sym c.reserve.ensures.script) c.requires.other)
    (λ l. subst (λ (t : Side). EndsInZeros script.shape t p.list) side_is
    (c.last_bit.ensures (subst (λ (t : Side). LastBitIsDue script.shape t (g.A.Actor.due a)) (sym side_is) l) p.list (open_access s h) p.there))
    (subst (λ (t : Side). LastBitIsDue script.shape t (g.A.Actor.due a)) side_is last)

pub returns-in_ok-answer-in-Some-Read-clause-playing : goal.returns-in_ok-answer-in-Some-Read-clause-playing
returns-in_ok-answer-in-Some-Read-clause-playing g c =
    after_end c.args.side c.args.memory.now.events c.end_read.new.self.events _ _ _ _ _ _ _ c.in_ok-answer-in-Some-Read.answer _ c.requires.playing c.reserve.ensures.due c.reserve.ensures.stands
    (reading c.pending.result (open_access c.args.side c.args.memory.now.events) _ _ c.pending.ensures.access c.in-Some-Read.is c.in-Some-Read.field-0-is) (ap (λ (m : MemoryState). m.events) c.in_ok-answer-in-Some-Read.ensures.ok) refl refl refl c.end.ensures.stands

pub returns-in_ok-answer-in-Some-Read-clause-ok : goal.returns-in_ok-answer-in-Some-Read-clause-ok
returns-in_ok-answer-in-Some-Read-clause-ok g c =
    end_move (g.A.Actor.script c.args.actor.now) c.args.side c.args.memory.now.events c.end_read.new.self.events (g.A.Actor.due c.args.actor.now) (g.A.Actor.stands c.args.actor.now) _ _ c.requires.playing
    (reading c.pending.result (open_access c.args.side c.args.memory.now.events) _ _ c.pending.ensures.access c.in-Some-Read.is c.in-Some-Read.field-0-is) (ap (λ (m : MemoryState). m.events) c.in_ok-answer-in-Some-Read.ensures.ok) refl

pub returns-in_ok-answer-in-Some-Read-clause-turns : goal.returns-in_ok-answer-in-Some-Read-clause-turns
returns-in_ok-answer-in-Some-Read-clause-turns g c turns t =
    let s = c.args.side in
    let h = c.args.memory.now.events in
    let r = c.in_ok-answer-in-Some-Read.ensures in
    turn_read turns (g.O.Oracle.answers c.args.oracle.now) (g.O.Oracle.answers c.end_read.new.oracle) s (bit_of (open_access s h)) c.in_ok-answer-in-Some-Read.answer _ h c.end_read.new.self.events
    (ap (λ (m : MemoryState). m.events) r.ok) r.answer (λ e i. ap (λ o. g.O.Oracle.answers o i) (r.not_asked e)) r.asked t

-- ---- a write ends

pub end-requires-in-Some-Write-clause-there : goal.end-requires-in-Some-Write-clause-there
end-requires-in-Some-Write-clause-there g c =
    ends_there c.args.side c.args.memory.now.events _ _ _ _ _ c.event_count-in-Some-Write.result c.requires.playing c.reserve-in-Some-Write.ensures.due c.reserve-in-Some-Write.ensures.stands
    (writing c.pending.result (open_access c.args.side c.args.memory.now.events) _ _ _ c.pending.ensures.access c.in-Some-Write.is c.in-Some-Write.field-0-is) c.event_count-in-Some-Write.ensures (search rules)

pub returns-in_ok-end_write-in-Some-Write-clause-playing : goal.returns-in_ok-end_write-in-Some-Write-clause-playing
returns-in_ok-end_write-in-Some-Write-clause-playing g c =
    after_end c.args.side c.args.memory.now.events c.end_write.new.self.events _ _ _ _ _ _ _ true _ c.requires.playing c.reserve-in-Some-Write.ensures.due c.reserve-in-Some-Write.ensures.stands
    (writing c.pending.result (open_access c.args.side c.args.memory.now.events) _ _ _ c.pending.ensures.access c.in-Some-Write.is c.in-Some-Write.field-0-is) (ap (λ (m : MemoryState). m.events) c.in_ok-end_write-in-Some-Write.ensures.ok) refl refl refl c.end-in-Some-Write.ensures.stands

pub returns-in_ok-end_write-in-Some-Write-clause-ok : goal.returns-in_ok-end_write-in-Some-Write-clause-ok
returns-in_ok-end_write-in-Some-Write-clause-ok g c =
    end_move (g.A.Actor.script c.args.actor.now) c.args.side c.args.memory.now.events c.end_write.new.self.events (g.A.Actor.due c.args.actor.now) (g.A.Actor.stands c.args.actor.now) _ _ c.requires.playing
    (writing c.pending.result (open_access c.args.side c.args.memory.now.events) _ _ _ c.pending.ensures.access c.in-Some-Write.is c.in-Some-Write.field-0-is) (ap (λ (m : MemoryState). m.events) c.in_ok-end_write-in-Some-Write.ensures.ok) refl

pub returns-in_ok-end_write-in-Some-Write-clause-turns : goal.returns-in_ok-end_write-in-Some-Write-clause-turns
returns-in_ok-end_write-in-Some-Write-clause-turns g c turns t =
    let s = c.args.side in
    let h = c.args.memory.now.events in
    let e : Event = record { side = s; bit = bit_of (open_access s h); act = WriteEnd } in
    turn_quiet turns (g.O.Oracle.answers c.args.oracle.now) h c.end_write.new.self.events e (ap (λ (m : MemoryState). m.events) c.in_ok-end_write-in-Some-Write.ensures.ok) refl t

-- ---- the next access begins

pub returns-in_ok-begin-in-Some-clause-turns : goal.returns-in_ok-begin-in-Some-clause-turns
returns-in_ok-begin-in-Some-clause-turns g c turns t =
    turn_begin turns (g.O.Oracle.answers c.args.oracle.now) c.args.memory.now.events c.begin.new.memory.events c.args.side c.in-Some.access c.in_ok-begin-in-Some.ensures.ok t
