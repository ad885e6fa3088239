use Rattle.std.proofs.Common.{◌≡◌, ◌∙◌, ◌<◌, inl, inr, ℕ, Option, ◌++◌, ◌∷◌, [], List, length, map, take, ap, sym, arith}
use Rattle.std.proofs.lemmas.Bool.{cases_lt}
use Rattle.std.proofs.lemmas.List.{length-set, map-append, take_all, take_more, take_more_set}
use Rattle.queue_calls.specs.declared.events.CallEvent.{CallEvent}
use Rattle.call_lines.specs.declared.lines.Word.{Word}
use Rattle.ring_page.specs.NearPlay.{said_by, said_in}
use Rattle.ring_page.specs.declared.near_plays.Telling.{Telling}
use Rattle.ring_page.proofs.near_plays.put_tellings.Goals as goal

pub loop-i-preserved : goal.loop-i-preserved
loop-i-preserved c =
    let i = c.loop-i.i in
    let calls : List (CallEvent ℕ ℕ) = c.args.calls.now in
    let room : List Telling = c.loop-i.tellings in
    let in_calls : i < length calls = omega arith in
    let in_room : i < length room = omega (arith, c.loop-i.invariant.room) in
    let put : map said_in (take i room) ≡ map said_by (take i calls) = c.loop-i.invariant.put in
    record {
      put = ap (map said_in) (take_more_set room i c.telling_of.result in_room) ∙ map-append said_in (take i room) (c.telling_of.result ∷ [])
          ∙ ap (λ (ts : List (Option Word × ℕ)). ts ++ said_in c.telling_of.result ∷ []) put
          ∙ ap (λ (t : Option Word × ℕ). map said_by (take i calls) ++ t ∷ []) c.telling_of.ensures
          ∙ sym (map-append said_by (take i calls) (_ ∷ [])) ∙ ap (map said_by) (sym (take_more calls i _ in_calls));
      room = rw length-set c.loop-i.invariant.room;
    }

pub returns : goal.returns
returns c =
    let i = c.loop-i.i in
    let calls : List (CallEvent ℕ ℕ) = c.args.calls.now in
    let room : List Telling = c.loop-i.tellings in
    let put : map said_in (take i room) ≡ map said_by (take i calls) = c.loop-i.invariant.put in
    elim (cases_lt (length calls) (length room)) [
      | inl h ↦
          ap (λ n. map said_in (take n room)) (omega (arith, h, c.loop-i.invariant.room)) ∙ put
          ∙ ap (map said_by) (take_all i calls (omega (arith, h, c.loop-i.invariant.room)) ∙ sym (take_all (length room) calls (omega (arith, h))))
      | inr h ↦
          ap (map said_in) (take_all (length calls) room (omega (arith, h)) ∙ sym (take_all i room (omega (arith, h, c.loop-i.invariant.room)))) ∙ put
          ∙ ap (λ n. map said_by (take n calls)) (omega (arith, h, c.loop-i.invariant.room))
    ]
