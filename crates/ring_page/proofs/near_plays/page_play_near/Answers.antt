use Rattle.std.proofs.Common.{false, inl, inr, refl}
use Rattle.std.proofs.lemmas.List.{length-replicate}
use Rattle.ring_script.specs.Borrowed.{content_of}
use Rattle.bits_core.specs.declared.events.Side.TheVariants.{P}
use Rattle.ring_script.specs.declared.schedules.LetterRun.{LetterRun}
use Rattle.ring_script.specs.declared.faults.ScriptFault.TheVariants.{OutOfMemory}
use Rattle.ring_page.proofs.Rooms.{near_told_of_fields, short_or_fault}
use Rattle.ring_page.proofs.near_plays.page_play_near.Goals as goal

pub returns-in-Ok-tell_near_play : goal.returns-in-Ok-tell_near_play
returns-in-Ok-tell_near_play c = near_told_of_fields _ _ _ _ _ _ _ _ _ c.in-Some.ensures c.fields-fields.ensures (inl (record {
  script = content_of c.in-Ok.script;
  is_content = c.in-Ok.ensures.content;
  is_script = c.in-Ok.ensures.read;
  is_play = c.in-Ok-tell_near_play.ensures.played;
}))

pub returns-in-Err-OutOfMemory : goal.returns-in-Err-OutOfMemory
returns-in-Err-OutOfMemory c =
    let (fault, tells, is) = c.near_refused.ensures in
    near_told_of_fields _ _ _ _ _ _ _ _ _ c.in-Some.ensures c.fields-fields.ensures (inr (
      fault,
      record {
        why = OutOfMemory;
        cause = inl (refl, inr (inr (content_of c.in-Ok.script, c.in-Ok.ensures.content, c.in-Err-OutOfMemory.ensures.refused)));
        tells = tells;
      },
      is,
    ))

pub returns-in-Err : goal.returns-in-Err
returns-in-Err c =
    let blank : LetterRun = record { side = P; count = 0 } in
    let (fault, tells, is) = c.near_refused-in-Err.ensures in
    near_told_of_fields _ _ _ _ _ _ _ _ _ c.in-Some.ensures c.fields-fields.ensures (inr (
      fault,
      record {
        why = c.in-Err.fault;
        cause = short_or_fault _ _ _ _ _ _ (length-replicate 1000 blank) (length-replicate 10000 false) c.in-Err.ensures.refused;
        tells = tells;
      },
      is,
    ))
