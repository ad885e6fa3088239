use Rattle.std.proofs.Common.{false, inl, inr, refl}
use Rattle.std.proofs.lemmas.List.{length-replicate}
use Rattle.ring_script.specs.Borrowed.{content_of}
use Rattle.bits_core.specs.declared.events.Side.TheVariants.{P}
use Rattle.ring_script.specs.declared.schedules.LetterRun.{LetterRun}
use Rattle.ring_script.specs.declared.faults.ScriptFault.TheVariants.{OutOfMemory}
use Rattle.ring_page.proofs.Rooms.{short_or_fault, told_of_fields}
use Rattle.ring_page.proofs.plays.page_play.Goals as goal

pub returns-in-Ok-tell_play : goal.returns-in-Ok-tell_play
returns-in-Ok-tell_play c = told_of_fields _ _ _ _ _ _ _ c.fields-fields.ensures (inl (record {
  script = content_of c.in-Ok.script;
  is_content = c.in-Ok.ensures.content;
  is_script = c.in-Ok.ensures.read;
  is_play = c.in-Ok-tell_play.ensures.played;
}))

pub returns-in-Err-OutOfMemory : goal.returns-in-Err-OutOfMemory
returns-in-Err-OutOfMemory c = told_of_fields _ _ _ _ _ _ _ c.fields-fields.ensures (inr (record {
  why = OutOfMemory;
  cause = inl (refl, inr (inr (content_of c.in-Ok.script, c.in-Ok.ensures.content, c.in-Err-OutOfMemory.ensures.refused)));
  tells = c.told_fault.ensures;
}))

pub returns-in-Err : goal.returns-in-Err
returns-in-Err c = let blank : LetterRun = record { side = P; count = 0 } in told_of_fields _ _ _ _ _ _ _ c.fields-fields.ensures (inr (record {
  why = c.in-Err.fault;
  cause = short_or_fault _ _ _ _ _ _ (length-replicate 1000 blank) (length-replicate 10000 false) c.in-Err.ensures.refused;
  tells = c.told_fault-in-Err.ensures;
}))
