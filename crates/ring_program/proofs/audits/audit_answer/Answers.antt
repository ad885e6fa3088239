use Rattle.std.proofs.Common.{string_bytes, arith}
use Rattle.ring_program.proofs.WhyLemmas.{there_by_judgement}
use Rattle.ring_program.proofs.audits.audit_answer.Goals as goal

pub push_asked-requires : goal.push_asked-requires
push_asked-requires g c = grind (arith, there_by_judgement, c.as_slice-2.ensures.value, c.as_slice.ensures.value, c.in_ok-text.ensures.judged)

pub returns-clause-answered : goal.returns-clause-answered
returns-clause-answered g c = record {
  shape = c.in_ok-shape.shape;
  events = c.in_ok-shape.events.items;
  words = string_bytes c.in_ok-text.text;
  verdict = c.in_ok-text.verdict;
  is_trace = c.in_ok-shape.ensures.read;
  is_judged = rw c.as_slice.ensures.value at c.in_ok-text.ensures.judged;
  tells = rw c.as_slice-2.ensures.value at c.in_ok-push_asked.ensures.told;
  ends = c.verdict_ending-ending.ensures;
}
