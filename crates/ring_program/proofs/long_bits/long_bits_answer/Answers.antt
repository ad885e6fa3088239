use Rattle.std.proofs.Common.{List, refl, string_bytes}
use Rattle.bits_core.specs.Audit.{IsVerdict}
use Rattle.trace_text.specs.Trace.{IsTraceText}
use Rattle.bits_core.specs.declared.events.Event.{Event}
use Rattle.bits_core.specs.declared.shapes.Shape.{Shape}
use Rattle.ring_program.proofs.ReadingLemmas.{of_input}
use Rattle.ring_program.specs.Answers.{Answers}
use Rattle.ring_program.specs.declared.command_line.Request.TheVariants.{LongBits}
use Rattle.ring_program.proofs.long_bits.long_bits_answer.Goals as goal

pub returns-clause-answered : goal.returns-clause-answered
returns-clause-answered g c =
    let verdict = c.in_ok-verdict.verdict in
    of_input (g.I.Read.remaining c.args.input.now) (λ bytes. (shape : Shape) × (events : List Event) × IsTraceText bytes shape events × IsVerdict shape events verdict)
    (λ bytes. Answers LongBits bytes (string_bytes c.in_ok-text.text) c.verdict_ending-ending.result)
    (λ bytes is. record {
      shape = is.0;
      events = is.1;
      words = string_bytes c.in_ok-text.text;
      verdict = verdict;
      is_trace = is.2;
      is_judged = (is.3, c.in_ok-text.ensures.text);
      tells = refl;
      ends = c.verdict_ending-ending.ensures;
    })
    c.in_ok-verdict.ensures.told
