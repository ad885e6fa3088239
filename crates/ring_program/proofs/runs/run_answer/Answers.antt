use Rattle.std.proofs.Common.{◌≡◌, ◌∙◌, ℕ, List, string_bytes, take, subst, arith}
use Rattle.std.specs.Prelude.{option_map}
use Rattle.std.specs.Duration.{as_nanos}
use Rattle.bits_core.specs.Made.{IsPrefix}
use Rattle.ring_run.specs.Relays.{IsRelayed}
use Rattle.ring_program.specs.Answers.{TellsRun}
use Rattle.ring_program.specs.Runs.{run_items}
use Rattle.ring_program.proofs.RunItems.{run_items_fit}
use Rattle.ring_program.proofs.runs.run_answer.Goals as goal

pub relay_run-requires : goal.relay_run-requires
relay_run-requires g c = search (arith, run_items_fit, c.as_slice-offered.ensures.value, c.in_ok-items.ensures.items, c.in_ok-shape.ensures.width_is)

pub returns-clause-answered : goal.returns-clause-answered
returns-clause-answered g c =
    let is : c.as_slice-offered.result.now ≡ run_items c.args.run = c.as_slice-offered.ensures.value ∙ c.in_ok-items.ensures.items in
    let o = c.in_ok-outcome.outcome in
    let run = c.args.run in
    let told = c.in_ok-outcome.ensures in
    record {
      shape = c.in_ok-shape.shape;
      put = o.put;
      calls = o.calls;
      full = o.full;
      taken = o.taken.items;
      takes = o.takes;
      empty = o.empty;
      closed = o.closed;
      time = option_map as_nanos c.time_since-time.result;
      of_numbers = c.in_ok-shape.ensures;
      relayed = subst (λ (items : List ℕ). IsRelayed c.in_ok-shape.shape items run.limits.puts run.limits.takes o.put o.calls o.full o.taken.items o.takes o.empty o.closed) is told.counted;
      prefix = subst (λ (items : List ℕ). IsPrefix o.taken.items (take o.put items)) is told.prefix;
      all = λ e. (told.all e).1 ∙ is;
      within = omega (arith, told.within, c.in_ok-shape.ensures.capacity_is);
      words = subst (λ (items : List ℕ). TellsRun run.text c.in_ok-shape.shape items o.put o.calls o.full o.taken.items o.takes o.empty o.closed (option_map as_nanos c.time_since-time.result)
          (string_bytes c.in_ok-text.text)) is c.in_ok-text.ensures.text;
      reached = c.in_ok-ending.ensures.reached;
      ends = c.in_ok-ending.ensures.ending;
    }
