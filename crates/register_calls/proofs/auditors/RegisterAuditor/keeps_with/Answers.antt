use Rattle.std.proofs.Common.{◌∙◌, ap}
use Rattle.std.specs.Prelude.{Bool, true, if◌then◌else◌}
use Rattle.register_calls.proofs.Foretelling.{keeps_with_read}
use Rattle.register_calls.proofs.auditors.RegisterAuditor.keeps_with.Goals as goal

pub returns : goal.returns
returns g c = λ i h k at finds.
    let s = c.args.self.now in
    keeps_with_read s.register h (g.W.Fifo.items s.window) s.base s.begun s.is_writing (g.R.Fifo.items s.readers) s.floor s.is_safe s.is_regular s.is_by_reader s.is_atomic i c.args.value c.args.found.now
    c.is_safe_still-is_safe.result at finds c.is_safe_still-is_safe.ensures k
    c.is_kept-safe.result c.is_kept-regular.result c.is_kept-by_reader.result c.is_kept-atomic.result c.both.result c.both-2.result c.both-3.result c.is_kept-safe.ensures
    (c.is_kept-regular.ensures ∙ ap (λ (z : Bool). if s.is_regular then z else true) c.still.ensures)
    (c.is_kept-by_reader.ensures ∙ ap (λ (z : Bool). if s.is_by_reader then z else true) c.still-2.ensures)
    (c.is_kept-atomic.ensures ∙ ap (λ (z : Bool). if s.is_atomic then z else true) c.still-3.ensures)
    c.both.ensures c.both-2.ensures c.both-3.ensures
