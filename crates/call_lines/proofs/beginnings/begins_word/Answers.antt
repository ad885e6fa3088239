use Rattle.std.proofs.Common.{◌≡◌, ◌∙◌, List, ℕ, drop, length, sym}
use Rattle.std.specs.Cmp.{booleans_Decides}
use Rattle.std.proofs.lemmas.Bool.Decides.{Decides-eqb}
use Rattle.std.proofs.lemmas.Slice.Eq.{starts_is}
use Rattle.call_lines.specs.Lines.{word_text}
use Rattle.call_lines.proofs.beginnings.begins_word.Goals as goal

pub returns-then-tells_queue-is_first : goal.returns-then-tells_queue-is_first
returns-then-tells_queue-is_first c =
    let bytes : List ℕ = c.args.bytes.now in
    let text : c.as_bytes.result.now ≡ word_text c.args.word = c.as_bytes.ensures.value ∙ c.text.ensures in
    let is = starts_is Decides-eqb c.as_bytes.result.now bytes c.starts_with.result c.starts_with.ensures.value in (
      (λ t. (sym c.tells_queue.ensures ∙ (booleans_Decides c.tells_queue.result c.args.is_first).0 c.if-tells_queue-is_first.true, drop (length bytes) c.as_bytes.result.now, sym text ∙ is.0 t)),
      λ begins. is.1 begins.1 (text ∙ begins.2),
    )
