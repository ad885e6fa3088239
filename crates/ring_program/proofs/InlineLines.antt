-- The contents of a line of fixed room after calls that wrote to it.
use Rattle.std.proofs.Common.{◌≡◌, ◌∙◌, ℕ, List, [], ◌∷◌, ◌++◌, ap, sym, append_assoc, append-nil, arith}
use Rattle.std.specs.Fmt.{WritesInCalls}
use Rattle.std.specs.Fmt.InlineText.{AppendsIfIntact, IsIntact, inline_text}
use Rattle.std.specs.List.{FoldsTo, concat}
use Rattle.std.specs.declared.fmt.InlineText.{InlineText}

module _ {n : ℕ} where
  gained : (parts : List (List ℕ)) (before after : InlineText n) → FoldsTo AppendsIfIntact before parts after → IsIntact before → inline_text after ≡ inline_text before ++ concat parts
  gained [] before after same intact = ap inline_text (sym same) ∙ sym (append-nil (inline_text before))
  gained (part ∷ parts) before after (middle, step, more) intact = grind (arith, append_assoc, gained parts middle after more (step intact).0)

  pub written : (before after : InlineText n) (text : List ℕ) → WritesInCalls AppendsIfIntact before text after → IsIntact before → inline_text after ≡ inline_text before ++ text
  written before after text wrote intact = gained wrote.parts before after wrote.calls intact ∙ ap (λ more. inline_text before ++ more) wrote.whole
