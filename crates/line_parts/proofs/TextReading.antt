-- A text at the front: what is read is there, and what is there is read.
use Rattle.std.proofs.Common.{◌≡◌, ◌⊎◌, ℕ, Option, Some, None, List, ◌++◌, length, take, drop, refl, ap, ap₂, sym, ◌∙◌, inl, inr}
use Rattle.std.specs.Str.{bytes_eq}
use Rattle.std.proofs.lemmas.List.{take-append-drop, take_at, drop_at}
use Rattle.std.proofs.lemmas.Option.{cond_some}
use Rattle.std.proofs.lemmas.Slice.Eq.{bytes_eq-Decides}
use Rattle.line_parts.specs.Parts.{after, then_or_else}

pub after-text : (text bytes rest : List ℕ) → after text bytes ≡ Some rest → bytes ≡ text ++ rest
after-text text bytes rest e =
    let c = cond_some (bytes_eq (take (length text) bytes) text) (drop (length text) bytes) rest e in
    sym (take-append-drop (length text) bytes) ∙ ap₂ (λ (a : List ℕ) (b : List ℕ). a ++ b) ((bytes_eq-Decides (take (length text) bytes) text).0 c.0) c.1

pub after-again : (text rest : List ℕ) → after text (text ++ rest) ≡ Some rest
after-again text rest = rw (take_at text rest (length text) refl, (bytes_eq-Decides text text).1 refl) (ap Some (drop_at text rest (length text) refl))

-- what is read after a text, or without it
pub then_or_else-some : {B : Type 0} (r : Option (List ℕ)) (f : List ℕ → Option B) (other : Option B) (x : B) → then_or_else r f other ≡ Some x
    → ((rest : List ℕ) × (r ≡ Some rest) × (f rest ≡ Some x)) ⊎ (other ≡ Some x)
then_or_else-some (Some rest) f other x e = inl (rest, refl, e)
then_or_else-some None f other x e = inr e
