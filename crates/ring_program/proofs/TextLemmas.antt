-- Texts that are appended one after the other.
use Rattle.std.proofs.Common.{◌≡◌, ◌∙◌, ℕ, List, ◌++◌, ap, append_assoc}

-- two texts that were appended to a text
pub behind : (front text last a b : List ℕ) → text ≡ front ++ a → last ≡ text ++ b → last ≡ front ++ (a ++ b)
behind front text last a b first second = second ∙ ap (λ (t : List ℕ). t ++ b) first ∙ append_assoc front a b
