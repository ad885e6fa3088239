-- Takes and their end, from the first take on.
use Rattle.std.proofs.Common.{◌≡◌, ℕ, true, List, [], ◌∷◌, ◌++◌, sym, ap, append-nil}
use Rattle.ring_core.proofs.Common.{C, X, Shape, Count, Take, End, Closed, take_phrases, end_phrase}
use Rattle.bits_core.specs.Made.{Made, Read}
use Rattle.register_core.specs.ScanState.{scan_phrase, row_read_by}

-- the consumer's scan of a count
abbrev pub scan : ℕ → List Made
scan c = scan_phrase (row_read_by C) c

-- the takes after a count, and their end
abbrev pub calls_from : Shape → Count → List Take → End → List Made
calls_from shape c takes end = take_phrases shape c takes ++ end_phrase end

pub closed_first : (shape : Shape) (c : Count) (seen again : ℕ) → calls_from shape c [] (Closed seen again) ≡ scan seen ++ (Read X true ∷ (scan again ++ []))
closed_first shape c seen again = ap (λ l. scan seen ++ (Read X true ∷ l)) (sym (append-nil (scan again)))
