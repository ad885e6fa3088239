-- Each item of a list fits if all of them do.
use Rattle.std.proofs.Common.{ℕ, ◌^◌, ◌<◌, ◌↔◌, List, [], ◌∷◌, zero, suc, take, drop}
use Rattle.std.specs.Prelude.{All}
use Rattle.std.proofs.lemmas.List.Elements.{All-nil, All-cons, All-head, All-tail}
use Rattle.bits_core.specs.declared.shapes.Shape.{Shape}
use Rattle.bits_core.specs.Shape.{AllFit, width_of}

each_fits : (shape : Shape) (items : List ℕ) → AllFit shape items → All (λ item. item < 2 ^ width_of shape) items
each_fits shape [] fit = All-nil (λ v. v < 2 ^ width_of shape)
each_fits shape (item ∷ items) (here, rest) = All-cons (λ v. v < 2 ^ width_of shape) item items here (each_fits shape items rest)

all_of_each : (shape : Shape) (items : List ℕ) → All (λ item. item < 2 ^ width_of shape) items → AllFit shape items
all_of_each shape [] each = tt
all_of_each shape (item ∷ items) each = (All-head (λ v. v < 2 ^ width_of shape) item items each, all_of_each shape items (All-tail (λ v. v < 2 ^ width_of shape) item items each))

pub all_fit : (shape : Shape) (items : List ℕ) → All (λ item. item < 2 ^ width_of shape) items ↔ AllFit shape items
all_fit shape items = (all_of_each shape items, each_fits shape items)

-- likewise for each item of a part
pub AllFit-take : (shape : Shape) (n : ℕ) (xs : List ℕ) → AllFit shape xs → AllFit shape (take n xs)
AllFit-take shape zero xs fit = tt
AllFit-take shape (suc n) [] fit = tt
AllFit-take shape (suc n) (x ∷ xs) fit = (fit.0, AllFit-take shape n xs fit.1)

pub AllFit-drop : (shape : Shape) (n : ℕ) (xs : List ℕ) → AllFit shape xs → AllFit shape (drop n xs)
AllFit-drop shape zero xs fit = fit
AllFit-drop shape (suc n) [] fit = tt
AllFit-drop shape (suc n) (x ∷ xs) fit = AllFit-drop shape n xs fit.1
