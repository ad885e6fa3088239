-- The model of a script.
use Rattle.std.specs.Prelude.{ℕ, Bool, List}
use Rattle.bits_core.specs.declared.events.Side.{Side}
use Rattle.bits_core.specs.declared.shapes.Shape.{Shape}

-- the model of a script; `letters` are the letters of its schedule, one by one
pub record Content : Type 0 where
  pub shape : Shape
  pub items : List ℕ
  pub takes : ℕ
  pub closes : Bool
  pub letters : List Side
  pub oracle : List Bool

-- the content with these parts
abbrev pub content_with : Shape → (items : List ℕ) (takes : ℕ) (closes : Bool) (letters : List Side) (oracle : List Bool) → Content
content_with shape items takes closes letters oracle =
    record { shape = shape; items = items; takes = takes; closes = closes; letters = letters; oracle = oracle }
