-- Where a line ends.
use Rattle.std.specs.Prelude.{◌≡◌, ◌≢◌, ℕ, List, [], ◌∷◌, ◌++◌, All}

-- no byte is a line feed
abbrev pub HasNoFeed : List ℕ → Type 0
HasNoFeed bytes = All (λ b. b ≢ 10) bytes

-- bytes that end with their first line feed
pub record EndsAtFeed (bytes : List ℕ) : Type 0 where
  pub front : List ℕ
  pub text : bytes ≡ front ++ 10 ∷ []
  pub feedless : HasNoFeed front
