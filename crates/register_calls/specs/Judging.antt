-- The position of a value in a list, and the greater or lesser of two numbers.
use Rattle.std.specs.Prelude.{◌≡◌, ◌≢◌, ◌⊎◌, ℕ, suc, ◌<◌, ◌≤◌, Bool, false, Option, Some, None, List, length, drop, slice_get, MatchOption}
use Rattle.register_calls.specs.declared.auditors.OpenRead.{OpenRead}

-- from a place on the value does not occur
abbrev pub HasNone : (values : List ℕ) → (from value : ℕ) → Type 0
HasNone values from value = (n : ℕ) → from ≤ n → slice_get values n ≢ Some value

-- this is the first place from there on with the value
abbrev pub IsLeast : (values : List ℕ) → (from value place : ℕ) → Type 0
IsLeast values from value place = (from ≤ place) × (slice_get values place ≡ Some value) × ((n : ℕ) → from ≤ n → n < place → slice_get values n ≢ Some value)

-- the first place from there on, if there is one
abbrev pub IsFirstPlace : (values : List ℕ) → (from value : ℕ) → Option ℕ → Type 0
IsFirstPlace values from value found = MatchOption found (HasNone values from value) (λ place. IsLeast values from value place)

-- what is found among the values of the writes that are kept, those from a base on, is the first of all from a number on
abbrev pub FindsFirst : (kept : List ℕ) (base begun from value : ℕ) → Option ℕ → Type 0
FindsFirst kept base begun from value found =
    (written : List ℕ) → kept ≡ drop base written → base ≤ from → length written ≡ suc begun → IsFirstPlace written from value found

-- a number, if there is one, is not below another
abbrev pub IsFrom : (from : ℕ) → Option ℕ → Type 0
IsFrom from None = Unit {0}
IsFrom from (Some number) = from ≤ number

-- the greater of two numbers
pub record IsGreater (a b top : ℕ) : Type 0 where
  pub left : a ≤ top
  pub right : b ≤ top
  pub least : (n : ℕ) → a ≤ n → b ≤ n → top ≤ n

-- a floor, raised to a number if there is one
abbrev pub IsRaised : (floor : ℕ) → Option ℕ → (top : ℕ) → Type 0
IsRaised floor None top = top ≡ floor
IsRaised floor (Some number) top = IsGreater floor number top

-- the lesser of a number and of the writes that had ended when a read began
abbrev pub IsOlder : Option OpenRead → (number older : ℕ) → Type 0
IsOlder None number older = older ≡ number
IsOlder (Some read) number older = (older ≤ number) × (older ≤ read.before) × ((older ≡ number) ⊎ (older ≡ read.before))

-- what held still holds, if there is a number
abbrev pub still : Bool → Option ℕ → Bool
still held None = false
still held (Some number) = held
