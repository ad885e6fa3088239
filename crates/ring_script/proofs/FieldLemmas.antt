-- The names, values and kinds that are read, and what the object has.
use Rattle.std.proofs.Common.{rules, ◌≡◌, ◌⊎◌, ◌∙◌, ◌<◌, ℕ, zero, suc, Bool, true, List, Option, Some, None, Result, Ok, Err, refl, sym, ap, subst, arith, inl, inr}
use Rattle.std.specs.Prelude.{◌||◌}
use Rattle.std.specs.Str.{bytes_eq}
use Rattle.serde_json.specs.Data.{Data, object, Members, no_members, member}
use Rattle.std.proofs.lemmas.Bool.{cases_lt, and_parts}
use Rattle.std.proofs.lemmas.Slice.Eq.{bytes_eq-Decides}
use Rattle.ring_script.specs.Faults.{IsFirst, IsMissing, field_place, is_needed}
use Rattle.ring_script.specs.Results.{result_and_then}
use Rattle.ring_script.specs.FieldReading.{FieldValues, found, has_known_names, is_name, field_values}
use Rattle.ring_script.specs.Fields.{name_of, HasKnownNames, IsName, held_as}
use Rattle.ring_script.specs.declared.faults.Field.{Field}
use Rattle.ring_script.specs.declared.faults.Field.TheVariants as field
use Rattle.ring_script.specs.declared.faults.ScriptFault.{ScriptFault}
use Rattle.ring_script.specs.declared.faults.ScriptFault.TheVariants.{MissingField}

-- ---- results

pub and_then_ok : {A B E : Type 0} (r : Result A E) (f : A → Result B E) (y : B) → result_and_then r f ≡ Ok y → (a : A) × (r ≡ Ok a) × (f a ≡ Ok y)
and_then_ok r f y h1 = grind arith

pub and_then_err : {A B E : Type 0} (r : Result A E) (f : A → Result B E) (x : E) → result_and_then r f ≡ Err x → (r ≡ Err x) ⊎ ((a : A) × (r ≡ Ok a) × (f a ≡ Err x))
and_then_err r f x h1 = grind arith

pub and_then_at : {A B E : Type 0} (r : Result A E) (a : A) (f : A → Result B E) (y : Result B E) → r ≡ Ok a → f a ≡ y → result_and_then r f ≡ y
and_then_at r a f y e g = ap (λ x. result_and_then x f) e ∙ g

pub and_then_fails : {A B E : Type 0} (r : Result A E) (f : A → Result B E) (x : E) → r ≡ Err x → result_and_then r f ≡ Err x
and_then_fails r f x e = ap (λ y. result_and_then y f) e

pub ok_is : {A E : Type 0} (a b : A) → (let r : Result A E = Ok a in r ≡ Ok b) → a ≡ b
ok_is a b e = cc

pub ok_not_err : {A E : Type 0} (a : A) (x : E) → (let r : Result A E = Ok a in r ≡ Err x) → ⊥
ok_not_err a x e = cc

-- ---- names

same_bytes : (a b : List ℕ) → bytes_eq a b ≡ true → a ≡ b
same_bytes a b e = (bytes_eq-Decides a b).0 e

pick : (a b : Bool) (A : Type 0) → (a || b) ≡ true → (a ≡ true → A) → (b ≡ true → A) → A
pick a b A h1 h2 h3 = grind arith

name_is : (name : List ℕ) → is_name name ≡ true → IsName name
unfolding is_name
name_is name e =
    pick _ _ _ e (λ e9.
    pick _ _ _ e9 (λ e8.
    pick _ _ _ e8 (λ e7.
    pick _ _ _ e7 (λ e6.
    pick _ _ _ e6 (λ e5.
    pick _ _ _ e5 (λ e4.
    pick _ _ _ e4 (λ e3.
    pick _ _ _ e3 (λ e2.
    pick _ _ _ e2 (λ e1.
    (field.Capacity, same_bytes _ _ e1))
    (λ x. (field.Modulus, same_bytes _ _ x)))
    (λ x. (field.Width, same_bytes _ _ x)))
    (λ x. (field.Items, same_bytes _ _ x)))
    (λ x. (field.Takes, same_bytes _ _ x)))
    (λ x. (field.Close, same_bytes _ _ x)))
    (λ x. (field.Schedule, same_bytes _ _ x)))
    (λ x. (field.Oracle, same_bytes _ _ x)))
    (λ x. (field.Batch, same_bytes _ _ x)))
    (λ x. (field.TakeBatch, same_bytes _ _ x))

is_name_of : (f : Field) → is_name (name_of f) ≡ true
unfolding is_name
is_name_of f = grind arith

pub known_from : (ms : Members) → has_known_names ms ≡ true → HasKnownNames ms
unfolding has_known_names
known_from no_members e = tt
known_from (member name value rest) e =
    let parts = and_parts (is_name name) (has_known_names rest) e in
    (name_is name parts.0, known_from rest parts.1)

pub known_to : (ms : Members) → HasKnownNames ms → has_known_names ms ≡ true
unfolding has_known_names
known_to no_members h = refl
known_to (member name value rest) h = rw (ap is_name h.0.1 ∙ is_name_of h.0.0) (known_to rest h.1)

-- ---- the first field

abbrev pub field_at : ℕ → Field
field_at zero = field.Capacity
field_at (suc zero) = field.Modulus
field_at (suc (suc zero)) = field.Width
field_at (suc (suc (suc zero))) = field.Items
field_at (suc (suc (suc (suc zero)))) = field.Takes
field_at (suc (suc (suc (suc (suc zero))))) = field.Close
field_at (suc (suc (suc (suc (suc (suc zero)))))) = field.Schedule
field_at (suc (suc (suc (suc (suc (suc (suc zero))))))) = field.Oracle
field_at (suc (suc (suc (suc (suc (suc (suc (suc zero)))))))) = field.Batch
field_at (suc (suc (suc (suc (suc (suc (suc (suc (suc n))))))))) = field.TakeBatch

at_place : (f : Field) → field_at (field_place f) ≡ f
at_place f = grind arith

-- the first n fields have this property
abbrev pub Before : (Field → Type 0) → ℕ → Type 0
Before P zero = Unit {0}
Before P (suc n) = Before P n × P (field_at n)

before_all : (P : Field → Type 0) (n : ℕ) → Before P n → (f : Field) → field_place f < n → P f
before_all P zero h f less = absurd (omega arith)
before_all P (suc n) h f less = elim (cases_lt (field_place f) n) [
  | inl below ↦ before_all P n h.0 f below
  | inr past ↦ let same : field_place f ≡ n = omega (arith, less, past) in subst P (ap field_at (sym same) ∙ at_place f) h.1
]

first_of : (P : Field → Type 0) (f : Field) → Before (λ g. ¬ P g) (field_place f) → P f → IsFirst P f
first_of P f before so = record { so = so; least = before_all (λ g. ¬ P g) (field_place f) before }

one_first : (P : Field → Type 0) (f g : Field) → IsFirst P f → IsFirst P g → f ≡ g
one_first P f g a b = grind arith

-- the fault is that of the first field with the property
abbrev pub IsOfFirst : (Field → Type 0) → (Field → ScriptFault) → ScriptFault → Type 0
IsOfFirst P fault x = (f : Field) × (x ≡ fault f) × IsFirst P f

pub first_told : (P : Field → Type 0) (fault : Field → ScriptFault) (x : ScriptFault) (f : Field) → IsOfFirst P fault x → IsFirst P f → x ≡ fault f
first_told P fault x f told first = told.1 ∙ ap fault (one_first P told.0 f told.2 first)

-- reading the field fails if it has the property
pub record Tells {A : Type 0} (P : Field → Type 0) (fault : Field → ScriptFault) (f : Field) (r : Result A ScriptFault) : Type 0 where
  pub so : (x : ScriptFault) → r ≡ Err x → (x ≡ fault f) × P f
  pub not_so : (a : A) → r ≡ Ok a → ¬ P f

-- if fields are read one after the other and none before this one has the property, it is the first with it, or one after it is
pub next_field : {A B : Type 0} (P : Field → Type 0) (fault : Field → ScriptFault) (f : Field) (r : Result A ScriptFault) (others : A → Result B ScriptFault) (x : ScriptFault)
    → Tells P fault f r → Before (λ g. ¬ P g) (field_place f) → result_and_then r others ≡ Err x
    → ((a : A) → Before (λ g. ¬ P g) (field_place f) × ¬ P f → others a ≡ Err x → IsOfFirst P fault x) → IsOfFirst P fault x
next_field P fault f r others x tells before e later = grind arith

-- ---- values

not_found : (f : Field) (o : Option Data) (x : ScriptFault) → found f o ≡ Err x → (x ≡ MissingField f) × (o ≡ None)
not_found f o x h1 = search rules

-- the members have these values
pub record HasValues (ms : Members) (vs : FieldValues) : Type 0 where
  pub capacity : held_as field.Capacity ms ≡ Some vs.capacity
  pub modulus : held_as field.Modulus ms ≡ Some vs.modulus
  pub width : held_as field.Width ms ≡ Some vs.width
  pub items : held_as field.Items ms ≡ Some vs.items
  pub takes : held_as field.Takes ms ≡ Some vs.takes
  pub close : held_as field.Close ms ≡ Some vs.close
  pub schedule : held_as field.Schedule ms ≡ Some vs.schedule
  pub oracle : held_as field.Oracle ms ≡ Some vs.oracle
  pub batch : held_as field.Batch ms ≡ vs.batch
  pub take_batch : held_as field.TakeBatch ms ≡ vs.take_batch

pub values_from : (ms : Members) (vs : FieldValues) → field_values (object ms) ≡ Ok vs → HasValues ms vs
unfolding field_values
values_from ms vs e = search (rules, and_then_ok, ok_is)

pub values_to : (ms : Members) (vs : FieldValues) → HasValues ms vs → field_values (object ms) ≡ Ok vs
unfolding field_values
values_to ms vs h = rw (h.capacity, h.modulus, h.width, h.items, h.takes, h.close, h.schedule, h.oracle, h.batch, h.take_batch)

-- a needed field is found or missing
finds : (ms : Members) (f : Field) → is_needed f ≡ true → Tells (IsMissing ms) MissingField f (found f (held_as f ms))
finds ms f needed = search (rules, not_found)

pub values_missing : (ms : Members) (x : ScriptFault) → field_values (object ms) ≡ Err x → IsOfFirst (IsMissing ms) MissingField x
unfolding field_values
values_missing ms x e = grind arith

pub all_there : (ms : Members) (vs : FieldValues) → HasValues ms vs → (f : Field) → ¬ IsMissing ms f
all_there ms vs h1 f = grind arith

pub missing_told : (ms : Members) (f : Field) → IsFirst (IsMissing ms) f → field_values (object ms) ≡ Err (MissingField f)
missing_told ms f first = grind (arith, all_there, first_told, values_from, values_missing)

pub values_there : (ms : Members) → ((f : Field) → ¬ IsMissing ms f) → (vs : FieldValues) × HasValues ms vs
values_there ms h = elim (field_values (object ms)) as (λ r. field_values (object ms) ≡ r → (vs : FieldValues) × HasValues ms vs) [
  | Ok vs ↦ λ e. (vs, values_from ms vs e)
  | Err x ↦ λ e. let w = values_missing ms x e in absurd (h w.0 w.2.so)
] refl
