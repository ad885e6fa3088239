-- The first of a list that fails a test, and the forms whose elements all pass it.
use Rattle.std.proofs.Common.{◌≡◌, ◌∙◌, ◌<◌, ◌+◌, ◌^◌, ◌==◌, ℕ, zero, suc, Bool, true, false, cond, List, [], ◌∷◌, map, take, Option, Some, None, refl, sym, ap, ap₂, subst, arith, true≢false}
use Rattle.std.specs.Prelude.{position}
use Rattle.std.specs.List.{position_from}
use Rattle.std.proofs.lemmas.List.Elements.{All-nil, All-cons}
use Rattle.std.proofs.lemmas.Iterator.Adapters.{position_from-zero}
use Rattle.ring_script.specs.Faults.{IsFirstStray}
use Rattle.ring_script.specs.ScriptReading.{is_no_answer, is_too_wide}
use Rattle.ring_script.specs.Script.{Fit, IsOracle, IsOracleText, answer_byte}

-- ---- the first that passes a test

abbrev pub NoneOf : (ℕ → Bool) → List ℕ → Type 0
NoneOf t [] = Unit {0}
NoneOf t (x ∷ xs) = (t x ≡ false) × NoneOf t xs

none_at : (test : Bool) (i : ℕ) (o : Option ℕ) (A : Type 0) → cond test (Some i) o ≡ None → (o ≡ None → A) → (test ≡ false) × A
none_at test i o A h1 h2 = grind arith

none_from : (t : ℕ → Bool) (i : ℕ) (xs : List ℕ) → position_from t i xs ≡ None → NoneOf t xs
none_from t i [] e = tt
none_from t i (x ∷ xs) e = none_at (t x) i (position_from t (i + 1) xs) (NoneOf t xs) e (none_from t (i + 1) xs)

none_to : (t : ℕ → Bool) (i : ℕ) (xs : List ℕ) → NoneOf t xs → position_from t i xs ≡ None
none_to t i [] s = refl
none_to t i (x ∷ xs) s = rw s.0 (none_to t (i + 1) xs s.1)

-- with an element in front that may come there, the first stray one is one further on
pub one_further : (Good Behind : List ℕ → Type 0) (x i j p : ℕ) (xs : List ℕ) → j ≡ suc i → ((ys : List ℕ) → Behind ys → Good (x ∷ ys)) → ((ys : List ℕ) → Good (x ∷ ys) → Behind ys)
    → (k : ℕ) × (p ≡ j + k) × IsFirstStray Behind xs k → (k : ℕ) × (p ≡ i + k) × IsFirstStray Good (x ∷ xs) k
one_further Good Behind x i j p xs next to from found = (
  suc found.0,
  omega (arith, found.1, next),
  record { within = omega (arith, found.2.within); before = to (take found.0 xs) found.2.before; no_more = λ s. found.2.no_more (from (take (suc found.0) xs) s) },
)

-- and one that may not come there is the first
pub at_once : (Good : List ℕ → Type 0) (x i p : ℕ) (xs : List ℕ) → Some i ≡ Some p → Good [] → ¬ Good (x ∷ []) → (k : ℕ) × (p ≡ i + k) × IsFirstStray Good (x ∷ xs) k
at_once Good x i p xs e none bad = grind arith

-- it is the first of any form that the same lists have
pub of_form : (Good Form : List ℕ → Type 0) (p : ℕ) (xs : List ℕ) → ((ys : List ℕ) → Good ys → Form ys) → ((ys : List ℕ) → Form ys → Good ys)
    → (k : ℕ) × (p ≡ 0 + k) × IsFirstStray Good xs k → IsFirstStray Form xs p
of_form Good Form p xs to from found = grind arith

stop_at : (test : Bool) (t : ℕ → Bool) (i x p : ℕ) (xs : List ℕ) → t x ≡ test → cond test (Some i) (position_from t (i + 1) xs) ≡ Some p
    → (position_from t (i + 1) xs ≡ Some p → (k : ℕ) × (p ≡ (i + 1) + k) × IsFirstStray (NoneOf t) xs k)
    → (k : ℕ) × (p ≡ i + k) × IsFirstStray (NoneOf t) (x ∷ xs) k
stop_at false t i x p xs is e later = one_further (NoneOf t) (NoneOf t) x i (i + 1) p xs (omega arith) (λ ys good. (is, good)) (λ ys s. s.1) (later e)
stop_at true t i x p xs is e later = at_once (NoneOf t) x i p xs e tt (λ s. true≢false (sym is ∙ s.0))

stop_from : (t : ℕ → Bool) (i p : ℕ) (xs : List ℕ) → position_from t i xs ≡ Some p → (k : ℕ) × (p ≡ i + k) × IsFirstStray (NoneOf t) xs k
stop_from t i p [] e = cc
stop_from t i p (x ∷ xs) e = stop_at (t x) t i x p xs refl e (stop_from t (i + 1) p xs)

first_stops : (test : Bool) (t : ℕ → Bool) (i x : ℕ) (o : Option ℕ) → t x ≡ test → ¬ NoneOf t (x ∷ []) → cond test (Some i) o ≡ Some (i + 0)
first_stops test t i x o h1 h2 = grind arith

stop_to : (t : ℕ → Bool) (i k : ℕ) (xs : List ℕ) → NoneOf t (take k xs) → ¬ NoneOf t (take (suc k) xs) → position_from t i xs ≡ Some (i + k)
stop_to t i zero [] good bad = absurd (bad tt)
stop_to t i (suc k) [] good bad = absurd (bad tt)
stop_to t i zero (x ∷ xs) good bad = first_stops (t x) t i x (position_from t (i + 1) xs) refl bad
stop_to t i (suc k) (x ∷ xs) good bad =
    rw good.0 (stop_to t (i + 1) k xs good.1 (λ s. bad (good.0, s)) ∙ ap Some (omega arith))

pub position_none : (t : ℕ → Bool) (xs : List ℕ) → position t xs ≡ None → NoneOf t xs
position_none t xs e = none_from t 0 xs (sym (position_from-zero t xs) ∙ e)

pub none_position : (t : ℕ → Bool) (xs : List ℕ) → NoneOf t xs → position t xs ≡ None
none_position t xs s = position_from-zero t xs ∙ none_to t 0 xs s

-- a form whose elements are those that fail the test
pub record IsTested (Form : List ℕ → Type 0) (t : ℕ → Bool) : Type 0 where
  pub from : (xs : List ℕ) → NoneOf t xs → Form xs
  pub to : (xs : List ℕ) → Form xs → NoneOf t xs

pub position_first : (Form : List ℕ → Type 0) (t : ℕ → Bool) → IsTested Form t → (xs : List ℕ) (p : ℕ) → position t xs ≡ Some p → IsFirstStray Form xs p
position_first Form t own xs p e = of_form (NoneOf t) Form p xs own.from own.to (stop_from t 0 p xs (sym (position_from-zero t xs) ∙ e))

pub first_position : (Form : List ℕ → Type 0) (t : ℕ → Bool) → IsTested Form t → (xs : List ℕ) (p : ℕ) → IsFirstStray Form xs p → position t xs ≡ Some p
first_position Form t own xs p s = grind (arith, position_from-zero, stop_to)

-- ---- items that fit

fit_one : (w x : ℕ) → is_too_wide w x ≡ false → x < 2 ^ w
fit_one w x e = grind arith

fit_test : (w x : ℕ) → x < 2 ^ w → is_too_wide w x ≡ false
fit_test w x h = grind arith

fit_from : (w : ℕ) (xs : List ℕ) → NoneOf (is_too_wide w) xs → Fit w xs
fit_from w [] s = All-nil (λ x. x < 2 ^ w)
fit_from w (x ∷ xs) s = All-cons (λ x. x < 2 ^ w) x xs (fit_one w x s.0) (fit_from w xs s.1)

fit_to : (w : ℕ) (xs : List ℕ) → Fit w xs → NoneOf (is_too_wide w) xs
fit_to w [] f = tt
fit_to w (x ∷ xs) f = (fit_test w x (f 0 x (omega arith)), fit_to w xs (λ k d l. f (suc k) d (omega (arith, l))))

pub fit_tested : (w : ℕ) → IsTested (Fit w) (is_too_wide w)
fit_tested w = record { from = fit_from w; to = fit_to w }

-- ---- answers

answer_back : (x : ℕ) → is_no_answer x ≡ false → x ≡ answer_byte (x == 49)
answer_back x e = grind arith

answer_test : (a : Bool) → is_no_answer (answer_byte a) ≡ false
answer_test a = grind arith

answer_again : (a : Bool) → (answer_byte a == 49) ≡ a
answer_again a = grind arith

-- the answers of a clean text
pub answers_from : (text : List ℕ) → NoneOf is_no_answer text → IsOracle text (map (λ b. b == 49) text)
answers_from [] s = refl
answers_from (x ∷ xs) s = ap₂ (λ (c : ℕ) (cs : List ℕ). c ∷ cs) (answer_back x s.0) (answers_from xs s.1)

answers_clean : (answers : List Bool) → NoneOf is_no_answer (map answer_byte answers)
answers_clean [] = tt
answers_clean (a ∷ rest) = (answer_test a, answers_clean rest)

answers_same : (answers : List Bool) → answers ≡ map (λ b. b == 49) (map answer_byte answers)
answers_same [] = refl
answers_same (a ∷ rest) = ap₂ (λ (c : Bool) (cs : List Bool). c ∷ cs) (sym (answer_again a)) (answers_same rest)

pub oracle_clean : (text : List ℕ) (answers : List Bool) → IsOracle text answers → NoneOf is_no_answer text
oracle_clean text answers e = subst (NoneOf is_no_answer) (sym e) (answers_clean answers)

pub oracle_answers : (text : List ℕ) (answers : List Bool) → IsOracle text answers → answers ≡ map (λ b. b == 49) text
oracle_answers text answers e = answers_same answers ∙ ap (map (λ b. b == 49)) (sym e)

pub oracle_tested : IsTested IsOracleText is_no_answer
oracle_tested = record { from = λ text s. (map (λ b. b == 49) text, answers_from text s); to = λ text a. oracle_clean text a.0 a.1 }
