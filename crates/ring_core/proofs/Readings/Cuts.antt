-- Lists of events and of accesses that two programs begin with.
use Rattle.std.proofs.Common.{◌≡◌, ℕ, suc, ◌*◌, ◌<◌, ◌≤◌, List, [], ◌∷◌, ◌++◌, length, refl, sym, ap, ◌∙◌, arith, ◌⊎◌, append_assoc, append-nil, length-append}
use Rattle.ring_core.proofs.Common.{Side, Made, begin_event, events_of, IsPrefix}
use Rattle.bits_core.specs.declared.events.Event.{Event}

-- one number is at most the other, or above it
pub at_most_or_above : (a b : ℕ) → (a ≤ b) ⊎ (b < a)
at_most_or_above a b = grind arith

-- the next access of both programs, after those that they both begin with, starts with the same event
pub record OpenBoth (s : Side) (made left right : List Made) : Type 0 where
  pub on_left : Made
  pub on_right : Made
  pub more_left : List Made
  pub more_right : List Made
  pub left_is : left ≡ made ++ on_left ∷ more_left
  pub right_is : right ≡ made ++ on_right ∷ more_right
  pub same : begin_event s on_left ≡ begin_event s on_right

-- the accesses that two programs both begin with, if both begin with the same t events
pub record BeginBoth (s : Side) (t : ℕ) (left right : List Made) : Type 0 where
  pub made : List Made
  pub begins_left : IsPrefix made left
  pub begins_right : IsPrefix made right
  pub reach : t ≤ suc (2 * length made)
  pub next : suc (2 * length made) ≤ t → OpenBoth s made left right

-- programs with the same first events begin with the same accesses, as far as those have ended
pub begin_both :
    (s : Side) (es : List Event) (left right : List Made) →
    IsPrefix es (events_of s left) → IsPrefix es (events_of s right) → BeginBoth s (length es) left right
begin_both s [] left right p q = grind arith
begin_both s (e ∷ []) [] right (r, p) q = absurd (cc)
begin_both s (e ∷ []) (x ∷ left) [] p (r, q) = absurd (cc)
begin_both s (e ∷ []) (x ∷ left) (y ∷ right) (r, p) (r', q) = grind arith
begin_both s (e ∷ f ∷ es) [] right (r, p) q = absurd (cc)
begin_both s (e ∷ f ∷ es) (x ∷ left) [] p (r, q) = absurd (cc)
begin_both s (e ∷ f ∷ es) (x ∷ left) (y ∷ right) (r, p) (r', q) =
    let same : x ≡ y = grind arith in
    let on_left : es ++ r ≡ events_of s left = cc in
    let on_right : es ++ r' ≡ events_of s right = cc in
    let rest : BeginBoth s (length es) left right = begin_both s es left right (r, on_left) (r', on_right) in
    record {
      made = x ∷ rest.made;
      begins_left = (rest.begins_left.0, ap (λ l. x ∷ l) rest.begins_left.1);
      begins_right = (rest.begins_right.0, ap (λ l. x ∷ l) rest.begins_right.1 ∙ ap (λ z. z ∷ right) same);
      reach = omega (arith, rest.reach);
      next = λ l. grind arith;
    }

-- a prefix of a list that is no shorter than the list's first part consists of that part and a prefix of the rest
pub cut :
    {A : Type 0} → (us vs made more : List A) → length us ≤ length made → made ++ more ≡ us ++ vs →
    (rest : List A) × (made ≡ us ++ rest) × (rest ++ more ≡ vs)
cut [] vs made more l e = (made, refl, e)
cut (u ∷ us) vs [] more l e = absurd (omega (arith, l))
cut (u ∷ us) vs (m ∷ made) more l e = grind (arith, cut us vs made more (omega (arith, l)) (cc))

-- another program that begins with the same accesses begins with their first part too
pub also_begins :
    (us rest made left : List Made) → made ≡ us ++ rest → IsPrefix made left → (more : List Made) × (us ++ (rest ++ more) ≡ left)
also_begins us rest made left e (more, f) = (more, sym (append_assoc us rest more) ∙ ap (λ l. l ++ more) (sym e) ∙ f)

-- accesses whose events are a prefix of those of others are a prefix of these
pub made_first : (s : Side) (left right : List Made) → IsPrefix (events_of s left) (events_of s right) → IsPrefix left right
made_first s [] right begins = (right, refl)
made_first s (x ∷ left) [] (r, e) = absurd (cc)
made_first s (x ∷ left) (y ∷ right) (r, e) = grind (arith, made_first s left right (r, cc))

-- lists that begin with each other are the same
pub begin_each_other : {A : Type 0} (xs ys more more' : List A) → ys ≡ xs ++ more → xs ≡ ys ++ more' → xs ≡ ys
begin_each_other xs ys [] more' e f = sym (e ∙ append-nil xs)
begin_each_other xs ys (x ∷ more) more' e f = absurd (omega (arith, ap length e, ap length f, length-append xs (x ∷ more), length-append ys more'))
