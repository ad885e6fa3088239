-- The loops of a witness over the items inside and those taken last.
use Rattle.std.proofs.Common.{◌≡◌, ◌⊎◌, ℕ, ◌+◌, ◌-◌, ◌<◌, ◌≤◌, Bool, true, false, List, [], ◌∷◌, ◌++◌, Some, None, length, get_or, set, take, drop, map, reverse, refl, sym, ap, ap₂, ◌∙◌, arith, eq-eqb, append-nil, append_assoc, length-append, length-drop, length-take-le}
use Rattle.std.specs.Prelude.{◌==◌, find, nat_lt}
use Rattle.queue_calls.proofs.Common.{nat_tests, Offered, Taken, at, last_in, last_of, offered_at, stored_at, taken_at, agreed, comes, last_taken_of}
use Rattle.std.proofs.lemmas.List.{drop-append-le, drop-drop, drop_all, drop_more, get_or-append_right, get_or-map, get_or_at, get_or_read, length-map, map_more, map_push, nil_from_length, reverse-append, set_at, take_more}

-- numbers that differ are not equal by the test
other : (a b : ℕ) → (a ≡ b → ⊥) → a == b ≡ false
other a b f = grind (arith, nat_tests)

-- ---- the last one that passes a test, before a place

module _ {X : Type 0} (p : X → Bool) (xs : List X) (i : ℕ) (d : X) (h : i < length xs) where
  last_here : p (get_or xs i d) ≡ true → find p (reverse (take (i + 1) xs)) ≡ Some (get_or xs i d)
  last_here e = rw (take_more xs i d h, reverse-append (take i xs) (get_or xs i d ∷ []), e) refl

  last_on : p (get_or xs i d) ≡ false → find p (reverse (take (i + 1) xs)) ≡ find p (reverse (take i xs))
  last_on e = rw (take_more xs i d h, reverse-append (take i xs) (get_or xs i d ∷ []), e) refl

-- ---- whether an item comes, from a place on

module _ (item place i : ℕ) (entries : List Offered) (same : comes item (drop place entries) ≡ comes item (drop i entries)) where
  module _ (e : Offered) (is : e ≡ at entries i) (h : i < length entries) where
    pub comes_here : e.item ≡ item → true ≡ comes item (drop place entries)
    comes_here equal = grind (arith, eq-eqb, drop_more)

    pub comes_on : (e.item ≡ item → ⊥) → comes item (drop place entries) ≡ comes item (drop (i + 1) entries)
    comes_on differs = grind (arith, other, drop_more)

  pub comes_not : length entries ≤ i → false ≡ comes item (drop place entries)
  comes_not h = rw (same, drop_all i entries h) refl

-- ---- how many of the first items are the next ones

-- the entry that is got at a place is there
pub entry_at : (entries : List Offered) (i : ℕ) (next : Offered) → true ≡ nat_lt i (length entries) → next ≡ get_or entries i next → (i < length entries) × (next ≡ at entries i)
entry_at entries i next within is = grind (arith, length, nat_tests, get_or_read)

module _ (items : List ℕ) (entries : List Offered) (i : ℕ) (same : agreed items entries ≡ agreed (drop i items) (drop i entries) + i) where
  module _ (h : i < length items) where
    module _ (next : Offered) (within : i < length entries) (is : next ≡ at entries i) where
      pub agreed_on : next.item ≡ get_or items i 0 → agreed items entries ≡ agreed (drop (i + 1) items) (drop (i + 1) entries) + (i + 1)
      agreed_on equal = grind (arith, get_or, eq-eqb, drop, drop_more)

      pub agreed_here : (next.item ≡ get_or items i 0 → ⊥) → i ≡ agreed items entries
      agreed_here differs = grind (arith, get_or, other, drop, drop_more)

    pub agreed_past : length entries ≤ i → i ≡ agreed items entries
    agreed_past past = grind (arith, drop i items, drop i entries, drop_more items i 0 h, drop_all i entries past)

  pub agreed_all : length items ≡ i → length items ≡ agreed items entries
  agreed_all end = grind (arith, drop, drop_all)

-- ---- where an item is among those taken last

module _ (item i : ℕ) (all : List Taken) (same : last_taken_of item all ≡ last_taken_of item (take i all)) where
  module _ (t : Taken) (some : 0 < i) (h : i ≤ length all) (is : t ≡ get_or all (i - 1) t) where
    from_here : last_taken_of item all ≡ last_taken_of item (take (i - 1 + 1) all)
    from_here = let up : i ≡ i - 1 + 1 = omega arith in same ∙ ap (λ z. last_taken_of item (take z all)) up

    pub last_is : t.item ≡ item → Some t ≡ last_taken_of item all
    last_is equal = grind (arith, get_or, eq-eqb, from_here, last_here)

    pub last_before : (t.item ≡ item → ⊥) → last_taken_of item all ≡ last_taken_of item (take (i - 1) all)
    last_before differs = grind (arith, get_or, other, from_here, last_on)

  pub last_none : i ≡ 0 → None ≡ last_taken_of item all
  last_none none = sym (same ∙ ap (λ z. last_taken_of item (take z all)) none)

-- ---- the last ones of a list, of which `limit` are kept

module _ {A : Type 0} (limit : ℕ) (xs : List A) where
  module _ (some : 0 < limit) (x : A) where
    last_full : limit ≤ length (last_of limit xs) → last_of limit (xs ++ x ∷ []) ≡ drop 1 (last_of limit xs) ++ x ∷ []
    last_full full = grind (arith, length xs, length (xs ++ x ∷ []), length-drop, length, length-append xs (x ∷ []), drop, drop-append-le, drop-drop 1 (length xs - limit) xs)

-- if none is kept there are none
pub last_none_kept : {A : Type 0} (limit : ℕ) (xs : List A) → limit ≡ 0 → last_of limit xs ≡ []
last_none_kept limit xs none = drop_all (length xs - limit) xs (omega (arith, none))

-- the last one of earlier ones and those of a line is the last of the line, if this has one
module _ (earlier : List Taken) (line : ℕ) (items : List ℕ) where
  pub last_in_line : (item : ℕ) → 0 < length items → item ≡ get_or items (length items - 1) 0 → taken_at line item ≡ last_in (earlier ++ map (taken_at line) items)
  last_in_line item some is =
      grind (arith, map (taken_at line) items, length earlier, length items, length-append, length-map items (taken_at line), get_or-append_right, get_or, get_or-map (taken_at line) items (length items - 1) 0 (taken_at 0 0) (omega (arith, some)))

  pub last_in_none : (last : Taken) → length items ≤ 0 → last ≡ last_in earlier → last ≡ last_in (earlier ++ map (taken_at line) items)
  last_in_none last none is = grind (arith, map, nil_from_length, append-nil)

-- the first one is removed if `limit` are kept
abbrev pub MakesRoom : {A : Type 0} → ℕ → List A → List A → Type 0
MakesRoom limit before kept = ((limit ≤ length before) × (kept ≡ drop 1 before)) ⊎ ((length before < limit) × (kept ≡ before))

-- what was taken last, after earlier ones and these of the line
abbrev pub taken_behind : (limit : ℕ) → (earlier : List Taken) → (line : ℕ) → List ℕ → List Taken
taken_behind limit earlier line items = last_of limit (earlier ++ map (taken_at line) items)

module _ (limit : ℕ) (some : 0 < limit) (earlier : List Taken) (line : ℕ) (items : List ℕ) (i : ℕ) (h : i < length items) (before kept : List Taken) where
  module _ (is : before ≡ taken_behind limit earlier line (take i items)) (room : MakesRoom limit before kept) where
    pub took_more : kept ++ taken_at line (get_or items i 0) ∷ [] ≡ taken_behind limit earlier line (take (i + 1) items)
    took_more =
        grind (arith, map (taken_at line) (take (i + 1) items), map (taken_at line) (take i items), take (i + 1) items, take i items, get_or items i 0, map_more (taken_at line) items i 0 h, append_assoc earlier (map (taken_at line) (take i items)) (taken_at line (get_or items i 0) ∷ []), last_full, length, length-drop, length-append, drop)

    pub took_few : (length kept < limit) × (length kept < length earlier + length items)
    took_few = grind (arith, length, map, take, length-drop, length-append, length-map, length-take-le)

-- ---- entries changed from one place on and before another

abbrev pub changed : {A : Type 0} → (A → A) → (from index : ℕ) → List A → List A
changed f from index xs = take from xs ++ (map f (drop from (take index xs)) ++ drop index xs)

module _ {A : Type 0} (f : A → A) (from : ℕ) (xs : List A) (index : ℕ) (low : from ≤ index) (high : index < length xs) (d : A) where
  before : List A
  before = take from xs ++ map f (drop from (take index xs))

  changed_parts : changed f from index xs ≡ before ++ get_or xs index d ∷ drop (index + 1) xs
  unfolding before
  changed_parts =
      ap (λ l. take from xs ++ (map f (drop from (take index xs)) ++ l)) (drop_more xs index d high)
      ∙ sym (append_assoc (take from xs) (map f (drop from (take index xs))) (get_or xs index d ∷ drop (index + 1) xs))

  before_length : length before ≡ index
  unfolding before
  before_length =
      omega (
        arith,
        length-append (take from xs) (map f (drop from (take index xs))),
        length-map (drop from (take index xs)) f,
        length-drop from (take index xs),
        length-take-le index xs (omega (arith, high)),
        length-take-le from xs (omega (arith, low, high)),
      )

  changed_at : get_or (changed f from index xs) index d ≡ get_or xs index d
  changed_at = ap (λ l. get_or l index d) changed_parts ∙ get_or_at before (get_or xs index d) (drop (index + 1) xs) d index before_length

  changed_more : set (changed f from index xs) index (f (get_or xs index d)) ≡ changed f from (index + 1) xs
  unfolding before
  changed_more =
      let x = get_or xs index d in
      let rest = drop (index + 1) xs in
      let more : drop from (take (index + 1) xs) ≡ drop from (take index xs) ++ x ∷ [] =
      ap (λ l. drop from l) (take_more xs index d high) ∙ drop-append-le from (take index xs) (x ∷ []) (omega (arith, length-take-le index xs (omega (arith, high)), low)) in
      ap (λ l. set l index (f x)) changed_parts
      ∙ (set_at before x rest (f x) index before_length
      ∙ (append_assoc (take from xs) (map f (drop from (take index xs))) (f x ∷ rest)
      ∙ ap (λ l. take from xs ++ l)
      (sym (
      ap (λ l. map f l ++ rest) more
      ∙ (ap (λ l. l ++ rest) (map_push f (drop from (take index xs)) x) ∙ append_assoc (map f (drop from (take index xs))) (f x ∷ []) rest)))))

-- one more entry, as the line stores it
pub stores_more :
    (line from i : ℕ) (old now after : List Offered) (entry : Offered) → from ≤ i → i < length old → now ≡ changed (stored_at line) from i old → entry ≡ at now i →
    after ≡ set now i (stored_at line entry) → after ≡ changed (stored_at line) from (i + 1) old
stores_more line from i old now after entry low high is e s =
    let same : entry ≡ at old i = e ∙ (ap (λ l. at l i) is ∙ changed_at (stored_at line) from old i low high (offered_at 0 0)) in
    s ∙ (ap₂ (λ l x. set l i (stored_at line x)) is same ∙ changed_more (stored_at line) from old i low high (offered_at 0 0))
