-- The takes of a counter ring, from their lists.
use Rattle.std.proofs.Common.{rules, ◌≡◌, ℕ, zero, suc, ◌%◌, ◌<◌, Bool, true, false, List, [], ◌∷◌, ◌++◌, length, refl, ap, sym, subst, ◌∙◌, arith, append_assoc, append-nil}
use Rattle.ring_seats.proofs.Common.{suc-mod, Shape, C, Bit, X, Cell, Event, capacity_of, modulus_of, width_of, first_value, row_bit, digit, digit_reads, word_read, scan_phrase, row_read_by}
use Rattle.ring_seats.proofs.Common.{Follows, value_left, unary_over}
use Rattle.std.proofs.lemmas.Nat.{pow_pos}
use Rattle.bits_core.specs.Made.{Made, Read, events_of}
use Rattle.ring_core.specs.Counts.{ShowsItem, number_past, Count, first_count, count_bits, batch_phrase}
use Rattle.ring_core.specs.Takes.{Take, Item, ItemAfterClose, Empty, End, Open, Closed, Takes, taken_after, count_after, taken_count, words_read, items_phrase, take_phrase, take_phrases, end_phrase, take_program, SeesItems, SeesNone, IsTakeBatch, IsTake}
use Rattle.ring_core.specs.ConsumerCalls.{count_taken, and_take, and_end, IsTakeOf, Finding, Once, Twice, finding_phrase, Finds}
use Rattle.ring_core.specs.OneCallMore.{HasOneTakeMore, HasEndMore}
use Rattle.ring_core.proofs.Machines.TakeCalls.{take_of, take_of-is, take_of-phrase}
use Rattle.ring_seats.specs.Calls.{HasTakes}
use Rattle.ring_seats.proofs.Blocks.{after}
use Rattle.ring_seats.proofs.LastWrites.{Spares, spares-append, row_written, row_tells}
use Rattle.ring_seats.proofs.CounterPuts.{RowIs, begins, counted, makes, scan_spares, first_row, row_spared, row_both, row_calls, row_left}
use Rattle.ring_core.proofs.LawLemmas.{programs_by_one_call_ends, programs_by_one_call_takes}

-- the items taken after a take that found items
pub take_of-takes : (k : ℕ) (look : Finding) (items : List ℕ) → taken_after k (take_of look items) ≡ number_past k items
take_of-takes k look items = grind arith

-- ---- the words of several items

module _ (shape : Shape) where
  -- cells are determined by their numbers modulo the capacity
  pub reads_same : (items : List ℕ) (n m : ℕ) → n % capacity_of shape ≡ m % capacity_of shape → words_read shape n items ≡ words_read shape m items
  reads_same [] n m e = refl
  reads_same (x ∷ items) n m e = λ i. word_read (width_of shape) (e i) x ++
      reads_same items (suc n) (suc m) (suc-mod n (capacity_of shape) ∙ (ap (λ (k : ℕ). suc k % capacity_of shape) e ∙ sym (suc-mod m (capacity_of shape)))) i

-- ---- the value of its count that results from the consumer's list

digits_spare : (row : ℕ → Bit) (j item n : ℕ) → Spares row (digit_reads j item n)
digits_spare row j item zero = tt
digits_spare row j item (suc n) = spares-append row (digit_reads j item n) (Read (Cell j n) (digit n item) ∷ []) (digits_spare row j item n) tt

reads_spare : (shape : Shape) (n : ℕ) (items : List ℕ) → Spares (row_bit C) (words_read shape n items)
reads_spare shape n [] = tt
reads_spare shape n (x ∷ items) = search (rules, digits_spare, spares-append, (reads_spare shape (suc n) items))

look_spares : (look : Finding) → Spares (row_bit C) (finding_phrase look)
look_spares (Once seen) = scan_spares (row_bit C) (row_read_by C) seen
look_spares (Twice seen again) = spares-append (row_bit C) (scan_phrase (row_read_by C) seen) (Read X true ∷ scan_phrase (row_read_by C) again) (scan_spares (row_bit C) (row_read_by C) seen) (scan_spares (row_bit C) (row_read_by C) again)

end_spares : (end : End) → Spares (row_bit C) (end_phrase end)
end_spares Open = tt
end_spares (Closed seen again) = look_spares (Twice seen again)

module _ (shape : Shape) where
  row_items : (bits : Bit → Bool) (c : Count) (items : List ℕ) → RowIs C bits c.bits → RowIs C (after bits (items_phrase shape c items)) (count_after shape c (Item 0 items)).bits
  row_items bits c items is =
      let words : List Made = words_read shape c.number items in
      let next : ℕ → Bool = (count_after shape c (Item 0 items)).bits in
      row_both C bits words (batch_phrase shape C c items) next
      (row_written (row_bit C) (row_tells C) (count_bits shape c items) (after bits words) c.bits (row_spared C bits words c.bits (reads_spare shape c.number items) is))

  row_found :
      (bits : Bit → Bool) (c : Count) (items : List ℕ) (look : Finding) → RowIs C bits c.bits →
      RowIs C (after bits (finding_phrase look ++ items_phrase shape c items)) (count_after shape c (Item 0 items)).bits
  row_found bits c items look is = search (rules, look_spares, row_both, row_items, row_spared)

  row_take : (bits : Bit → Bool) (c : Count) (x : Take) → RowIs C bits c.bits → RowIs C (after bits (take_phrase shape c x)) (count_after shape c x).bits
  row_take bits c (Item seen items) is = row_found bits c items (Once seen) is
  row_take bits c (ItemAfterClose seen again items) is = row_found bits c items (Twice seen again) is
  row_take bits c (Empty seen) is = search (rules, row_spared, scan_spares, spares-append)

  pub taker_row : (list : List Event) (calls : Takes) → HasTakes shape list calls → RowIs C (value_left list) (count_taken shape calls).bits
  taker_row list calls has =
      row_left C list (take_phrases shape first_count calls.takes) (end_phrase calls.end) (count_taken shape calls) has.list_is (end_spares calls.end)
      (row_calls C (take_phrase shape) (count_after shape) (take_phrases shape) (taken_count shape) (λ c. refl) (λ c y ys. refl) (λ c. refl) (λ c y ys. refl) row_take calls.takes first_value first_count (first_row C))

shows_or_not : (shape : Shape) (c k : ℕ) → Dec (ShowsItem shape c k)
shows_or_not shape c k = grind arith

-- ---- the list of a taker none of whose takes returned Closed

module _ (shape : Shape) (list : List Event) (calls : Takes) (has : HasTakes shape list calls) (opened : calls.end ≡ Open) where
  abbrev c_of : Count
  c_of = count_taken shape calls

  abbrev k_of : ℕ
  k_of = (count_taken shape calls).number

  abbrev scan_of : ℕ → List Made
  scan_of seen = scan_phrase (row_read_by C) seen

  abbrev prog : List Made
  prog = take_program shape calls

  pub take_more : (x : Take) → IsTake shape (count_taken shape calls).number x → HasOneTakeMore shape calls x
  take_more x is = programs_by_one_call_takes shape calls x has.are opened is

  end_more : (seen again : ℕ) → SeesNone shape k_of seen → SeesNone shape k_of again → HasEndMore shape calls seen again
  end_more seen again none none' = programs_by_one_call_ends shape calls seen again has.are opened none none'

  -- what was made continues to a take, or to one that returns Closed
  goes : (x : Take) (a rest : List Made) → IsTake shape k_of x → take_phrase shape c_of x ≡ a ++ rest → Follows shape C (list ++ events_of C a)
  goes x a rest is phrase =
      (and_take calls x, (take_more x is).are, begins C list prog has.list_is a rest (take_program shape (and_take calls x)) ((take_more x is).program_is ∙ ap (λ (l : List Made). prog ++ l) phrase))

  tells_so : (seen again : ℕ) (a rest : List Made) → SeesNone shape k_of seen → SeesNone shape k_of again → end_phrase (Closed seen again) ≡ a ++ rest → Follows shape C (list ++ events_of C a)
  tells_so seen again a rest none none' phrase =
      let m = end_more seen again none none' in
      (and_end calls seen again, m.are, begins C list prog has.list_is a rest (take_program shape (and_end calls seen again)) (m.program_is ∙ ap (λ (l : List Made). prog ++ l) phrase))

  pub whole_take : (x : Take) (now : List Event) → IsTake shape (count_taken shape calls).number x → now ≡ list ++ events_of C (take_phrase shape (count_taken shape calls) x) → HasTakes shape now (and_take calls x)
  whole_take x now is e = grind (arith, (makes C list prog has.list_is (take_phrase shape c_of x) (take_program shape (and_take calls x)) now (take_more x is).program_is e), (take_more x is))

  pub whole_end : (seen again : ℕ) (now : List Event) → SeesNone shape (count_taken shape calls).number seen → SeesNone shape (count_taken shape calls).number again → now ≡ list ++ events_of C (end_phrase (Closed seen again)) → HasTakes shape now (and_end calls seen again)
  whole_end seen again now none none' e =
      let m = end_more seen again none none' in
      record { are = m.are; list_is = makes C list prog has.list_is (end_phrase (Closed seen again)) (take_program shape (and_end calls seen again)) now m.program_is e }

  -- one item may be taken if the count shows some
  one_shown : (c : ℕ) → c < modulus_of shape → ShowsItem shape c (k_of % modulus_of shape) → SeesItems shape k_of c 1
  one_shown c lt shows = (lt, shows.0, shows.1)

  one_batch : IsTakeBatch shape (0 ∷ [])
  one_batch = record { some = omega arith; few = shape.has_take_batch; fit = (pow_pos (width_of shape), tt) }

  pub can_scan : (c : ℕ) → c < modulus_of shape → Follows shape C (list ++ events_of C (scan_phrase (row_read_by C) c))
  can_scan c lt = go (shows_or_not shape c (k_of % modulus_of shape))
    where
      go : Dec (ShowsItem shape c ((count_taken shape calls).number % modulus_of shape)) → Follows shape C (list ++ events_of C (scan_phrase (row_read_by C) c))
      go (yes shows) = goes (Item c (0 ∷ [])) (scan_of c) (items_phrase shape c_of (0 ∷ [])) (one_shown c lt shows, one_batch) refl
      go (no none) = goes (Empty c) (scan_of c) (Read X false ∷ []) (lt, none) refl

  module _ (seen : ℕ) (none : SeesNone shape (count_taken shape calls).number seen) where
    -- the read of the close bit
    pub can_ask : (v : Bool) → Follows shape C (list ++ events_of C (scan_phrase (row_read_by C) seen ++ Read X v ∷ []))
    can_ask true = tells_so seen seen (scan_of seen ++ Read X true ∷ []) (scan_of seen) none none (sym (append_assoc (scan_of seen) (Read X true ∷ []) (scan_of seen)))
    can_ask false = goes (Empty seen) (scan_of seen ++ Read X false ∷ []) [] none (sym (append-nil (scan_of seen ++ Read X false ∷ [])))

    -- the second scan
    pub can_rescan : (c : ℕ) → c < modulus_of shape → Follows shape C (list ++ events_of C (scan_phrase (row_read_by C) seen ++ Read X true ∷ scan_phrase (row_read_by C) c))
    can_rescan c lt = go (shows_or_not shape c (k_of % modulus_of shape))
      where
        go : Dec (ShowsItem shape c ((count_taken shape calls).number % modulus_of shape)) → Follows shape C (list ++ events_of C (scan_phrase (row_read_by C) seen ++ Read X true ∷ scan_phrase (row_read_by C) c))
        go (yes shows) = goes (ItemAfterClose seen c (0 ∷ [])) (finding_phrase (Twice seen c)) (items_phrase shape c_of (0 ∷ [])) (none, one_shown c lt shows, one_batch) refl
        go (no none') = tells_so seen c (end_phrase (Closed seen c)) [] none (lt, none') (sym (append-nil (end_phrase (Closed seen c))))

  module _ (wanted : ℕ) (look : Finding) (items : List ℕ) (finds : Finds shape (count_taken shape calls).number wanted look (length items)) (batch : IsTakeBatch shape items) where
    pub is_take : IsTake shape (count_taken shape calls).number (take_of look items) × IsTakeOf shape (count_taken shape calls).number wanted (take_of look items)
    is_take = take_of-is shape k_of wanted look items finds batch

    abbrev words : List Made
    words = words_read shape k_of items

    abbrev made : List Made
    made = finding_phrase look ++ words

    -- the word reads
    pub can_read : Follows shape C (list ++ events_of C (finding_phrase look ++ words_read shape (count_taken shape calls).number items))
    can_read = grind (arith, (append_assoc (finding_phrase look) words (batch_phrase shape C c_of items)), (goes (take_of look items) made (batch_phrase shape C c_of items) is_take.0 (take_of-phrase shape c_of look items ∙ sym (append_assoc (finding_phrase look) words (batch_phrase shape C c_of items)))), (take_of look items), (take_of-phrase shape c_of look items))

    module _ (now : List Event) (e : now ≡ list ++ events_of C (finding_phrase look ++ words_read shape (count_taken shape calls).number items)) (new : ℕ) (next : new ≡ number_past (count_taken shape calls).number items % modulus_of shape) where
      phrase_is : now ++ events_of C (unary_over C now new) ≡ list ++ events_of C (take_phrase shape c_of (take_of look items))
      phrase_is = grind (arith, (append_assoc (finding_phrase look) words (batch_phrase shape C c_of items)), (counted shape C list now made c_of e (spares-append (row_bit C) (finding_phrase look) words (look_spares look) (reads_spare shape k_of items)) (taker_row shape list calls has) items new next), (look_spares look), (reads_spare shape k_of items), (spares-append (row_bit C) (finding_phrase look) words (look_spares look) (reads_spare shape k_of items)), (take_of-phrase shape c_of look items), (taker_row shape list calls has))

      pub can_count : Follows shape C (now ++ events_of C (unary_over C now new))
      can_count = subst (Follows shape C) (sym phrase_is) (goes (take_of look items) (take_phrase shape c_of (take_of look items)) [] is_take.0 (sym (append-nil (take_phrase shape c_of (take_of look items)))))

      pub taken_is : HasTakes shape (now ++ events_of C (unary_over C now new)) (and_take calls (take_of look items))
      taken_is = whole_take (take_of look items) (now ++ events_of C (unary_over C now new)) is_take.0 phrase_is
