-- The access that the consumer's machine has due is the next one of its take.
use Rattle.std.proofs.Common.{◌≡◌, ◌⊎◌, inl, inr, ℕ, suc, ◌+◌, ◌-◌, ◌%◌, ◌<◌, ◌≤◌, Bool, true, false, IfSome, Option, Some, None, List, [], ◌∷◌, ◌++◌, length, refl, sym, ap, subst, ◌∙◌, arith, append_assoc, append-nil, length-append}
use Rattle.ring_core.proofs.Common.{mod-lt, mul-le-mul_right, suc-mul, nat_tests, C, X, Cell, Access, Shape, capacity_of, modulus_of, take_batch_of, width_of, IsNext, count_writes, UnaryStands}
use Rattle.ring_core.proofs.Common.{due_unary, ShowsItem, distance, number_past, Count, first_count, batch_phrase, IsScanning, EndsInZeros, ConsumerState, IsTaking, IsLoading, due_take, takes_at}
use Rattle.ring_core.proofs.Common.{is_taking}
use Rattle.bits_core.specs.declared.events.Access.TheVariants as begins
use Rattle.bits_core.specs.Open.{IsOpenRight}
use Rattle.bits_core.specs.Made.{Made, Read, answered, IsPrefix}
use Rattle.register_core.specs.Word.{word_read}
use Rattle.register_core.specs.WordState.{ReaderState, ReaderStands, IsNextRead, due_read}
use Rattle.register_core.specs.ScanState.{scan_phrase, row_read_by, due_scan, LastIsDue}
use Rattle.ring_core.specs.declared.consumers.Stage.TheVariants.{Scanning, Checking, Rescanning, Loading, Counting}
use Rattle.ring_core.specs.Lengths.{longest_taking}
use Rattle.ring_core.specs.Takes.{Take, Takes, Item, ItemAfterClose, Empty, Open, Closed, words_read, items_phrase, take_phrase, take_phrases, end_phrase, take_program, IsTake, SeesItems, SeesNone, IsTakeBatch, AreTakes}
use Rattle.ring_core.specs.ConsumerCalls.{ConsumerStands, Finding, Twice, finding_phrase, Finds, made_of_take, count_taken, values_taken, and_take, and_end, BeginsTake, TakeGoesOn, TakesAll, IsTakeOf}
use Rattle.ring_core.proofs.CountRow.{values_writes-push}
use Rattle.ring_core.proofs.Machines.Lengths.{takes-are_short, ends-are_short}
use Rattle.ring_core.proofs.Machines.MachineParts.{longer}
use Rattle.ring_core.proofs.Readings.ByCalls.{takes_open}
use Rattle.ring_core.proofs.Machines.Batches.{far_from}
use Rattle.ring_core.proofs.Machines.NextParts.{begins_more, begins_behind, length-part, scan_due, scan_reads, scan_goes_on, next_write}
use Rattle.ring_core.proofs.Machines.TakeCalls.{are-push, are-last, are-end, end-sees_none, program-push, calls_are_count, values_hold, words_read-append, zeros, zeros-long, zeros-fit, fit-append, take_of, take_of-is, take_of-phrase}
use Rattle.ring_core.proofs.Machines.ConsumerMoves.{made_at, open_at}

-- ---- prefixes of one more take

-- accesses that start a take
begins_take :
    (shape : Shape) (wanted : ℕ) (calls : Takes) (made part : List Made) (x : Take) → AreTakes shape 0 calls.takes calls.end → calls.end ≡ Open →
    IsTake shape (count_taken shape calls).number x × IsTakeOf shape (count_taken shape calls).number wanted x → made ≡ take_phrases shape first_count calls.takes ++ part →
    IsPrefix part (take_phrase shape (count_taken shape calls) x) → BeginsTake shape wanted calls made
begins_take shape wanted calls made part x are o (is, of) made_is (rest, e) =
    let front : List Made = take_phrases shape first_count calls.takes in (
      and_take calls x,
      record {
        is_one_more = inl (x, of, refl);
        are = are-push shape first_count calls.takes x (subst (λ d. AreTakes shape 0 calls.takes d) o are) is;
        not_over = o;
      },
      (rest, ap (λ l. l ++ rest) made_is ∙ append_assoc front part rest ∙ ap (λ l. front ++ l) e ∙ sym (program-push shape calls x)),
    )

-- accesses that start a take that found items with these scans
begins_found :
    (shape : Shape) (wanted : ℕ) (calls : Takes) (made part : List Made) (look : Finding) (items : List ℕ) → AreTakes shape 0 calls.takes calls.end → calls.end ≡ Open →
    Finds shape (count_taken shape calls).number wanted look (length items) → IsTakeBatch shape items → made ≡ take_phrases shape first_count calls.takes ++ part →
    IsPrefix part (finding_phrase look ++ items_phrase shape (count_taken shape calls) items) → BeginsTake shape wanted calls made
begins_found shape wanted calls made part look items are o finds batch made_is begins_look =
    let c : Count = count_taken shape calls in
    begins_take shape wanted calls made part (take_of look items) are o (take_of-is shape c.number wanted look items finds batch) made_is
    (subst (λ l. IsPrefix part l) (sym (take_of-phrase shape c look items)) begins_look)

-- items of 0, as many as a take takes if the count shows some
zeros_for :
    (shape : Shape) (k wanted c : ℕ) → 1 ≤ wanted → wanted ≤ take_batch_of shape → c < modulus_of shape → ShowsItem shape c (k % modulus_of shape) →
    (m : ℕ) × SeesItems shape k c (length (zeros m)) × IsTakeBatch shape (zeros m) × TakesAll shape k wanted c (length (zeros m))
zeros_for shape k wanted c some few below shows =
    let d : ℕ = distance (modulus_of shape) c (k % modulus_of shape) in
    elim (which wanted d) [
      | inl l ↦ let long : length (zeros wanted) ≡ wanted = zeros-long wanted in (
        wanted,
        (below, omega (arith, long, l), shows.1),
        record { some = omega (arith, long, some); few = omega (arith, long, few); fit = zeros-fit shape wanted },
        (omega (arith, long), inl long),
      )
      | inr l ↦ let long : length (zeros d) ≡ d = zeros-long d in (
        d,
        (below, omega (arith, long), shows.1),
        record { some = omega (arith, long, shows.0); few = omega (arith, long, few, l); fit = zeros-fit shape d },
        (omega (arith, long, l), inr long),
      )
    ]
  where
    which : (a b : ℕ) → (a ≤ b) ⊎ (b ≤ a)
    which a b = grind arith

-- accesses that start a take that returns Closed
begins_end :
    (shape : Shape) (wanted : ℕ) (calls : Takes) (made part : List Made) (seen again : ℕ) → AreTakes shape 0 calls.takes calls.end → calls.end ≡ Open →
    SeesNone shape (count_taken shape calls).number seen → SeesNone shape (count_taken shape calls).number again → made ≡ take_phrases shape first_count calls.takes ++ part →
    IsPrefix part (end_phrase (Closed seen again)) → BeginsTake shape wanted calls made
begins_end shape wanted calls made part seen again are o none none' made_is (rest, e) =
    let front : List Made = take_phrases shape first_count calls.takes in (
      and_end calls seen again,
      record {
        is_one_more = inr (seen, again, refl);
        are = are-end shape first_count calls.takes seen again (subst (λ d. AreTakes shape 0 calls.takes d) o are) none none';
        not_over = o;
      },
      (rest, ap (λ l. l ++ rest) made_is ∙ append_assoc front part rest ∙ ap (λ l. front ++ l) e),
    )

shows_or_none : (shape : Shape) (c k : ℕ) → ShowsItem shape c k ⊎ (ShowsItem shape c k → ⊥)
shows_or_none shape c k = grind arith

-- accesses that start the first scan of a take
begins_scan :
    (shape : Shape) (wanted : ℕ) → 1 ≤ wanted → wanted ≤ take_batch_of shape → (calls : Takes) (made part : List Made) (c : ℕ) → AreTakes shape 0 calls.takes calls.end → calls.end ≡ Open → c < modulus_of shape →
    made ≡ take_phrases shape first_count calls.takes ++ part → IsPrefix part (scan_phrase (row_read_by C) c) → BeginsTake shape wanted calls made
begins_scan shape wanted some few calls made part c are o below made_is begins_c =
    let n : Count = count_taken shape calls in
    let k : ℕ = n.number in
    let scan : List Made = scan_phrase (row_read_by C) c in
    elim (shows_or_none shape c (k % modulus_of shape)) [
      | inl shows ↦ let (m, sees, batch, all) = zeros_for shape k wanted c some few below shows in
          begins_take shape wanted calls made part (Item c (zeros m)) are o ((sees, batch), all) made_is
          (begins_more part scan (items_phrase shape n (zeros m)) begins_c)
      | inr none ↦ begins_take shape wanted calls made part (Empty c) are o ((below, none), tt) made_is (begins_more part scan (Read X false ∷ []) begins_c)
    ]

-- accesses that start the second scan of a take
begins_rescan :
    (shape : Shape) (wanted : ℕ) → 1 ≤ wanted → wanted ≤ take_batch_of shape → (calls : Takes) (made part : List Made) (seen again : ℕ) → AreTakes shape 0 calls.takes calls.end → calls.end ≡ Open →
    SeesNone shape (count_taken shape calls).number seen → again < modulus_of shape → made ≡ take_phrases shape first_count calls.takes ++ part →
    IsPrefix part (finding_phrase (Twice seen again)) → BeginsTake shape wanted calls made
begins_rescan shape wanted some few calls made part seen again are o sees below made_is begins_scans =
    let n : Count = count_taken shape calls in
    let k : ℕ = n.number in
    elim (shows_or_none shape again (k % modulus_of shape)) [
      | inl shows ↦ let (m, sees', batch, all) = zeros_for shape k wanted again some few below shows in
          begins_take shape wanted calls made part (ItemAfterClose seen again (zeros m)) are o ((sees, sees', batch), all) made_is
          (begins_more part (finding_phrase (Twice seen again)) (items_phrase shape n (zeros m)) begins_scans)
      | inr none ↦ begins_end shape wanted calls made part seen again are o sees (below, none) made_is begins_scans
    ]

-- ---- how many accesses a take has

-- a take that continues has not yet had its most accesses
pub begins_short :
    (shape : Shape) (wanted : ℕ) (calls : Takes) (made : List Made) (y : Made) → 1 ≤ wanted → BeginsTake shape wanted calls (made ++ y ∷ []) →
    length made < length (take_program shape calls) + longest_taking shape wanted
begins_short shape wanted calls made y some (more, has, (rest, e)) =
    let n : Count = count_taken shape calls in
    let front : List Made = take_phrases shape first_count calls.takes in
    let program : length (take_program shape calls) ≡ length front = ap length (takes_open shape calls has.not_over) in
    elim has.is_one_more [
      | inl (x, of, more_is) ↦
          let is : IsTake shape n.number x = are-last shape first_count calls.takes x (subst (λ (m : Takes). AreTakes shape 0 m.takes m.end) more_is has.are) in
          let whole : (made ++ y ∷ []) ++ rest ≡ front ++ take_phrase shape n x = e ∙ ap (take_program shape) more_is ∙ program-push shape calls x in
          let last : List Made = take_phrase shape n x in
          grind (arith, length-part made rest (front ++ last) y whole, length-append front last, takes-are_short shape n x (calls_are_count shape calls) is, program, mul-le-mul_right, suc-mul)
      | inr (seen, again, more_is) ↦
          let sees : SeesNone shape n.number seen × SeesNone shape n.number again =
          end-sees_none shape first_count calls.takes seen again (subst (λ (m : Takes). AreTakes shape 0 m.takes m.end) more_is has.are) in
          let end : List Made = end_phrase (Closed seen again) in
          let whole : (made ++ y ∷ []) ++ rest ≡ front ++ end = e ∙ ap (take_program shape) more_is in
          grind (arith, length-part made rest (front ++ end) y whole, length-append front end, ends-are_short shape n.number seen again sees.0 sees.1, program, mul-le-mul_right, suc-mul)
    ]

-- ---- the stages

-- a take is under way, and continues with the access that is due
pub record Going (shape : Shape) (wanted : ℕ) (taking : Bool) (calls : Takes) (made : List Made) (due : Option Access) : Type 0 where
  pub access : Access
  pub taking_is : taking ≡ true
  pub due_is : due ≡ Some access
  pub some : 1 ≤ wanted
  pub goes_on : TakeGoesOn shape wanted calls made access

going_rests :
    (shape : Shape) (wanted : ℕ) (taking : Bool) (calls : Takes) (made : List Made) (due : Option Access) → Going shape wanted taking calls made due → due ≡ None →
    (taking ≡ false) × (made ≡ take_program shape calls)
going_rests shape wanted taking calls made due g none = absurd (let clash : Some g.access ≡ None = sym g.due_is ∙ none in cc)

pub going_on :
    (shape : Shape) (wanted : ℕ) (taking : Bool) (calls : Takes) (made : List Made) (due : Option Access) → Going shape wanted taking calls made due → (access : Access) →
    due ≡ Some access → (taking ≡ true) × TakeGoesOn shape wanted calls made access
going_on shape wanted taking calls made due g access e = (g.taking_is, subst (λ a. TakeGoesOn shape wanted calls made a) (some_same g.access access (sym g.due_is ∙ e)) g.goes_on)
  where
    some_same : (a b : Access) → Some a ≡ Some b → a ≡ b
    some_same a b e = cc

pub going_bounded :
    (shape : Shape) (wanted : ℕ) (taking : Bool) (calls : Takes) (made : List Made) (due : Option Access) → Going shape wanted taking calls made due →
    length made < length (take_program shape calls) + longest_taking shape wanted
going_bounded shape wanted taking calls made due g = begins_short shape wanted calls made (answered g.access true) g.some (g.goes_on true (λ l. refl))

-- the contract of `next` for a consumer whose take continues with the due access
pub told_next :
    (p : ConsumerState) (next : Option Access) → next ≡ due_take p → IfSome next (IsOpenRight p.shape C) → IsTaking p →
    ((calls : Takes) (made : List Made) → ConsumerStands p calls made → Going p.shape p.wanted (is_taking p) calls made next) →
    record {
      due : next ≡ due_take p;
      right : IfSome next (IsOpenRight p.shape C);
      rest : (calls : Takes) (made : List Made) → ConsumerStands p calls made → next ≡ None → (is_taking p ≡ false) × (made ≡ take_program p.shape calls);
      goes_on : (calls : Takes) (made : List Made) (access : Access) → ConsumerStands p calls made → next ≡ Some access →
          (is_taking p ≡ true) × TakeGoesOn p.shape p.wanted calls made access;
      few : is_taking p ≡ true → p.wanted ≤ take_batch_of p.shape;
      bounded : (calls : Takes) (made : List Made) → ConsumerStands p calls made → is_taking p ≡ true →
          length made < length (take_program p.shape calls) + longest_taking p.shape p.wanted;
    }
told_next p next is_due right taking going = record {
  due = is_due;
  right = right;
  rest = λ calls made stands none. going_rests p.shape p.wanted (is_taking p) calls made next (going calls made stands) none;
  goes_on = λ calls made access stands some. going_on p.shape p.wanted (is_taking p) calls made next (going calls made stands) access some;
  few = λ under_way. taking.few;
  bounded = λ calls made stands under_way. going_bounded p.shape p.wanted (is_taking p) calls made next (going calls made stands);
}

is_next : (shape : Shape) (wanted : ℕ) (taking : Bool) (calls : Takes) (made : List Made) (due : Option Access) (access : Access) → taking ≡ true → 1 ≤ wanted → due ≡ Some access →
    TakeGoesOn shape wanted calls made access → Going shape wanted taking calls made due
is_next shape wanted taking calls made due access taking_is some due_is next = record { access = access; taking_is = taking_is; some = some; due_is = due_is; goes_on = next }

-- the first scan
pub next_scan :
    (p : ConsumerState) (calls : Takes) (made : List Made) (due : Option Access) → p.stage ≡ Scanning → ConsumerStands p calls made → IsTaking p →
    IsScanning C (modulus_of p.shape) p.scan → due ≡ due_scan p.scan → Going p.shape p.wanted (is_taking p) calls made due
next_scan p calls made due e stands taking scans due_is =
    let (rests, reads, scan_stands, made_is) = made_at Scanning p calls made e stands in
    let o : calls.end ≡ Open = open_at Scanning p calls made e stands in
    let access : Access = begins.Read (row_read_by C p.scan.zeros) in
    is_next p.shape p.wanted (is_taking p) calls made due access (ap takes_at e) taking.some (due_is ∙ scan_due C (modulus_of p.shape) p.scan scans)
    (λ answer one.
    let x : List Made = answered access answer ∷ [] in
    let (c, below, begins_c) = scan_goes_on p.shape C p.scan reads answer scans scan_stands one in
    begins_scan p.shape p.wanted taking.some taking.few calls (made ++ x) (reads ++ x) c stands.are o below
    (ap (λ l. l ++ x) made_is ∙ append_assoc (take_phrases p.shape first_count calls.takes) reads x) begins_c)

begins_check :
    (shape : Shape) (wanted : ℕ) → 1 ≤ wanted → wanted ≤ take_batch_of shape → (calls : Takes) (made : List Made) (seen : ℕ) (answer : Bool) → AreTakes shape 0 calls.takes calls.end → calls.end ≡ Open →
    SeesNone shape (count_taken shape calls).number seen → made ≡ take_phrases shape first_count calls.takes ++ scan_phrase (row_read_by C) seen →
    BeginsTake shape wanted calls (made ++ Read X answer ∷ [])
begins_check shape wanted some few calls made seen true are o sees made_is =
    let front : List Made = take_phrases shape first_count calls.takes in
    let scan : List Made = scan_phrase (row_read_by C) seen in
    let x : List Made = Read X true ∷ [] in
    begins_rescan shape wanted some few calls (made ++ x) (scan ++ x) seen 0 are o sees (omega (arith, sees.0)) (ap (λ l. l ++ x) made_is ∙ append_assoc front scan x)
    (scan_phrase (row_read_by C) 0, append_assoc scan x (scan_phrase (row_read_by C) 0))
begins_check shape wanted some few calls made seen false are o sees made_is =
    let front : List Made = take_phrases shape first_count calls.takes in
    let scan : List Made = scan_phrase (row_read_by C) seen in
    let x : List Made = Read X false ∷ [] in
    begins_take shape wanted calls (made ++ x) (scan ++ x) (Empty seen) are o (sees, tt) (ap (λ l. l ++ x) made_is ∙ append_assoc front scan x) ([], append-nil (scan ++ x))

-- the read of the close bit
pub next_check :
    (p : ConsumerState) (calls : Takes) (made : List Made) → p.stage ≡ Checking → ConsumerStands p calls made → IsTaking p →
    Going p.shape p.wanted (is_taking p) calls made (Some (begins.Read X))
next_check p calls made e stands taking =
    let (rests, seen, sees, made_is) = made_at Checking p calls made e stands in
    let o : calls.end ≡ Open = open_at Checking p calls made e stands in
    is_next p.shape p.wanted (is_taking p) calls made (Some (begins.Read X)) (begins.Read X) (ap takes_at e) taking.some refl
    (λ answer one. begins_check p.shape p.wanted taking.some taking.few calls made seen answer stands.are o sees made_is)

-- the second scan
pub next_rescan :
    (p : ConsumerState) (calls : Takes) (made : List Made) (due : Option Access) → p.stage ≡ Rescanning → ConsumerStands p calls made → IsTaking p →
    IsScanning C (modulus_of p.shape) p.scan → due ≡ due_scan p.scan → Going p.shape p.wanted (is_taking p) calls made due
next_rescan p calls made due e stands taking scans due_is =
    let (rests, seen, sees, reads, scan_stands, made_is) = made_at Rescanning p calls made e stands in
    let o : calls.end ≡ Open = open_at Rescanning p calls made e stands in
    let access : Access = begins.Read (row_read_by C p.scan.zeros) in
    let front : List Made = take_phrases p.shape first_count calls.takes in
    let scan : List Made = scan_phrase (row_read_by C) seen in
    let checked : List Made = scan ++ Read X true ∷ [] in
    is_next p.shape p.wanted (is_taking p) calls made due access (ap takes_at e) taking.some (due_is ∙ scan_due C (modulus_of p.shape) p.scan scans)
    (λ answer one.
    let x : List Made = answered access answer ∷ [] in
    let (c, below, begins_c) = scan_goes_on p.shape C p.scan reads answer scans scan_stands one in
    let again : List Made = scan_phrase (row_read_by C) c in
    begins_rescan p.shape p.wanted taking.some taking.few calls (made ++ x) (checked ++ (reads ++ x)) seen c stands.are o sees below (ap (λ l. l ++ x) made_is ∙ longer front checked reads x)
    (subst (λ l. IsPrefix (checked ++ (reads ++ x)) l) (append_assoc scan (Read X true ∷ []) again) (begins_behind checked (reads ++ x) again begins_c)))

pub read_due : (r : ReaderState) → r.read < r.width → due_read r ≡ Some (begins.Read (Cell r.cell r.read))
read_due r l = grind (arith, nat_tests)

pub word_right :
    (p : ConsumerState) (due : Option Access) → IsLoading p → p.word.read < p.word.width → due ≡ due_read p.word →
    IfSome due (IsOpenRight p.shape C)
word_right p due loads more due_is = grind (arith, read_due, mod-lt, nat_tests)

-- the accesses of a take of items, of one, and of others after it
one_more :
    (shape : Shape) (c : Count) (look : Finding) (items : List ℕ) (item : ℕ) (later : List ℕ) →
    made_of_take shape c.number look items ++
    (word_read (width_of shape) ((c.number + length items) % capacity_of shape) item ++
    (words_read shape (suc (c.number + length items)) later ++ batch_phrase shape C c (items ++ item ∷ later))) ≡
    finding_phrase look ++ items_phrase shape c (items ++ item ∷ later)
one_more shape c look items item later = grind (arith, append_assoc, words_read-append)

-- the word
pub next_word :
    (p : ConsumerState) (calls : Takes) (made : List Made) (due : Option Access) → p.stage ≡ Loading → ConsumerStands p calls made → IsTaking p → IsLoading p →
    length p.items < p.most → p.most ≤ p.wanted →
    p.word.read < p.word.width → due ≡ due_read p.word → ((reads : List Made) → ReaderStands p.word reads → IsNextRead p.word.width p.word.cell reads due) →
    Going p.shape p.wanted (is_taking p) calls made due
next_word p calls made due e stands taking loads less few unread due_is next =
    let (rests, look, finds, fit, reads, words, made_is) = made_at Loading p calls made e stands in
    let o : calls.end ≡ Open = open_at Loading p calls made e stands in
    let c : Count = count_taken p.shape calls in
    let cell : ℕ = (c.number + length p.items) % capacity_of p.shape in
    let front : List Made = take_phrases p.shape first_count calls.takes in
    let begun : List Made = made_of_take p.shape c.number look p.items in
    let access : Access = begins.Read (Cell p.word.cell p.word.read) in
    let due_some : due ≡ Some access = due_is ∙ read_due p.word unread in
    let goes_on : IsNextRead (width_of p.shape) cell reads (Some access) =
    subst (λ d. IsNextRead (width_of p.shape) cell reads d) due_some
    (subst (λ n. IsNextRead n cell reads due) loads.width_is
    (subst (λ j. IsNextRead p.word.width j reads due)
    (loads.cell_is ∙ far_from p.cell c.number (length p.items) (capacity_of p.shape) stands.cell_is) (next reads words))) in
    is_next p.shape p.wanted (is_taking p) calls made due access (ap takes_at e) taking.some due_some
    (λ answer one.
    let x : List Made = answered access answer ∷ [] in
    let (item, fits, begins_item) = goes_on answer in
    let later : List ℕ = zeros (p.most - suc (length p.items)) in
    let items : List ℕ = p.items ++ item ∷ later in
    let long : length items ≡ length p.items + suc (length later) = length-append p.items (item ∷ later) in
    let all_long : length items ≡ p.most = omega (arith, long, zeros-long (p.most - suc (length p.items)), less) in
    let word : List Made = word_read (width_of p.shape) cell item in
    let count : List Made = words_read p.shape (suc (c.number + length p.items)) later ++ batch_phrase p.shape C c items in
    begins_found p.shape p.wanted calls (made ++ x) (begun ++ (reads ++ x)) look items stands.are o
    (subst (λ m. Finds p.shape c.number p.wanted look m) (sym all_long) finds)
    (record {
      some = omega (arith, all_long, less);
      few = omega (arith, all_long, few, taking.few);
      fit = fit-append p.shape p.items (item ∷ later) fit (fits, zeros-fit p.shape (p.most - suc (length p.items)));
    })
    (ap (λ l. l ++ x) made_is ∙ longer front begun reads x)
    (subst (λ l. IsPrefix (begun ++ (reads ++ x)) l) (one_more p.shape c look p.items item later)
    (begins_behind begun (reads ++ x) (word ++ count) (begins_more (reads ++ x) word count begins_item))))

-- the count
pub next_count_write :
    (p : ConsumerState) (calls : Takes) (made : List Made) (due : Option Access) → p.stage ≡ Counting → ConsumerStands p calls made → IsTaking p →
    1 ≤ p.most → length p.items ≡ p.most → p.most ≤ p.wanted → p.row.side ≡ C →
    (due_unary p.row ≡ None → ⊥) → due ≡ due_unary p.row →
    ((values : List ℕ) (made : List Made) → UnaryStands p.row values made → IsNext (count_writes p.row.side values) made due) →
    Going p.shape p.wanted (is_taking p) calls made due
next_count_write p calls made due e stands taking least size few side some due_is next =
    let (look, finds, fit, writes, rows, made_is) = made_at Counting p calls made e stands in
    let o : calls.end ≡ Open = open_at Counting p calls made e stands in
    let c : Count = count_taken p.shape calls in
    let values : List ℕ = values_taken p.shape calls ++ number_past c.number p.items % modulus_of p.shape ∷ [] in
    let front : List Made = take_phrases p.shape first_count calls.takes in
    let old : List Made = count_writes C (values_taken p.shape calls) in
    let count : List Made = batch_phrase p.shape C c p.items in
    let scans : List Made = finding_phrase look in
    let words : List Made = words_read p.shape c.number p.items in
    let all : count_writes C values ≡ old ++ count =
    values_writes-push p.shape C (values_taken p.shape calls) p.items c (values_hold p.shape first_count calls.takes) in
    let r = next_write C p.row values old writes count due side some due_is (next values (old ++ writes) rows) all in
    is_next p.shape p.wanted (is_taking p) calls made due r.access (ap takes_at e) taking.some r.due_is
    (λ answer one.
    let y : List Made = answered r.access answer ∷ [] in
    begins_found p.shape p.wanted calls (made ++ y) ((scans ++ words) ++ (writes ++ y)) look p.items stands.are o
    (subst (λ m. Finds p.shape c.number p.wanted look m) (sym size) finds)
    (record { some = omega (arith, size, least); few = omega (arith, size, few, taking.few); fit = fit })
    (ap (λ l. l ++ y) made_is ∙ longer front (scans ++ words) writes y)
    (subst (λ l. IsPrefix ((scans ++ words) ++ (writes ++ y)) l) (append_assoc scans words count)
    (begins_behind (scans ++ words) (writes ++ y) count (r.rest, r.goes_on answer))))

-- ---- the last bit of the producer's count

-- if it is due in the second scan of a take, that scan has read 0 in all bits below
pub rescan_zeros :
    (p : ConsumerState) (calls : Takes) (made : List Made) → p.stage ≡ Rescanning → ConsumerStands p calls made → IsScanning C (modulus_of p.shape) p.scan →
    LastIsDue p.scan → EndsInZeros p.shape C made
rescan_zeros p calls made e stands scans (not_found, last) =
    let (rests, seen, none, reads, scan_stands, made_is) = made_at Rescanning p calls made e stands in
    let front : List Made = take_phrases p.shape first_count calls.takes in
    let asked : List Made = scan_phrase (row_read_by C) seen ++ Read X true ∷ [] in (
      front ++ asked,
      p.scan.zeros,
      last ∙ scans.modulus_is,
      made_is ∙ sym (append_assoc front asked reads) ∙ ap (λ l. (front ++ asked) ++ l) (scan_reads C (modulus_of p.shape) p.scan reads scans scan_stands),
    )
