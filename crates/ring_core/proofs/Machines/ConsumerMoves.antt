-- The consumer's machine, access by access.
use Rattle.std.proofs.Common.{◌≡◌, ◌⊎◌, inl, inr, ℕ, ◌+◌, ◌^◌, ◌%◌, ◌<◌, ◌≤◌, Bool, true, false, Option, Some, None, List, [], ◌∷◌, ◌++◌, length, refl, sym, ap, subst, ◌∙◌, arith, append_assoc, append-nil}
use Rattle.ring_core.proofs.Common.{append_cancel_left, C, X, Access, Shape, AllFit, capacity_of, modulus_of, take_batch_of, width_of, ReaderState, ReaderStands, IsReadOf, due_read, count_writes}
use Rattle.ring_core.proofs.Common.{UnaryState, UnaryStands, ShowsItem, distance, number_past, Count, first_count, batch_phrase, ConsumerState, IsBetweenWords, due_take, consumer_due_at, is_taking}
use Rattle.ring_core.proofs.Common.{takes_at, taken_of}
use Rattle.bits_core.specs.Made.{Made, Read, answered}
use Rattle.register_core.specs.Word.{word_read}
use Rattle.register_core.specs.ScanState.{ScanState, ScanStands, scan_phrase, row_read_by, IsScanOf}
use Rattle.ring_core.specs.declared.replies.TakeReply.{TakeReply}
use Rattle.ring_core.specs.declared.replies.TakeReply.TheVariants as replies
use Rattle.ring_core.specs.declared.consumers.Stage.{Stage}
use Rattle.ring_core.specs.declared.consumers.Stage.TheVariants.{Idle, Scanning, Checking, Rescanning, Loading, Counting}
use Rattle.ring_core.specs.Takes.{Take, Takes, Empty, Open, count_after, words_read, take_phrase, take_phrases, SeesNone, IsTake, AreTakes}
use Rattle.ring_core.specs.ConsumerCalls.{ConsumerStands, ConsumerMadeAt, Finding, Finds, Once, Twice, finding_phrase, made_of_take, count_taken, values_taken, ConsumerHasMoved, ConsumerMoves, items_reply, take_reply_to, and_take, and_end, HasTakeMore, IsTakeOf, IsOpenForTake, ends_closed, IsAfterTake}
use Rattle.ring_core.proofs.Machines.MachineParts.{GoesOn, ScanGoesOn, RowGoesOn, row_more, longer}
use Rattle.ring_core.proofs.CountRow.{values_writes-push}
use Rattle.ring_core.proofs.Readings.ByCalls.{takes_go_by_calls, state-push}
use Rattle.ring_core.proofs.Machines.Batches.{far_from, past_so}
use Rattle.ring_core.proofs.Machines.TakeCalls.{are-push, are-end, reply-push, items-push, program-push, values_hold, values-empty, values-push, words_read-push, fit-push, take_of, take_of-is, take_of-items, take_of-takes, take_of-replies, take_of-phrase}

-- ---- what is known at a stage

-- the accesses that were made
pub made_at :
    (st : Stage) (p : ConsumerState) (calls : Takes) (made : List Made) → p.stage ≡ st → ConsumerStands p calls made →
    ConsumerMadeAt st p calls made
made_at st p calls made e stands = subst (λ s. ConsumerMadeAt s p calls made) e stands.made_is

-- whether no take has returned Closed
pub open_at : (st : Stage) (p : ConsumerState) (calls : Takes) (made : List Made) → p.stage ≡ st → ConsumerStands p calls made → IsOpenForTake (takes_at st) calls
open_at st p calls made e stands = subst (λ s. IsOpenForTake (takes_at s) calls) e stands.not_over

-- the access that is due
pub due_is : (st : Stage) (p : ConsumerState) (access : Access) → p.stage ≡ st → due_take p ≡ Some access → consumer_due_at st p ≡ Some access
due_is st p access e due = subst (λ s. consumer_due_at s p ≡ Some access) e due

-- ---- a take continues

-- the state with the machines of its take, at a stage
abbrev pub at_stage : ConsumerState → Stage → ScanState → ReaderState → UnaryState → List ℕ → ℕ → ConsumerState
at_stage p st scan word row items most = record p { stage = st; scan = scan; word = word; row = row; items = items; most = most }

after_on : (shape : Shape) (wanted : ℕ) (a b : Bool) (calls : Takes) → a ≡ true → b ≡ true → IsAfterTake shape wanted a b calls calls
after_on shape wanted a b calls e f = grind arith

after_over : (shape : Shape) (wanted : ℕ) (a : Bool) (calls more : Takes) → a ≡ true → HasTakeMore shape wanted calls more → IsAfterTake shape wanted a false calls more
after_over shape wanted a calls more e has = grind arith

-- a take under way continues at a stage
pub take_goes_on :
    (p : ConsumerState) (st now : Stage) (scan : ScanState) (word : ReaderState) (row : UnaryState) (items : List ℕ) (most : ℕ) (calls : Takes) (made more : List Made) →
    p.stage ≡ st → takes_at st ≡ true → takes_at now ≡ true → ConsumerStands p calls made →
    ConsumerMadeAt now (at_stage p now scan word row items most) calls more → ConsumerHasMoved p (at_stage p now scan word row items most) calls more
take_goes_on p st now scan word row items most calls made more e before after stands made_is = grind (arith, after_on)

-- and at the stage that it is at
take_stays :
    (p : ConsumerState) (st : Stage) (scan : ScanState) (word : ReaderState) (row : UnaryState) (items : List ℕ) (calls : Takes) (made more : List Made) →
    p.stage ≡ st → takes_at st ≡ true → ConsumerStands p calls made → ConsumerMadeAt st (at_stage p st scan word row items p.most) calls more →
    ConsumerHasMoved p (at_stage p p.stage scan word row items p.most) calls more
take_stays p st scan word row items calls made more e takes stands made_is = grind (arith, take_goes_on)

-- ---- a take is over

still_open : (p : ConsumerState) (calls : Takes) → is_taking p ≡ true → IsOpenForTake (is_taking p) calls → calls.end ≡ Open
still_open p calls was o = subst (λ b. IsOpenForTake b calls) was o

-- the state of a consumer that has ended a take
abbrev pub ended_take : ConsumerState → Option TakeReply → ℕ → ℕ → ScanState → ReaderState → UnaryState → ConsumerState
ended_take p reply count cell scan word row = record p { count = count; cell = cell; stage = Idle; scan = scan; word = word; row = row; reply = reply }

-- a take under way is over
pub take_over :
    (p : ConsumerState) (st : Stage) (x : Take) (reply : Option TakeReply) (count cell : ℕ) (scan : ScanState) (word : ReaderState) (row : UnaryState)
    (calls : Takes) (made more : List Made) → p.stage ≡ st → takes_at st ≡ true → ConsumerStands p calls made →
    IsTake p.shape (count_taken p.shape calls).number x × IsTakeOf p.shape (count_taken p.shape calls).number p.wanted x → reply ≡ Some (take_reply_to x) → p.items ≡ taken_of x →
    count ≡ (count_after p.shape (count_taken p.shape calls) x).number % modulus_of p.shape →
    cell ≡ (count_after p.shape (count_taken p.shape calls) x).number % capacity_of p.shape →
    UnaryStands row (values_taken p.shape (and_take calls x)) (count_writes C (values_taken p.shape (and_take calls x))) →
    more ≡ take_phrases p.shape first_count calls.takes ++ take_phrase p.shape (count_taken p.shape calls) x →
    ConsumerHasMoved p (ended_take p reply count cell scan word row) calls more
take_over p st x reply count cell scan word row calls made more e before stands (is, of) reply_is items_are count_is cell_is rests made_is =
    let was : is_taking p ≡ true = ap takes_at e ∙ before in
    let o : calls.end ≡ Open = still_open p calls was stands.not_over in
    let c : count_taken p.shape (and_take calls x) ≡ count_after p.shape (count_taken p.shape calls) x = state-push (takes_go_by_calls p.shape) first_count calls.takes x in
    let are : AreTakes p.shape 0 (calls.takes ++ x ∷ []) Open =
    are-push p.shape first_count calls.takes x (subst (λ d. AreTakes p.shape 0 calls.takes d) o stands.are) is in (
      and_take calls x,
      record {
        are = are;
        count_is = count_is ∙ sym (ap (λ (n : Count). n.number % modulus_of p.shape) c);
        cell_is = cell_is ∙ sym (ap (λ (n : Count). n.number % capacity_of p.shape) c);
        told_is = stands.told_is ∙ ap ends_closed o;
        not_over = record {};
        reply_is = reply_is ∙ sym (reply-push None calls.takes x);
        items_are = items_are ∙ sym (items-push [] calls.takes x);
        made_is = (rests, made_is ∙ sym (program-push p.shape calls x));
      },
      after_over p.shape p.wanted (is_taking p) calls (and_take calls x) was (record { is_one_more = inl (x, of, refl); are = are; not_over = o }),
    )

-- nothing is read yet
begun_none : (shape : Shape) (n : ℕ) (look : Finding) (items : List ℕ) → items ≡ [] → finding_phrase look ≡ made_of_take shape n look items ++ []
begun_none shape n look items e = grind (arith, append-nil)

none_fit : (shape : Shape) (items : List ℕ) → items ≡ [] → AllFit shape items
none_fit shape items e = subst (AllFit shape) (sym e) tt

-- ---- the first scan

-- it continues
pub scan_on : (p : ConsumerState) (s : ScanState) (answer : Bool) → p.stage ≡ Scanning → ScanGoesOn p.scan s answer → ConsumerMoves p answer (record p { scan = s })
scan_on p s answer e goes calls made access stands due = grind (arith, made_at, take_stays, due_is, append_assoc, append-nil)

-- it shows an item
pub scan_item :
    (p : ConsumerState) (s : ScanState) (w : ReaderState) (answer : Bool) (seen most : ℕ) → p.items ≡ [] → most ≤ distance (modulus_of p.shape) seen p.count →
    most ≤ p.wanted → (most ≡ p.wanted) ⊎ (most ≡ distance (modulus_of p.shape) seen p.count) → p.stage ≡ Scanning → ScanGoesOn p.scan s answer →
    ((reads : List Made) → ScanStands s reads → IsScanOf (row_read_by C) (modulus_of p.shape) reads seen) → ReaderStands w [] → ShowsItem p.shape seen p.count →
    ConsumerMoves p answer (at_stage p Loading s w p.row p.items most)
scan_item p s w answer seen most fresh enough wants all e goes gives word_stands shows calls made access stands due =
    let (rests, reads, scans, made_is) = made_at Scanning p calls made e stands in
    let x : List Made = answered access answer ∷ [] in
    let front : List Made = take_phrases p.shape first_count calls.takes in
    let (below, reads_are) = gives (reads ++ x) (goes reads access scans (due_is Scanning p access e due)) in
    let (few, room) = subst (λ k. (most ≤ distance (modulus_of p.shape) seen k) × (distance (modulus_of p.shape) seen k ≤ capacity_of p.shape)) stands.count_is (enough, shows.1) in
    take_goes_on p Scanning Loading s w p.row p.items most calls made (made ++ x) e refl refl stands (
      rests,
      Once seen,
      ((below, few, room), (wants, subst (λ k. (most ≡ p.wanted) ⊎ (most ≡ distance (modulus_of p.shape) seen k)) stands.count_is all)),
      none_fit p.shape p.items fresh,
      [],
      word_stands,
      ap (λ l. l ++ x) made_is ∙ append_assoc front reads x ∙ ap (λ l. front ++ l) (reads_are ∙ begun_none p.shape (count_taken p.shape calls).number (Once seen) p.items fresh),
    )

-- it shows none
pub scan_none :
    (p : ConsumerState) (s : ScanState) (answer : Bool) (seen : ℕ) → p.stage ≡ Scanning → ScanGoesOn p.scan s answer →
    ((reads : List Made) → ScanStands s reads → IsScanOf (row_read_by C) (modulus_of p.shape) reads seen) → ¬ ShowsItem p.shape seen p.count →
    ConsumerMoves p answer (at_stage p Checking s p.word p.row p.items p.most)
scan_none p s answer seen e goes gives none calls made access stands due =
    let (rests, reads, scans, made_is) = made_at Scanning p calls made e stands in
    let x : List Made = answered access answer ∷ [] in
    let (below, reads_are) = gives (reads ++ x) (goes reads access scans (due_is Scanning p access e due)) in
    grind (arith, take_goes_on, append_assoc)

-- ---- the close bit

-- it is 1, and the second scan begins
pub check_one :
    (p : ConsumerState) (s : ScanState) (answer : Bool) → p.stage ≡ Checking → ScanStands s [] → answer ≡ true →
    ConsumerMoves p answer (at_stage p Rescanning s p.word p.row p.items p.most)
check_one p s answer e scan_stands one calls made access stands due = grind (arith, made_at, due_is, take_goes_on, append_assoc, append-nil)

-- it is 0, and the ring was empty
pub check_zero :
    (p : ConsumerState) (answer : Bool) → p.items ≡ [] → p.stage ≡ Checking → answer ≡ false →
    ConsumerMoves p answer (ended_take p (Some replies.Empty) p.count p.cell p.scan p.word p.row)
check_zero p answer fresh e none calls made access stands due =
    let (rests, seen, sees, made_is) = made_at Checking p calls made e stands in
    let x : List Made = answered access answer ∷ [] in
    let front : List Made = take_phrases p.shape first_count calls.takes in
    let scan : List Made = scan_phrase (row_read_by C) seen in
    let x_is : answered access answer ≡ Read X false = grind arith in
    take_over p Checking (Empty seen) (Some replies.Empty) p.count p.cell p.scan p.word p.row calls made (made ++ x) e refl stands (sees, tt) refl fresh
    stands.count_is stands.cell_is
    (subst (λ l. UnaryStands p.row l (count_writes C l)) (sym (values-empty p.shape first_count calls.takes seen)) rests)
    (ap (λ l. l ++ x) made_is ∙ append_assoc front scan x ∙ ap (λ y. front ++ (scan ++ y ∷ [])) x_is)

-- ---- the second scan

-- it continues
pub rescan_on : (p : ConsumerState) (s : ScanState) (answer : Bool) → p.stage ≡ Rescanning → ScanGoesOn p.scan s answer → ConsumerMoves p answer (record p { scan = s })
rescan_on p s answer e goes calls made access stands due = grind (arith, made_at, take_stays, due_is, longer)

-- the accesses once it has ended
two_scans :
    (front reads made x : List Made) (seen again : ℕ) → made ≡ front ++ ((scan_phrase (row_read_by C) seen ++ Read X true ∷ []) ++ reads) →
    reads ++ x ≡ scan_phrase (row_read_by C) again → made ++ x ≡ front ++ finding_phrase (Twice seen again)
two_scans front reads made x seen again made_is reads_are = grind (arith, longer, append_assoc)

-- it shows an item
pub rescan_item :
    (p : ConsumerState) (s : ScanState) (w : ReaderState) (answer : Bool) (again most : ℕ) → p.items ≡ [] → most ≤ distance (modulus_of p.shape) again p.count →
    most ≤ p.wanted → (most ≡ p.wanted) ⊎ (most ≡ distance (modulus_of p.shape) again p.count) → p.stage ≡ Rescanning → ScanGoesOn p.scan s answer →
    ((reads : List Made) → ScanStands s reads → IsScanOf (row_read_by C) (modulus_of p.shape) reads again) → ReaderStands w [] →
    ShowsItem p.shape again p.count →
    ConsumerMoves p answer (at_stage p Loading s w p.row p.items most)
rescan_item p s w answer again most fresh enough wants all e goes gives word_stands shows calls made access stands due =
    let (rests, seen, sees, reads, scans, made_is) = made_at Rescanning p calls made e stands in
    let x : List Made = answered access answer ∷ [] in
    let front : List Made = take_phrases p.shape first_count calls.takes in
    let (below, reads_are) = gives (reads ++ x) (goes reads access scans (due_is Rescanning p access e due)) in
    let (few, room) = subst (λ k. (most ≤ distance (modulus_of p.shape) again k) × (distance (modulus_of p.shape) again k ≤ capacity_of p.shape)) stands.count_is (enough, shows.1) in
    take_goes_on p Rescanning Loading s w p.row p.items most calls made (made ++ x) e refl refl stands (
      rests,
      Twice seen again,
      (sees, (below, few, room), (wants, subst (λ k. (most ≡ p.wanted) ⊎ (most ≡ distance (modulus_of p.shape) again k)) stands.count_is all)),
      none_fit p.shape p.items fresh,
      [],
      word_stands,
      two_scans front reads made x seen again made_is reads_are ∙ ap (λ l. front ++ l) (begun_none p.shape (count_taken p.shape calls).number (Twice seen again) p.items fresh),
    )

-- it shows none, and the ring is closed
pub rescan_none :
    (p : ConsumerState) (s : ScanState) (answer : Bool) (again : ℕ) → p.items ≡ [] → p.stage ≡ Rescanning → ScanGoesOn p.scan s answer →
    ((reads : List Made) → ScanStands s reads → IsScanOf (row_read_by C) (modulus_of p.shape) reads again) → ¬ ShowsItem p.shape again p.count →
    ConsumerMoves p answer (record p { stage = Idle; scan = s; told = true; reply = Some replies.Closed })
rescan_none p s answer again fresh e goes gives none calls made access stands due =
    let (rests, seen, sees, reads, scans, made_is) = made_at Rescanning p calls made e stands in
    let x : List Made = answered access answer ∷ [] in
    let front : List Made = take_phrases p.shape first_count calls.takes in
    let (below, reads_are) = gives (reads ++ x) (goes reads access scans (due_is Rescanning p access e due)) in
    let o : calls.end ≡ Open = open_at Rescanning p calls made e stands in
    let sees' : SeesNone p.shape (count_taken p.shape calls).number again = (below, λ shows. none (subst (λ k. ShowsItem p.shape again k) (sym stands.count_is) shows)) in
    let are : AreTakes p.shape 0 calls.takes (and_end calls seen again).end =
    are-end p.shape first_count calls.takes seen again (subst (λ d. AreTakes p.shape 0 calls.takes d) o stands.are) sees sees' in (
      and_end calls seen again,
      record {
        are = are;
        count_is = stands.count_is;
        cell_is = stands.cell_is;
        told_is = refl;
        not_over = record {};
        reply_is = refl;
        items_are = fresh;
        made_is = (rests, two_scans front reads made x seen again made_is reads_are);
      },
      after_over p.shape p.wanted (is_taking p) calls (and_end calls seen again) (ap takes_at e)
          (record { is_one_more = inr (seen, again, refl); are = are; not_over = o }),
    )

-- ---- the word

-- what the word machine stands after, once the due access has been made
abbrev pub WordGoesOn : ReaderState → ReaderState → Bool → Type 0
WordGoesOn = GoesOn ReaderStands due_read

-- it continues
pub word_on : (p : ConsumerState) (w : ReaderState) (answer : Bool) → p.stage ≡ Loading → WordGoesOn p.word w answer → ConsumerMoves p answer (record p { word = w })
word_on p w answer e goes calls made access stands due = grind (arith, made_at, take_stays, due_is, longer)

-- the accesses made, once the word under way is whole
whole_words :
    (p : ConsumerState) (calls : Takes) (look : Finding) (front reads x made : List Made) (item : ℕ) →
    p.cell ≡ (count_taken p.shape calls).number % capacity_of p.shape →
    made ≡ front ++ (made_of_take p.shape (count_taken p.shape calls).number look p.items ++ reads) →
    reads ++ x ≡ word_read (width_of p.shape) ((p.cell + length p.items) % capacity_of p.shape) item →
    made ++ x ≡ front ++ (made_of_take p.shape (count_taken p.shape calls).number look (p.items ++ item ∷ []) ++ [])
whole_words p calls look front reads x made item cell_is made_is all = grind (arith, length, far_from, longer, append_assoc, words_read-push, append-nil)

pub item_fits : (shape : Shape) (items : List ℕ) (item : ℕ) → AllFit shape items → item < 2 ^ width_of shape → AllFit shape (items ++ item ∷ [])
item_fits shape items item fit last = fit-push shape items item fit (last, tt)

-- it is over, and the next word begins
pub word_next :
    (p : ConsumerState) (w new : ReaderState) (answer : Bool) (item : ℕ) (items : List ℕ) → p.stage ≡ Loading → WordGoesOn p.word w answer →
    ((reads : List Made) → ReaderStands w reads → IsReadOf (width_of p.shape) ((p.cell + length p.items) % capacity_of p.shape) reads item) →
    items ≡ p.items ++ item ∷ [] → ReaderStands new [] →
    ConsumerMoves p answer (record p { word = new; items = items })
word_next p w new answer item items e goes whole items_are begins calls made access stands due =
    let (rests, look, finds, fit, reads, words, made_is) = made_at Loading p calls made e stands in
    let x : List Made = answered access answer ∷ [] in
    let front : List Made = take_phrases p.shape first_count calls.takes in
    let (fits, all) = whole (reads ++ x) (goes reads access words (due_is Loading p access e due)) in
    let moved : ConsumerHasMoved p (at_stage p Loading p.scan new p.row (p.items ++ item ∷ []) p.most) calls (made ++ x) =
    take_goes_on p Loading Loading p.scan new p.row (p.items ++ item ∷ []) p.most calls made (made ++ x) e refl refl stands (
      rests,
      look,
      finds,
      item_fits p.shape p.items item fit fits,
      [],
      begins,
      whole_words p calls look front reads x made item stands.cell_is made_is all,
    ) in
    grind arith

-- the last word is over, and the count's write begins
pub word_over :
    (p : ConsumerState) (w : ReaderState) (row : UnaryState) (answer : Bool) (item : ℕ) (items : List ℕ) → p.stage ≡ Loading → WordGoesOn p.word w answer →
    ((reads : List Made) → ReaderStands w reads → IsReadOf (width_of p.shape) ((p.cell + length p.items) % capacity_of p.shape) reads item) →
    items ≡ p.items ++ item ∷ [] → length items ≡ p.most →
    ((values : List ℕ) (made : List Made) → UnaryStands p.row values made → UnaryStands row (values ++ (p.count + p.most) % modulus_of p.shape ∷ []) made) →
    ConsumerMoves p answer (at_stage p Counting p.scan w row items p.most)
word_over p w row answer item items e goes whole items_are size begins_row calls made access stands due =
    let (rests, look, finds, fit, reads, words, made_is) = made_at Loading p calls made e stands in
    let x : List Made = answered access answer ∷ [] in
    let n : ℕ = (count_taken p.shape calls).number in
    let front : List Made = take_phrases p.shape first_count calls.takes in
    let values : List ℕ = values_taken p.shape calls in
    let all_items : List ℕ = p.items ++ item ∷ [] in
    let (fits, all) = whole (reads ++ x) (goes reads access words (due_is Loading p access e due)) in
    let value : (p.count + p.most) % modulus_of p.shape ≡ number_past n all_items % modulus_of p.shape = grind (arith, past_so) in
    let row_begins : UnaryStands row (values ++ number_past n all_items % modulus_of p.shape ∷ []) (count_writes C values) = grind arith in
    let moved : ConsumerHasMoved p (at_stage p Counting p.scan w row all_items p.most) calls (made ++ x) =
    take_goes_on p Loading Counting p.scan w row all_items p.most calls made (made ++ x) e refl refl stands (
      look,
      finds,
      item_fits p.shape p.items item fit fits,
      [],
      subst (λ l. UnaryStands row (values ++ number_past n all_items % modulus_of p.shape ∷ []) l) (sym (append-nil (count_writes C values))) row_begins,
      whole_words p calls look front reads x made item stands.cell_is made_is all,
    ) in
    subst (λ l. ConsumerHasMoved p (at_stage p Counting p.scan w row l p.most) calls (made ++ x)) (sym items_are) moved

-- what shows items to a take shows fewer to one that asks for fewer
fewer : (shape : Shape) (k wanted : ℕ) (look : Finding) (most m : ℕ) → m ≤ most → Finds shape k wanted look most → Finds shape k m look m
fewer shape k wanted look most m few h1 = grind arith

-- between words, the write that counts those read begins
pub now_counts :
    (p : ConsumerState) (row : UnaryState) (m : ℕ) → IsBetweenWords p → length p.items < p.most → length p.items ≡ m →
    ((values : List ℕ) (made : List Made) → UnaryStands p.row values made → UnaryStands row (values ++ (p.count + m) % modulus_of p.shape ∷ []) made) →
    (calls : Takes) (made : List Made) → ConsumerStands p calls made → ConsumerStands (record p { stage = Counting; row = row; wanted = m; most = m }) calls made
now_counts p row m between less size begins_row calls made stands = grind (arith, made_at, past_so, open_at, fewer, append-nil)

-- ---- the count

-- its write continues
pub count_on : (p : ConsumerState) (row : UnaryState) (answer : Bool) → p.stage ≡ Counting → RowGoesOn p.row row answer → ConsumerMoves p answer (record p { row = row })
count_on p row answer e goes calls made access stands due = grind (arith, made_at, row_more, due_is, take_stays, longer)

-- its write is over, and so is the take
pub count_over :
    (p : ConsumerState) (row : UnaryState) (answer : Bool) (reply : Option TakeReply) (count cell : ℕ) → p.stage ≡ Counting → RowGoesOn p.row row answer →
    1 ≤ p.most → length p.items ≡ p.most → p.most ≤ take_batch_of p.shape →
    reply ≡ Some (items_reply p.items) → count ≡ (p.count + p.most) % modulus_of p.shape → cell ≡ (p.cell + p.most) % capacity_of p.shape →
    ((values : List ℕ) (made : List Made) → UnaryStands row values made → made ≡ count_writes C values) →
    ConsumerMoves p answer (ended_take p reply count cell p.scan p.word row)
count_over p row answer reply count cell e goes some size few reply_is count_is cell_is whole calls made access stands due =
    let (look, finds, fit, writes, rows, made_is) = made_at Counting p calls made e stands in
    let x : List Made = answered access answer ∷ [] in
    let c : Count = count_taken p.shape calls in
    let took : Take = take_of look p.items in
    let after : (count_after p.shape c took).number ≡ number_past c.number p.items = take_of-takes p.shape c look p.items in
    let values : List ℕ = values_taken p.shape calls ++ number_past c.number p.items % modulus_of p.shape ∷ [] in
    let old : List Made = count_writes C (values_taken p.shape calls) in
    let front : List Made = take_phrases p.shape first_count calls.takes in
    let scans : List Made = finding_phrase look in
    let words : List Made = words_read p.shape c.number p.items in
    let counting : List Made = batch_phrase p.shape C c p.items in
    let rows' : UnaryStands row values (old ++ (writes ++ x)) = row_more p.row row answer values old writes access goes rows (due_is Counting p access e due) in
    let all : old ++ (writes ++ x) ≡ count_writes C values = whole values (old ++ (writes ++ x)) rows' in
    let all_counted : writes ++ x ≡ counting = append_cancel_left old (writes ++ x) counting (all ∙ values_writes-push p.shape C (values_taken p.shape calls) p.items c (values_hold p.shape first_count calls.takes)) in
    let rests : UnaryStands row values (count_writes C values) = subst (λ l. UnaryStands row values l) all rows' in
    take_over p Counting took reply count cell p.scan p.word row calls made (made ++ x) e refl stands
    (take_of-is p.shape c.number p.wanted look p.items (subst (λ m. Finds p.shape c.number p.wanted look m) (sym size) finds)
    (record { some = omega (arith, some, size); few = omega (arith, few, size); fit = fit }))
    (reply_is ∙ sym (ap (λ r. Some r) (take_of-replies look p.items)))
    (sym (take_of-items look p.items))
    (count_is ∙ past_so p.count c.number (modulus_of p.shape) p.items p.most stands.count_is size ∙ sym (ap (λ n. n % modulus_of p.shape) after))
    (cell_is ∙ past_so p.cell c.number (capacity_of p.shape) p.items p.most stands.cell_is size ∙ sym (ap (λ n. n % capacity_of p.shape) after))
    (subst (λ l. UnaryStands row l (count_writes C l)) (sym (values-push p.shape first_count calls.takes look p.items)) rests)
    (ap (λ l. l ++ x) made_is ∙ longer front (scans ++ words) writes x ∙ ap (λ l. front ++ ((scans ++ words) ++ l)) all_counted ∙
    ap (λ l. front ++ l) (append_assoc scans words counting ∙ sym (take_of-phrase p.shape c look p.items)))
