-- The reader of puts continues: it stands after one more event.
use Rattle.std.proofs.Common.{◌≡◌, ◌⊎◌, inl, inr, ℕ, suc, ◌+◌, ◌%◌, ◌<◌, ◌≤◌, Bool, true, false, Option, Some, None, List, [], ◌∷◌, ◌++◌, length, if◌then◌else◌, refl, sym, ap, subst, ◌∙◌, arith, append_assoc, append-nil}
use Rattle.ring_audit.proofs.Common.{P, X, Cell, Access, Event, Shape, Made, Read, answered, end_event, opening_event, RowWrite, row_bit, bits_after, writes_in, digit_writes, ReaderState}
use Rattle.ring_audit.proofs.Common.{ReaderStands, count_behind}
use Rattle.bits_core.specs.declared.events.Access.TheVariants as begins
use Rattle.bits_core.specs.Shape.{capacity_of, modulus_of, batch_of}
use Rattle.register_core.specs.UnaryState.{UnaryState, due_writes, UnaryStands}
use Rattle.register_core.specs.ScanState.{ScanState, scan_read, zero_reads, scan_phrase, row_read_by}
use Rattle.ring_core.specs.Counts.{LeavesRoom, LeavesRoomFor, Count, first_count, count_bits}
use Rattle.ring_core.specs.Puts.{Put, Full, words_phrase, put_phrases, ArePuts}
use Rattle.ring_audit.specs.declared.puts.Stage.{Stage}
use Rattle.ring_audit.specs.declared.puts.Stage.TheVariants.{Resting, Scanning, Choosing, Storing, Counting, Closing, Closed}
use Rattle.ring_audit.specs.PutReading.{PutReading, RowHolds, IsMost, has_items, AtRest, InCount, MadeWhile, PutsStand}
use Rattle.ring_core.proofs.Machines.PutCalls.{phrases-push, stored-push, are-push, all_put-full}
use Rattle.ring_audit.proofs.Readers.{opened, ended}
use Rattle.ring_audit.proofs.PutReads.{made_at, count_due}

-- ---- one more put

-- ---- a start

-- an access begins, with which no access is made yet
begun :
    {shape : Shape} {r new : PutReading} {es : List Event} {items stored items_on stored_on : List ℕ} (st : PutsStand shape r es items stored) (a : Access) (stage : Stage) →
    r.open_access ≡ None → new.shape ≡ r.shape → new.count ≡ r.count → new.open_access ≡ Some a → new.stage ≡ stage → MadeWhile stage shape new st.puts items_on stored_on st.made →
    PutsStand shape new (es ++ opening_event P a ∷ []) items_on stored_on
begun {shape = shape} {r = r} {new = new} {es = es} {items_on = items_on} {stored_on = stored_on} st a stage none shape_is count_is opens stage_is made_is =
    grind (arith, opened P es st.made r.open_access a st.events_are none)

pub begins_word :
    (shape : Shape) (r : PutReading) (es : List Event) (items stored : List ℕ) (word : ReaderState) (a : Access) → PutsStand shape r es items stored → r.open_access ≡ None →
    r.stage ≡ Choosing → word.read ≡ 0 → ReaderStands word [] →
    PutsStand shape (record r { stage = Storing; word = word; open_access = Some a }) (es ++ opening_event P a ∷ []) items stored
begins_word shape r es items stored word a st none stage new stands =
    let (s, made_is) = made_at shape r es items stored st Choosing stage in
    let front : List Made = put_phrases shape first_count st.puts in
    let scan : List Made = scan_phrase (row_read_by P) s.seen in
    let words : List Made = words_phrase shape (count_behind shape st.puts).number stored in
    begun st a Storing none refl refl refl refl (
      s,
      [],
      stands,
      made_is ∙ ap (λ l. front ++ (scan ++ l)) (sym (append-nil words)) ∙ ap (λ n. front ++ (scan ++ (words ++ writes_in (Cell r.cell) (digit_writes word.value n)))) (sym new),
    )

some_items : (l : List ℕ) (b : Bool) → b ≡ has_items l → b ≡ true → 1 ≤ length l
some_items l b e f = grind arith

pub begins_count :
    (shape : Shape) (r : PutReading) (es : List Event) (items stored : List ℕ) (row : UnaryState) (a : Access) → PutsStand shape r es items stored → r.open_access ≡ None →
    r.stage ≡ Choosing → r.some ≡ true → r.row.side ≡ P → row ≡ record r.row { value = r.next } →
    ((values : List ℕ) (made : List Made) → UnaryStands r.row values made → UnaryStands row (values ++ r.next ∷ []) made) →
    PutsStand shape (record r { stage = Counting; row = row; open_access = Some a }) (es ++ opening_event P a ∷ []) (items ++ stored) []
begins_count shape r es items stored row a st none stage some side row_is asks =
    let (s, made_is) = made_at shape r es items stored st Choosing stage in
    let c : Count = count_behind shape st.puts in
    let front : List Made = put_phrases shape first_count st.puts in
    let scan : List Made = scan_phrase (row_read_by P) s.seen in
    let words : List Made = words_phrase shape c.number stored in
    let due : due_writes row ≡ count_bits shape c stored = ap due_writes row_is ∙ count_due shape r.row c stored r.next side s.holds s.next_is in
    begun st a Counting none refl refl refl refl (
      record {
        seen = s.seen;
        batch = stored;
        is_put = grind (arith, some_items);
        next_is = s.next_is;
        cell_is = s.cell_is;
        writes = [];
        holds = record {
          values = s.holds.values ++ r.next ∷ [];
          writes = s.holds.writes;
          stands = asks s.holds.values (writes_in (row_bit P) s.holds.writes) s.holds.stands;
          left = s.holds.left;
        };
        parts = sym due;
        begun = λ e. absurd (cc);
        items_are = ap (λ l. l ++ stored) s.items_are;
        none_stored = refl;
      },
      made_is ∙ ap (λ l. front ++ (scan ++ l)) (sym (append-nil words)),
    )

-- a count write continues, once these bit writes of it were made
abbrev pub counts_on :
    {shape : Shape} {r : PutReading} {puts : List Put} {items stored : List ℕ} (row : UnaryState) (open_access : Option Access) (s : InCount shape r puts items stored) (writes : List RowWrite) →
    RowHolds row (bits_after (count_behind shape puts).bits writes) → count_bits shape (count_behind shape puts) s.batch ≡ writes ++ due_writes row →
    (open_access ≡ None → (u : RowWrite) × (more : List RowWrite) × (writes ≡ u ∷ more)) → InCount shape (record r { row = row; open_access = open_access }) puts items stored
counts_on row open_access s writes holds parts begun = record {
  seen = s.seen;
  batch = s.batch;
  is_put = s.is_put;
  next_is = s.next_is;
  cell_is = s.cell_is;
  writes = writes;
  holds = holds;
  parts = parts;
  begun = begun;
  items_are = s.items_are;
  none_stored = s.none_stored;
}

-- the next access of what is under way begins
pub begins_next :
    (shape : Shape) (r : PutReading) (es : List Event) (items stored : List ℕ) (a : Access) → PutsStand shape r es items stored → r.open_access ≡ None →
    (r.stage ≡ Scanning) ⊎ ((r.stage ≡ Storing) ⊎ (r.stage ≡ Counting)) → PutsStand shape (record r { open_access = Some a }) (es ++ opening_event P a ∷ []) items stored
begins_next shape r es items stored a st none (inl stage) =
    let (rests, made_is) = made_at shape r es items stored st Scanning stage in
    begun st a Scanning none refl refl refl stage (record { holds = rests.holds; cell_is = rests.cell_is; items_are = rests.items_are; none_stored = rests.none_stored }, made_is)
begins_next shape r es items stored a st none (inr (inl stage)) =
    let (s, reads, stands, made_is) = made_at shape r es items stored st Storing stage in
    begun st a Storing none refl refl refl stage (s, reads, stands, made_is)
begins_next shape r es items stored a st none (inr (inr stage)) =
    let (s, made_is) = made_at shape r es items stored st Counting stage in
    begun st a Counting none refl refl refl stage (counts_on r.row (Some a) s s.writes s.holds s.parts (λ e. absurd (cc)), made_is)

-- ---- an end

-- the open access is made, and the puts are those so far
pub ended_so :
    {shape : Shape} {r new : PutReading} {es : List Event} {items stored items_on stored_on : List ℕ} (st : PutsStand shape r es items stored) (a : Access) (v : Bool) (stage : Stage)
    (puts : List Put) → r.open_access ≡ Some a → ArePuts shape 0 puts → new.count ≡ (count_behind shape puts).number % modulus_of shape → new.shape ≡ r.shape → new.open_access ≡ None →
    new.stage ≡ stage → MadeWhile stage shape new puts items_on stored_on (st.made ++ answered a v ∷ []) → PutsStand shape new (es ++ end_event P (answered a v) ∷ []) items_on stored_on
ended_so {shape = shape} {r = r} {new = new} {es = es} {items_on = items_on} {stored_on = stored_on} st a v stage puts some are count_is shape_is none stage_is made_is =
    grind (arith, ended P es st.made r.open_access a v st.events_are some)

pub ends_close :
    (shape : Shape) (r : PutReading) (es : List Event) (items stored : List ℕ) (a : Access) (v : Bool) → PutsStand shape r es items stored → r.open_access ≡ Some a →
    a ≡ begins.Write X true → r.stage ≡ Closing →
    PutsStand shape (record r { stage = Closed; open_access = None }) (es ++ end_event P (answered a v) ∷ []) items stored
ends_close shape r es items stored a v st some is stage =
    let (rests, made_is) = made_at shape r es items stored st Closing stage in
    ended_so st a v Closed st.puts some st.are st.count_is refl refl refl (
      record { holds = rests.holds; cell_is = rests.cell_is; items_are = rests.items_are; none_stored = rests.none_stored },
      ap (λ l. l ++ answered a v ∷ []) made_is ∙ ap (λ z. put_phrases shape first_count st.puts ++ answered z v ∷ []) is,
    )

read_zero : (s : ScanState) (v : Bool) → (scan_read s v).found ≡ false → (v ≡ false) × ((scan_read s v).zeros ≡ suc s.zeros)
read_zero s v e = grind arith

pub ends_zero :
    (shape : Shape) (r : PutReading) (es : List Event) (items stored : List ℕ) (scan : ScanState) (a : Access) (v : Bool) → PutsStand shape r es items stored → r.open_access ≡ Some a →
    a ≡ begins.Read (row_read_by P r.scan.zeros) → r.stage ≡ Scanning → scan ≡ scan_read r.scan v → scan.found ≡ false →
    PutsStand shape (record r { scan = scan; open_access = None }) (es ++ end_event P (answered a v) ∷ []) items stored
ends_zero shape r es items stored scan a v st some is stage fed not_found =
    let (rests, made_is) = made_at shape r es items stored st Scanning stage in
    let front : List Made = put_phrases shape first_count st.puts in
    let zeros : List Made = zero_reads (row_read_by P) r.scan.zeros in
    let (zero_is, more) = read_zero r.scan v (sym (ap (λ (z : ScanState). z.found) fed) ∙ not_found) in
    let more_is : scan.zeros ≡ suc r.scan.zeros = ap (λ (z : ScanState). z.zeros) fed ∙ more in
    ended_so st a v Scanning st.puts some st.are st.count_is refl refl stage (
      record { holds = rests.holds; cell_is = rests.cell_is; items_are = rests.items_are; none_stored = rests.none_stored },
      ap (λ l. l ++ answered a v ∷ []) made_is ∙ append_assoc front zeros (answered a v ∷ [])
          ∙ ap (λ z. front ++ (zeros ++ answered z v ∷ [])) is ∙ ap (λ w. front ++ (zeros ++ Read (row_read_by P r.scan.zeros) w ∷ [])) zero_is
          ∙ ap (λ n. front ++ zero_reads (row_read_by P) n) (sym more_is),
    )

read_one : (s : ScanState) (v : Bool) (seen : ℕ) → s.found ≡ false → (if (scan_read s v).found then Some (scan_read s v).zeros else None) ≡ Some seen → (v ≡ true) × (s.zeros ≡ seen)
read_one s v seen e f = grind arith

-- the accesses once a scan has returned its value
scanned :
    (shape : Shape) (r : PutReading) (es : List Event) (items stored : List ℕ) (st : PutsStand shape r es items stored) (scan : ScanState) (a : Access) (v : Bool) (seen : ℕ) →
    a ≡ begins.Read (row_read_by P r.scan.zeros) → r.stage ≡ Scanning → r.scan.found ≡ false → scan ≡ scan_read r.scan v → (if scan.found then Some scan.zeros else None) ≡ Some seen →
    AtRest shape r st.puts items stored × (st.made ++ answered a v ∷ [] ≡ put_phrases shape first_count st.puts ++ scan_phrase (row_read_by P) seen)
scanned shape r es items stored st scan a v seen is stage not_found fed gives = grind (arith, made_at, read_one, append_assoc)

pub ends_with_room :
    (shape : Shape) (r : PutReading) (es : List Event) (items stored : List ℕ) (scan : ScanState) (a : Access) (v : Bool) (seen room : ℕ) → PutsStand shape r es items stored →
    r.open_access ≡ Some a → a ≡ begins.Read (row_read_by P r.scan.zeros) → r.stage ≡ Scanning → r.scan.found ≡ false → scan ≡ scan_read r.scan v →
    (if scan.found then Some scan.zeros else None) ≡ Some seen → r.scan.zeros < modulus_of shape → 1 ≤ room → LeavesRoomFor shape r.count seen room → room ≤ batch_of shape →
    ((k : ℕ) → LeavesRoomFor shape r.count seen k → k ≤ batch_of shape → k ≤ room) →
    PutsStand shape (record r { stage = Choosing; scan = scan; room = room; next = r.count; some = false; open_access = None }) (es ++ end_event P (answered a v) ∷ []) items stored
ends_with_room shape r es items stored scan a v seen room st some is stage not_found fed gives below one fits few most =
    let (one_read, zeros_is) = read_one r.scan v seen not_found (ap (λ (z : ScanState). if z.found then Some z.zeros else None) (sym fed) ∙ gives) in
    let seen_below : seen < modulus_of shape = subst (λ k. k < modulus_of shape) zeros_is below in
    let (rests, made_so) = scanned shape r es items stored st scan a v seen is stage not_found fed gives in
    let front : List Made = put_phrases shape first_count st.puts in
    let n : ℕ = (count_behind shape st.puts).number in
    let new : PutReading = record r { stage = Choosing; scan = scan; room = room; next = r.count; some = false; open_access = None } in
    let may : IsMost shape n seen (0 + room) = record {
      below = seen_below;
      some = omega (arith, one);
      room = subst (λ k. LeavesRoomFor shape k seen (0 + room)) st.count_is (omega (arith, fits));
      few = omega (arith, few);
      most = λ k l m. omega (arith, most k (subst (λ z. LeavesRoomFor shape z seen k) (sym st.count_is) l) m);
    } in
    let at : MadeWhile Choosing shape new st.puts items [] (st.made ++ answered a v ∷ []) = (
      record {
        seen = seen;
        may = may;
        fit = record {};
        next_is = st.count_is;
        cell_is = rests.cell_is;
        some_is = refl;
        holds = rests.holds;
        items_are = rests.items_are;
      },
      made_so ∙ ap (λ l. front ++ l) (sym (append-nil (scan_phrase (row_read_by P) seen))),
    ) in
    ended_so st a v Choosing st.puts some st.are st.count_is refl refl refl
    (subst (λ l. MadeWhile Choosing shape new st.puts items l (st.made ++ answered a v ∷ [])) (sym rests.none_stored) at)

pub ends_full :
    (shape : Shape) (r : PutReading) (es : List Event) (items stored : List ℕ) (scan : ScanState) (a : Access) (v : Bool) (seen : ℕ) → PutsStand shape r es items stored →
    r.open_access ≡ Some a → a ≡ begins.Read (row_read_by P r.scan.zeros) → r.stage ≡ Scanning → r.scan.found ≡ false → scan ≡ scan_read r.scan v →
    (if scan.found then Some scan.zeros else None) ≡ Some seen → r.scan.zeros < modulus_of shape → (LeavesRoom shape r.count seen → ⊥) →
    PutsStand shape (record r { stage = Resting; scan = scan; open_access = None }) (es ++ end_event P (answered a v) ∷ []) items stored
ends_full shape r es items stored scan a v seen st some is stage not_found fed gives below full =
    let (one_read, zeros_is) = read_one r.scan v seen not_found (ap (λ (z : ScanState). if z.found then Some z.zeros else None) (sym fed) ∙ gives) in
    let seen_below : seen < modulus_of shape = subst (λ k. k < modulus_of shape) zeros_is below in
    let (rests, made_so) = scanned shape r es items stored st scan a v seen is stage not_found fed gives in
    let left : count_behind shape (st.puts ++ Full seen ∷ []) ≡ count_behind shape st.puts = stored-push shape first_count st.puts (Full seen) in
    ended_so st a v Resting (st.puts ++ Full seen ∷ []) some
    (are-push shape first_count st.puts (Full seen) st.are (seen_below, λ l. full (subst (λ k. LeavesRoom shape k seen) (sym st.count_is) l)))
    (st.count_is ∙ ap (λ (z : Count). z.number % modulus_of shape) (sym left)) refl refl refl (
      record {
        holds = subst (λ (z : Count). RowHolds r.row z.bits) (sym left) rests.holds;
        cell_is = rests.cell_is ∙ ap (λ (z : Count). z.number % capacity_of shape) (sym left);
        items_are = rests.items_are ∙ sym (all_put-full st.puts seen);
        none_stored = rests.none_stored;
      },
      made_so ∙ sym (phrases-push shape first_count st.puts (Full seen)),
    )
