-- Where the writes to the digits of a cell are among the accesses of the producer.
use Rattle.std.proofs.Common.{◌≡◌, ◌⊎◌, inl, inr, ℕ, zero, suc, ◌+◌, ◌%◌, ◌^◌, ◌<◌, Bool, true, false, cond, nat_eq, Some, None, List, [], ◌∷◌, ◌++◌, length, refl, sym, ap, ◌∙◌, arith, append_assoc, append-nil, length-append}
use Rattle.ring_core.proofs.Common.{All, nat_tests, filter_map-append, All-nil, All-append, P, S, R, X, Cell, Shape, AllFit, capacity_of, width_of, Count, words_phrase}
use Rattle.bits_core.specs.declared.events.Act.TheVariants.{ReadBegin}
use Rattle.bits_core.specs.declared.events.Access.TheVariants as begins
use Rattle.bits_core.specs.Made.{Made, Read, Write, access_of, begin_event}
use Rattle.register_core.specs.Row.{RowWrite, row_bit, row_write, writes_in}
use Rattle.register_core.specs.Word.{word_write, word_writes}
use Rattle.register_core.specs.WordLaw.{cell_write}
use Rattle.register_core.specs.ScanState.{scan_phrase, zero_reads, row_read_by}
use Rattle.register_core.specs.MadeWrites.{made_writes}
use Rattle.ring_core.proofs.OverSpans.Spans.{Outcome, Passes, Stops, Asks, Span, counts, items_of, whole, IsSpanAt}
use Rattle.ring_core.proofs.OverSpans.LookSpans.{Look, word_part, count_part, look_number, after_look, look_accesses, span_of, spans}
pub use Rattle.register_core.proofs.Items.{length-word_writes}

-- the writes to the digits of a cell among accesses of the producer
abbrev pub to_cell : ℕ → List Made → List RowWrite
to_cell j made = made_writes (cell_write j) P made

-- those of two lists, one after the other
pub to_cell-append : (j : ℕ) (xs ys : List Made) → to_cell j (xs ++ ys) ≡ to_cell j xs ++ to_cell j ys
to_cell-append j xs ys = filter_map-append (λ (x : Made). cell_write j (begin_event P x)) xs ys

-- ---- the position of an access in two lists, one after the other

-- it is in the first, or after it in the second
pub where_in :
    (us vs before : List Made) (x : Made) (after : List Made) → us ++ vs ≡ before ++ x ∷ after →
    ((rest : List Made) × (us ≡ before ++ x ∷ rest) × (after ≡ rest ++ vs)) ⊎ ((more : List Made) × (before ≡ us ++ more) × (vs ≡ more ++ x ∷ after))
where_in [] vs before x after e = inr (before, refl, e)
where_in (u ∷ us) vs [] x after e = inl (us, (let same : u ≡ x = cc in cc), (let rest : us ++ vs ≡ after = cc in sym rest))
where_in (u ∷ us) vs (y ∷ before) x after e = grind (arith, where_in us vs before x after cc)

-- ---- the parts of a look

-- an access that is not a write of a digit of a cell
abbrev pub NoCell : Made → Type 0
NoCell x = (j d : ℕ) (v : Bool) → access_of x ≡ begins.Write (Cell j d) v → ⊥

-- none of these accesses is such a write
abbrev pub NoCells : List Made → Type 0
NoCells [] = Unit {0}
NoCells (x ∷ xs) = NoCell x × NoCells xs

no_cells-append : (xs ys : List Made) → NoCells xs → NoCells ys → NoCells (xs ++ ys)
no_cells-append [] ys a b = b
no_cells-append (x ∷ xs) ys (x_not, a) b = (x_not, no_cells-append xs ys a b)

no_cells-read : (n : ℕ) → NoCells (zero_reads (row_read_by P) n)
no_cells-read zero = record {}
no_cells-read (suc n) = no_cells-append (zero_reads (row_read_by P) n) (Read (R n) false ∷ []) (no_cells-read n) ((λ j d v e. absurd (cc)), record {})

-- a scan has no such write
pub no_cells-scan : (c : ℕ) → NoCells (scan_phrase (row_read_by P) c)
no_cells-scan c = no_cells-append (zero_reads (row_read_by P) c) (Read (R c) true ∷ []) (no_cells-read c) ((λ j d v e. absurd (cc)), record {})

no_cells-row : (writes : List RowWrite) → NoCells (writes_in (row_bit P) writes)
no_cells-row [] = record {}
no_cells-row (w ∷ writes) = ((λ j d v e. absurd (cc)), no_cells-row writes)

-- such an access writes to no cell
no_cell : (j : ℕ) (x : Made) → NoCell x → cell_write j (begin_event P x) ≡ None
no_cell j (Read (S i) v) h = refl
no_cell j (Read (R i) v) h = refl
no_cell j (Read X v) h = refl
no_cell j (Read (Cell l i) v) h = elim (nat_eq j l) as (λ t. row_write (cond t (Some i) None) ReadBegin ≡ None) [ true ↦ refl | false ↦ refl ]
no_cell j (Write (S i) v) h = refl
no_cell j (Write (R i) v) h = refl
no_cell j (Write X v) h = refl
no_cell j (Write (Cell l i) v) h = absurd (h l i v refl)

-- and such accesses write to none
pub none_to_cell : (j : ℕ) (xs : List Made) → NoCells xs → to_cell j xs ≡ []
none_to_cell j [] h = refl
none_to_cell j (x ∷ xs) (x_not, h) = rw (no_cell j x x_not) (none_to_cell j xs h)

-- and none of them is a write of a digit
pub none_there :
    (xs before : List Made) (x : Made) (after : List Made) (j d : ℕ) (v : Bool) → NoCells xs → xs ≡ before ++ x ∷ after →
    access_of x ≡ begins.Write (Cell j d) v → ⊥
none_there [] [] x after j d v h e f = absurd (cc)
none_there [] (y ∷ before) x after j d v h e f = absurd (cc)
none_there (u ∷ us) [] x after j d v (u_not, h) e f = u_not j d v (let same : u ≡ x = cc in ap access_of same ∙ f)
none_there (u ∷ us) (y ∷ before) x after j d v (u_not, h) e f = none_there us before x after j d v h (cc) f

-- the test for a cell's own number holds
pub own_number : (c i : ℕ) → cond (nat_eq c c) (Some i) None ≡ Some i
own_number c i = grind (arith, nat_tests)

other_number : (j c i : ℕ) → (j ≡ c → ⊥) → cond (nat_eq j c) (Some i) None ≡ None
other_number j c i h = grind (arith, nat_tests)

-- the writes of a word write to its own cell
pub own_cell : (c : ℕ) (writes : List RowWrite) → to_cell c (writes_in (Cell c) writes) ≡ writes
own_cell c [] = refl
own_cell c (w ∷ writes) = rw (own_number c w.bit) (ap (λ l. w ∷ l) (own_cell c writes))

-- they have none to another cell
other_cell : (j c : ℕ) (writes : List RowWrite) → (j ≡ c → ⊥) → to_cell j (writes_in (Cell c) writes) ≡ []
other_cell j c [] h = refl
other_cell j c (w ∷ writes) h = rw (other_number j c w.bit h) (other_cell j c writes h)

-- a write to a digit of the cell is counted at its place
pub to_cell-there :
    (j : ℕ) (before : List Made) (x : Made) (after : List Made) (d : ℕ) (v : Bool) → access_of x ≡ begins.Write (Cell j d) v →
    length (to_cell j (before ++ x ∷ after)) ≡ length (to_cell j before) + suc (length (to_cell j after))
to_cell-there j before x after d v f = grind (arith, own_number, to_cell-append, length-append)

-- ---- the items stored to a cell

-- those of these items that are stored to the cell; the first of these items is number n
abbrev pub stored_to : Shape → ℕ → ℕ → List ℕ → List ℕ
stored_to shape j n [] = []
stored_to shape j n (item ∷ items) = cond (nat_eq j (n % capacity_of shape)) (item ∷ []) [] ++ stored_to shape j (suc n) items

-- those that are stored to the cell after a scan, after n items
abbrev pub items_here : Shape → ℕ → ℕ → Outcome → List ℕ
items_here shape j n (Passes items) = stored_to shape j n items
items_here shape j n Stops = []
items_here shape j n (Asks answer) = []

-- the items of the looks that store to the cell, in order
abbrev pub cell_items : Shape → ℕ → ℕ → List Look → List ℕ
cell_items shape j n [] = []
cell_items shape j n (l ∷ looks) = items_here shape j n l.outcome ++ cell_items shape j (look_number n l.outcome) looks

same_number : (j c : ℕ) → nat_eq j c ≡ true → j ≡ c
same_number j c e = grind (arith, nat_tests)

two_numbers : (j c : ℕ) → nat_eq j c ≡ false → j ≡ c → ⊥
two_numbers j c e f = grind (arith, nat_tests)

-- the writes of what follows a scan are those of the item that it stores
pub word_to_cell :
    (shape : Shape) (j n item : ℕ) (b : Bool) → nat_eq j (n % capacity_of shape) ≡ b →
    to_cell j (word_write (width_of shape) (n % capacity_of shape) item) ≡ word_writes (width_of shape) (cond b (item ∷ []) [])
word_to_cell shape j n item b e = grind (arith, same_number, own_cell, append-nil, other_cell, two_numbers)

word_writes-append : (width : ℕ) (xs ys : List ℕ) → word_writes width (xs ++ ys) ≡ word_writes width xs ++ word_writes width ys
word_writes-append width [] ys = refl
word_writes-append width (x ∷ xs) ys = grind (arith, append_assoc, word_writes-append width xs ys)

-- so the writes of words are those of the items that are stored to it
pub words_to_cell :
    (shape : Shape) (j n : ℕ) (items : List ℕ) → to_cell j (words_phrase shape n items) ≡ word_writes (width_of shape) (stored_to shape j n items)
words_to_cell shape j n [] = refl
words_to_cell shape j n (item ∷ items) = grind (arith, to_cell-append, word_to_cell, word_writes-append, words_to_cell shape j (suc n) items)

-- a count write has no write to a cell
pub no_cells-count : (shape : Shape) (c : Count) (o : Outcome) → NoCells (count_part P shape c o)
no_cells-count shape c (Passes items) = no_cells-row _
no_cells-count shape c Stops = tt
no_cells-count shape c (Asks answer) = tt

-- the writes of a look and of what follows it
pub look_to_cell :
    (shape : Shape) (j : ℕ) (c : Count) (l : Look) (rest : List Made) →
    to_cell j (scan_phrase (row_read_by P) l.seen ++ (word_part P shape c.number l.outcome ++ (count_part P shape c l.outcome ++ rest))) ≡
    word_writes (width_of shape) (items_here shape j c.number l.outcome) ++ to_cell j rest
look_to_cell shape j c l rest = grind (arith, to_cell-append, none_to_cell, no_cells-scan, no_cells-count, words_to_cell)

-- the writes of looks are those of their items' words
pub looks_to_cell :
    (shape : Shape) (j : ℕ) (c : Count) (looks : List Look) (behind : List Made) → to_cell j behind ≡ [] →
    to_cell j (look_accesses P shape c looks behind) ≡ word_writes (width_of shape) (cell_items shape j c.number looks)
looks_to_cell shape j c [] behind none = none
looks_to_cell shape j c (l ∷ looks) behind none = grind (arith, look_to_cell, word_writes-append, after_look, looks_to_cell shape j (after_look shape c l.outcome) looks behind none)

-- each item of these spans fits
abbrev pub ItemsFit : Shape → List Span → Type 0
ItemsFit shape xs = (start number : ℕ) (x : Span) → IsSpanAt xs start number x → AllFit shape (items_of x.outcome)

stored_fit : (shape : Shape) (j n : ℕ) (items : List ℕ) → AllFit shape items → All (λ v. v < 2 ^ width_of shape) (stored_to shape j n items)
stored_fit shape j n [] fit = All-nil _
stored_fit shape j n (item ∷ items) fit = grind (arith, All-append, stored_fit shape j (suc n) items fit.1)

here_fits : (shape : Shape) (j n : ℕ) (o : Outcome) → AllFit shape (items_of o) → All (λ v. v < 2 ^ width_of shape) (items_here shape j n o)
here_fits shape j n o fit = grind (arith, stored_fit, All-nil)

-- so those stored to a cell do
pub cell_items_fit :
    (shape : Shape) (j : ℕ) (c : Count) (looks : List Look) → ItemsFit shape (spans P shape c looks) →
    All (λ v. v < 2 ^ width_of shape) (cell_items shape j c.number looks)
cell_items_fit shape j c [] fits = All-nil _
cell_items_fit shape j c (l ∷ looks) fits =
    let next : Count = after_look shape c l.outcome in
    let first : Span = span_of P shape c l in
    All-append (λ v. v < 2 ^ width_of shape) (items_here shape j c.number l.outcome) (cell_items shape j next.number looks)
    (here_fits shape j c.number l.outcome (fits 0 0 first (inl (refl, refl, refl))))
    (cell_items_fit shape j next looks (λ start number x st.
    fits (whole first + start) (counts l.outcome + number) x (inr (start, number, refl, refl, st))))
