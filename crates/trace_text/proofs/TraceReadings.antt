-- A text has one reading, and bytes have one fault or are a trace.
use Rattle.std.proofs.Common.{◌≡◌, ◌⊎◌, ◌≢◌, ℕ, suc, ◌+◌, ◌<◌, ◌≤◌, true, Result, Ok, Err, List, [], ◌∷◌, ◌++◌, length, take, inl, inr, refl, ap, sym, subst, ◌∙◌, append_assoc, arith}
use Rattle.std.specs.Prelude.{IfOk, IfErr, MatchResult}
use Rattle.std.specs.List.{flat_map}
use Rattle.std.proofs.lemmas.List.{append-nil, length-append, take_all}
use Rattle.trace_text.proofs.Common.{same_Some, Event, Shape, ShapeFault, TraceFault, AreOfShape, batch_of, belongs, capacity_of, modulus_of, take_batch_of, width_of, event_line, shape_line}
use Rattle.trace_text.proofs.Common.{trace_text}
use Rattle.bits_core.proofs.ShapeLemmas.{not_refused, one_refusal, same_shape}
use Rattle.trace_text.specs.declared.faults.TraceFault.TheVariants.{BadShape, BadLine, TooLong, OutOfMemory}
use Rattle.trace_text.specs.TraceReading.{event_at}
use Rattle.trace_text.specs.Trace.{BeginsWithMore, BeginsWithShape, IsTraceAndMore, HasMore, HasNoEvent, HasBadLine, HasBadShape, HasShapeLine, IsTooLong, IsTrace, IsTraceFault, IsTraceText}
use Rattle.trace_text.specs.Laws.{RefusedIsNoText, TraceIsText}
use Rattle.trace_text.proofs.TraceLines.{event_at-again, shape_at-again, small_indices}
use Rattle.trace_text.proofs.TraceLemmas.{line_takes}

-- ---- the first line

-- two lines of numbers at the front of the same bytes
pub record SameLine (c m w g h c' m' w' g' h' : ℕ) (rest rest' : List ℕ) : Type 0 where
  pub capacity : c ≡ c'
  pub modulus : m ≡ m'
  pub width : w ≡ w'
  pub batch : g ≡ g'
  pub take_batch : h ≡ h'
  pub others : rest ≡ rest'

lines_agree : (bytes : List ℕ) (c m w g h c' m' w' g' h' : ℕ) (a : HasShapeLine bytes c m w g h) (b : HasShapeLine bytes c' m' w' g' h') → SameLine c m w g h c' m' w' g' h' a.rest b.rest
lines_agree bytes c m w g h c' m' w' g' h' a b = grind (arith, (shape_at-again c m w g h a.rest a.short_capacity a.short_modulus a.short_width a.short_batch a.short_take_batch), (shape_at-again c' m' w' g' h' b.rest b.short_capacity b.short_modulus b.short_width b.short_batch b.short_take_batch), same_Some, a.rest, a.short_batch, a.short_capacity, a.short_modulus, a.short_take_batch, a.short_width, a.text, b.rest, b.short_batch, b.short_capacity, b.short_modulus, b.short_take_batch, b.short_width, b.text)

-- the line of a shape is one of short numbers
shape_has_line : (bytes : List ℕ) (s : Shape) (rest : List ℕ) → BeginsWithShape bytes s rest → HasShapeLine bytes (capacity_of s) (modulus_of s) (width_of s) (batch_of s) (take_batch_of s)
shape_has_line bytes s rest begins = grind arith

shape_not_bad : (bytes : List ℕ) (s : Shape) (rest : List ℕ) (fault : ShapeFault) → BeginsWithShape bytes s rest → ¬ HasBadShape bytes fault
unfolding shape_has_line
shape_not_bad bytes s rest fault begins bad = grind (arith, (lines_agree bytes bad.capacity bad.modulus bad.width bad.batch bad.take_batch (capacity_of s) (modulus_of s) (width_of s) (batch_of s) (take_batch_of s) bad.line (shape_has_line bytes s rest begins)), (shape_has_line bytes s rest begins), not_refused, bad.batch, bad.capacity, bad.line, bad.modulus, bad.refused, bad.take_batch, bad.width)

-- ---- the lines of events

-- each event is of a bit of the shape
abbrev EachOf : Shape → List Event → Type 0
EachOf shape [] = Unit {0}
EachOf shape (e ∷ es) = (belongs shape e.bit ≡ true) × EachOf shape es

EachOf-from : (shape : Shape) (es : List Event) → AreOfShape shape es → EachOf shape es
EachOf-from shape [] all = tt
EachOf-from shape (e ∷ es) all = (all 0 e (omega arith), EachOf-from shape es (λ k d below. all (suc k) d (omega arith)))

abbrev lines : List Event → List ℕ
lines es = flat_map event_line es

-- of two lists of lines at the front of the same bytes, one continues with the other's rest
Compared : Shape → Shape → List Event → List Event → List ℕ → List ℕ → Type 0
Compared s t es fs rest rest' = ((more : List Event) × (fs ≡ es ++ more) × (rest ≡ lines more ++ rest') × EachOf t more)
    ⊎ ((more : List Event) × (es ≡ fs ++ more) × (rest' ≡ lines more ++ rest) × EachOf s more)

compared : (s t : Shape) (es fs : List Event) (rest rest' : List ℕ) → EachOf s es → EachOf t fs → lines es ++ rest ≡ lines fs ++ rest' → Compared s t es fs rest rest'
unfolding Compared
compared s t [] fs rest rest' of_s of_t e = inl (fs, refl, e, of_t)
compared s t (x ∷ es) [] rest rest' of_s of_t e = inr (x ∷ es, refl, sym e, of_s)
compared s t (x ∷ es) (y ∷ fs) rest rest' of_s of_t e =
    let p : Event × List ℕ = (x, lines es ++ rest) in
    let q : Event × List ℕ = (y, lines fs ++ rest') in
    let whole : event_line x ++ (lines es ++ rest) ≡ event_line y ++ (lines fs ++ rest') = sym (append_assoc (event_line x) (lines es) rest) ∙ e ∙ append_assoc (event_line y) (lines fs) rest' in
    let same : p ≡ q = same_Some p q (sym (event_at-again x (lines es ++ rest) (small_indices s x.bit of_s.0)) ∙ ap event_at whole ∙ event_at-again y (lines fs ++ rest') (small_indices t y.bit of_t.0)) in
    let first : x ≡ y = ap (λ (z : Event × List ℕ). z.0) same in
    elim (compared s t es fs rest rest' of_s.1 of_t.1 (ap (λ (z : Event × List ℕ). z.1) same)) [
      | inl r ↦ inl (r.0, ap (λ (ys : List Event). y ∷ ys) r.1 ∙ ap (λ (z : Event). z ∷ (es ++ r.0)) (sym first), r.2, r.3)
      | inr r ↦ inr (r.0, ap (λ (ys : List Event). x ∷ ys) r.1 ∙ ap (λ (z : Event). z ∷ (fs ++ r.0)) first, r.2, r.3)
    ]

-- the whole texts
text_parts : (s : Shape) (es : List Event) (rest : List ℕ) → trace_text s es ++ rest ≡ shape_line (capacity_of s) (modulus_of s) (width_of s) (batch_of s) (take_batch_of s) ++ (lines es ++ rest)
text_parts s es rest = append_assoc (shape_line (capacity_of s) (modulus_of s) (width_of s) (batch_of s) (take_batch_of s)) (lines es) rest

text_begins : (bytes : List ℕ) (s : Shape) (es : List Event) (rest : List ℕ) → bytes ≡ trace_text s es ++ rest → BeginsWithShape bytes s (lines es ++ rest)
text_begins bytes s es rest e = e ∙ text_parts s es rest

record Read (bytes : List ℕ) (s : Shape) (es : List Event) (rest : List ℕ) : Type 0 where
  pub text : bytes ≡ trace_text s es ++ rest
  pub each : EachOf s es

Read-from : (bytes : List ℕ) (s : Shape) (es : List Event) (rest : List ℕ) → IsTraceAndMore bytes s es rest → Read bytes s es rest
Read-from bytes s es rest g = record { text = g.text; each = EachOf-from s es g.of_shape }

Read-text : (bytes : List ℕ) (s : Shape) (es : List Event) → IsTraceText bytes s es → Read bytes s es []
Read-text bytes s es trace = record { text = trace.text ∙ sym (append-nil (trace_text s es)); each = EachOf-from s es trace.of_shape }

Read-whole : (bytes : List ℕ) (s : Shape) (es : List Event) → IsTrace bytes s es → Read bytes s es []
Read-whole bytes s es trace = record { text = trace.text ∙ sym (append-nil (trace_text s es)); each = EachOf-from s es trace.of_shape }

-- two readings of a prefix of the same bytes
record Agree (s t : Shape) (es fs : List Event) (rest rest' : List ℕ) : Type 0 where
  pub shape : s ≡ t
  pub events : Compared s t es fs rest rest'

agree : (bytes : List ℕ) (s t : Shape) (es fs : List Event) (rest rest' : List ℕ) → Read bytes s es rest → Read bytes t fs rest' → Agree s t es fs rest rest'
unfolding shape_has_line
agree bytes s t es fs rest rest' a b =
    let begins_a = text_begins bytes s es rest a.text in
    let begins_b = text_begins bytes t fs rest' b.text in
    let same = lines_agree bytes (capacity_of s) (modulus_of s) (width_of s) (batch_of s) (take_batch_of s) (capacity_of t) (modulus_of t) (width_of t) (batch_of t) (take_batch_of t)
    (shape_has_line bytes s (lines es ++ rest) begins_a) (shape_has_line bytes t (lines fs ++ rest') begins_b) in
    record { shape = same_shape s t same.capacity same.modulus same.width same.batch same.take_batch; events = compared s t es fs rest rest' a.each b.each same.others }

some_line : (e : Event) (rest : List ℕ) → event_line e ++ rest ≢ []
some_line e rest is = omega (arith, line_takes e rest, ap length is)

-- nothing is left if nothing follows
nothing_left : (more : List Event) (rest : List ℕ) → [] ≡ lines more ++ rest → (more ≡ []) × (rest ≡ [])
nothing_left [] rest e = (refl, sym e)
nothing_left (x ∷ more) rest e = absurd (some_line x (lines more ++ rest) (sym (append_assoc (event_line x) (lines more) rest) ∙ sym e))

-- a text has one reading
pub one_text_reading : (bytes : List ℕ) (s t : Shape) (es fs : List Event) → IsTraceText bytes s es → IsTraceText bytes t fs → (s ≡ t) × (es ≡ fs)
unfolding Compared
one_text_reading bytes s t es fs a b = grind (arith, (Read-text bytes s es a), (Read-text bytes t fs b), (agree bytes s t es fs [] [] (Read-text bytes s es a) (Read-text bytes t fs b)), (append-nil es), (append-nil fs), nothing_left)

pub one_reading : (bytes : List ℕ) (s t : Shape) (es fs : List Event) → IsTrace bytes s es → IsTrace bytes t fs → (s ≡ t) × (es ≡ fs)
one_reading bytes s t es fs a b = one_text_reading bytes s t es fs (record { text = a.text; of_shape = a.of_shape }) (record { text = b.text; of_shape = b.of_shape })

-- ---- faults

-- if no event's line is at the front, no more lines were read
no_more : (s t : Shape) (more : List Event) (rest rest' : List ℕ) → s ≡ t → HasNoEvent s rest → rest ≡ lines more ++ rest' → EachOf t more → more ≡ []
no_more s t [] rest rest' same none e of_t = refl
no_more s t (x ∷ more) rest rest' same none e of_t = grind (arith, append_assoc)

length-of : (es fs more : List Event) → fs ≡ es ++ more → length fs ≡ length es + length more
length-of es fs more e = ap length e ∙ length-append es more

bad_line_once : (bytes : List ℕ) (n m : ℕ) → HasBadLine bytes n → HasBadLine bytes m → n ≡ m
unfolding Compared
bad_line_once bytes n m a b =
    let both = agree bytes a.shape b.shape a.events b.events a.rest b.rest (Read-from bytes a.shape a.events a.rest a.goes_on) (Read-from bytes b.shape b.events b.rest b.goes_on) in
    let count : length a.events ≡ length b.events = elim both.events [
      | inl r ↦
          let none : r.0 ≡ [] = no_more a.shape b.shape r.0 a.rest b.rest both.shape a.no_event r.2 r.3 in
          omega (arith, length-of a.events b.events r.0 r.1, ap length none)
      | inr r ↦
          let none : r.0 ≡ [] = no_more b.shape a.shape r.0 b.rest a.rest (sym both.shape) b.no_event r.2 r.3 in
          omega (arith, length-of b.events a.events r.0 r.1, ap length none)
    ] in
    omega (arith, a.number, b.number)

bad_line_not_long : (bytes : List ℕ) (n : ℕ) → HasBadLine bytes n → ¬ IsTooLong bytes
unfolding Compared
bad_line_not_long bytes n a b =
    let both = agree bytes a.shape b.shape a.events b.events a.rest b.rest (Read-from bytes a.shape a.events a.rest a.goes_on) (Read-from bytes b.shape b.events b.rest b.goes_on) in
    elim both.events [
      | inl r ↦
          let none : r.0 ≡ [] = no_more a.shape b.shape r.0 a.rest b.rest both.shape a.no_event r.2 r.3 in
          omega (arith, length-of a.events b.events r.0 r.1, ap length none, a.room, b.full)
      | inr r ↦ omega (arith, length-of b.events a.events r.0 r.1, a.room, b.full)
    ]

-- bytes that continue after the events of a text with something that is not an event are not a text
no_event_no_text : (bytes : List ℕ) (s t : Shape) (es fs : List Event) (rest : List ℕ) → IsTraceAndMore bytes s es rest → HasNoEvent s rest → ¬ IsTraceText bytes t fs
unfolding Compared
no_event_no_text bytes s t es fs rest goes_on no_event b =
    let both = agree bytes s t es fs rest [] (Read-from bytes s es rest goes_on) (Read-text bytes t fs b) in
    elim both.events [
      | inl r ↦
          let none : r.0 ≡ [] = no_more s t r.0 rest [] both.shape no_event r.2 r.3 in
          goes_on.more (r.2 ∙ ap (λ (es : List Event). lines es ++ []) none)
      | inr r ↦ goes_on.more (nothing_left r.0 rest r.2).1
    ]

too_long_no_trace : (bytes : List ℕ) (t : Shape) (fs : List Event) → IsTooLong bytes → ¬ IsTrace bytes t fs
unfolding Compared
too_long_no_trace bytes t fs a b =
    let both = agree bytes a.shape t a.events fs a.rest [] (Read-from bytes a.shape a.events a.rest a.goes_on) (Read-whole bytes t fs b) in
    elim both.events [
      | inl r ↦ more_is_left r.0 r.2 (omega (arith, length-of a.events fs r.0 r.1, a.full, b.within))
      | inr r ↦ a.goes_on.more (nothing_left r.0 a.rest r.2).1
    ]
  where
    more_is_left : (more : List Event) → a.rest ≡ lines more ++ [] → length more ≤ 0 → ⊥
    more_is_left [] e none = a.goes_on.more e
    more_is_left (x ∷ more) e none = omega arith

-- the line of the shape, after which a fault comes further on
line_before : (bytes : List ℕ) (s : Shape) (es : List Event) (rest : List ℕ) → IsTraceAndMore bytes s es rest → HasShapeLine bytes (capacity_of s) (modulus_of s) (width_of s) (batch_of s) (take_batch_of s)
line_before bytes s es rest g = shape_has_line bytes s (lines es ++ rest) (text_begins bytes s es rest g.text)

bad_shape_once : (bytes : List ℕ) (f g : ShapeFault) → HasBadShape bytes f → HasBadShape bytes g → f ≡ g
bad_shape_once bytes f g a b = grind (arith, (lines_agree bytes a.capacity a.modulus a.width a.batch a.take_batch b.capacity b.modulus b.width b.batch b.take_batch a.line b.line), one_refusal, a.batch, a.capacity, a.line, a.modulus, a.refused, a.take_batch, a.width, b.batch, b.capacity, b.line, b.modulus, b.refused, b.take_batch, b.width)

bad_shape_stops : (bytes : List ℕ) (f : ShapeFault) (s : Shape) (es : List Event) (rest : List ℕ) → HasBadShape bytes f → ¬ IsTraceAndMore bytes s es rest
bad_shape_stops bytes f s es rest a g = shape_not_bad bytes s (lines es ++ rest) f (text_begins bytes s es rest g.text) a

-- bytes with a fault are not a trace
pub faulty_is_no_trace : (bytes : List ℕ) (fault : TraceFault) (s : Shape) (es : List Event) → IsTraceFault bytes fault → ¬ IsTrace bytes s es
faulty_is_no_trace bytes (BadShape f) s es fault trace = shape_not_bad bytes s (lines es) f trace.text fault
faulty_is_no_trace bytes (BadLine n) s es (inl none) trace = none.1 (capacity_of s) (modulus_of s) (width_of s) (batch_of s) (take_batch_of s) (shape_has_line bytes s (lines es) trace.text)
faulty_is_no_trace bytes (BadLine n) s es (inr bad) trace = no_event_no_text bytes bad.shape s bad.events es bad.rest bad.goes_on bad.no_event (record { text = trace.text; of_shape = trace.of_shape })
faulty_is_no_trace bytes TooLong s es fault trace = too_long_no_trace bytes s es fault trace
faulty_is_no_trace bytes OutOfMemory s es fault trace = fault

-- ---- traces of any length

-- a trace is one with no more events than a trace may have
pub trace_is_text : TraceIsText
trace_is_text bytes shape events = grind arith

-- bytes that are refused are not a trace
pub refused_is_no_text : RefusedIsNoText
refused_is_no_text bytes (BadShape f) s es counted fault trace = shape_not_bad bytes s (lines es) f trace.text fault
refused_is_no_text bytes (BadLine n) s es counted (inl none) trace = none.1 (capacity_of s) (modulus_of s) (width_of s) (batch_of s) (take_batch_of s) (shape_has_line bytes s (lines es) trace.text)
refused_is_no_text bytes (BadLine n) s es counted (inr bad) trace = no_event_no_text bytes bad.shape s bad.events es bad.rest bad.goes_on bad.no_event trace
refused_is_no_text bytes TooLong s es counted fault trace = counted refl
refused_is_no_text bytes OutOfMemory s es counted fault trace = fault

-- bytes have one fault
pub one_fault : (bytes : List ℕ) (f g : TraceFault) → IsTraceFault bytes f → IsTraceFault bytes g → f ≡ g
one_fault bytes (BadShape f) (BadShape g) a b = ap BadShape (bad_shape_once bytes f g a b)
one_fault bytes (BadShape f) (BadLine n) a (inl none) = absurd (none.1 a.capacity a.modulus a.width a.batch a.take_batch a.line)
one_fault bytes (BadShape f) (BadLine n) a (inr bad) = absurd (bad_shape_stops bytes f bad.shape bad.events bad.rest a bad.goes_on)
one_fault bytes (BadShape f) TooLong a b = absurd (bad_shape_stops bytes f b.shape b.events b.rest a b.goes_on)
one_fault bytes (BadShape f) OutOfMemory a b = absurd b
one_fault bytes (BadLine n) (BadShape g) (inl none) b = absurd (none.1 b.capacity b.modulus b.width b.batch b.take_batch b.line)
one_fault bytes (BadLine n) (BadShape g) (inr bad) b = absurd (bad_shape_stops bytes g bad.shape bad.events bad.rest b bad.goes_on)
one_fault bytes (BadLine n) (BadLine m) (inl none) (inl other) = ap BadLine (none.0 ∙ sym other.0)
one_fault bytes (BadLine n) (BadLine m) (inl none) (inr bad) = absurd (none.1 _ _ _ _ _ (line_before bytes bad.shape bad.events bad.rest bad.goes_on))
one_fault bytes (BadLine n) (BadLine m) (inr bad) (inl none) = absurd (none.1 _ _ _ _ _ (line_before bytes bad.shape bad.events bad.rest bad.goes_on))
one_fault bytes (BadLine n) (BadLine m) (inr bad) (inr other) = ap BadLine (bad_line_once bytes n m bad other)
one_fault bytes (BadLine n) TooLong (inl none) b = absurd (none.1 _ _ _ _ _ (line_before bytes b.shape b.events b.rest b.goes_on))
one_fault bytes (BadLine n) TooLong (inr bad) b = absurd (bad_line_not_long bytes n bad b)
one_fault bytes (BadLine n) OutOfMemory a b = absurd b
one_fault bytes TooLong (BadShape g) a b = absurd (bad_shape_stops bytes g a.shape a.events a.rest b a.goes_on)
one_fault bytes TooLong (BadLine m) a (inl none) = absurd (none.1 _ _ _ _ _ (line_before bytes a.shape a.events a.rest a.goes_on))
one_fault bytes TooLong (BadLine m) a (inr bad) = absurd (bad_line_not_long bytes m bad a)
one_fault bytes TooLong TooLong a b = refl
one_fault bytes TooLong OutOfMemory a b = absurd b
one_fault bytes OutOfMemory g a b = absurd a

-- ---- room for some events alone

-- a trace has more events than those that another one follows
more_follows : (bytes : List ℕ) (es : List Event) (s : Shape) (fs : List Event) → HasMore bytes es → IsTrace bytes s fs → length es < length fs
unfolding Compared
more_follows bytes es s fs a b =
    let with_next : List Event = es ++ a.next ∷ [] in
    let both = agree bytes a.shape s with_next fs a.rest [] (record { text = a.text; each = EachOf-from a.shape with_next a.of_shape }) (Read-whole bytes s fs b) in
    elim both.events [
      | inl r ↦ omega (arith, length-append es (a.next ∷ []), length-of with_next fs r.0 r.1)
      | inr r ↦ omega (arith, length-append es (a.next ∷ []), length-of fs with_next r.0 r.1, ap length (nothing_left r.0 a.rest r.2).0)
    ]

-- so a call that reports a lack of slots only then reads each trace that has room in them
pub reads_each_small : (bytes : List ℕ) (r : Result Shape TraceFault) (slots : List Event) (used : ℕ)
    → IfOk r (λ s. IsTrace bytes s (take used slots)) → IfErr r (λ e. ((e ≡ OutOfMemory) × (length slots ≤ used) × HasMore bytes (take used slots)) ⊎ IsTraceFault bytes e)
    → (s : Shape) (es : List Event) → IsTrace bytes s es → MatchResult r (λ t. (t ≡ s) × (take used slots ≡ es)) (λ e. (e ≡ OutOfMemory) × (length slots < length es))
reads_each_small bytes (Ok t) slots used read refused s es trace = one_reading bytes t s (take used slots) es read trace
reads_each_small bytes (Err e) slots used read (inl short) s es trace = grind (arith, (more_follows bytes (take used slots) s es short.2 trace), (take_all used slots short.1), short.0, short.1, short.2)
reads_each_small bytes (Err e) slots used read (inr fault) s es trace = absurd (faulty_is_no_trace bytes e s es fault trace)

-- what else it may report
pub short_or_fault : (bytes : List ℕ) (r : Result Shape TraceFault) (slots : List Event) (used : ℕ)
    → IfErr r (λ e. ((e ≡ OutOfMemory) × (length slots ≤ used) × HasMore bytes (take used slots)) ⊎ IsTraceFault bytes e) → IfErr r (λ e. (e ≡ OutOfMemory) ⊎ IsTraceFault bytes e)
short_or_fault bytes r slots used h1 = grind arith

-- if the slots are too few, the bytes begin with a trace of more events
begins_with_more : (bytes : List ℕ) (slots : List Event) (used : ℕ) → length slots ≤ used → HasMore bytes (take used slots) → BeginsWithMore bytes (length slots)
begins_with_more bytes slots used full more =
    let events : List Event = take used slots ++ more.next ∷ [] in
    record {
      first = trace_text more.shape events;
      rest = more.rest;
      shape = more.shape;
      events = events;
      parts = more.text;
      is_trace = record { text = refl; of_shape = more.of_shape; within = more.within };
      more = omega (arith, length-append (take used slots) (more.next ∷ []), ap length (take_all used slots full));
    }

pub short_begins : (bytes : List ℕ) (r : Result Shape TraceFault) (slots : List Event) (used : ℕ)
    → IfErr r (λ e. ((e ≡ OutOfMemory) × (length slots ≤ used) × HasMore bytes (take used slots)) ⊎ IsTraceFault bytes e) → IfErr r (λ e. e ≡ OutOfMemory → BeginsWithMore bytes (length slots))
short_begins bytes (Ok t) slots used refused = refused
short_begins bytes (Err e) slots used (inl short) = λ is. begins_with_more bytes slots used short.1 short.2
short_begins bytes (Err e) slots used (inr fault) = λ is. let none : IsTraceFault bytes OutOfMemory = subst (IsTraceFault bytes) is fault in absurd none
