-- The position of the first fault of recorded calls, and of the first line at which a recorded register lacks a class.
use Rattle.std.proofs.Common.{◌≡◌, ◌≢◌, ◌∙◌, ◌⊎◌, ℕ, ◌+◌, take, length-append, List, [], ◌∷◌, ◌++◌, inl, inr, append_assoc, ap, ap₂, length, refl, sym, subst, arith}
use Rattle.std.proofs.Math.ListN.{get_or}
use Rattle.std.proofs.Math.Seq.{take-append_seam}
use Rattle.std.specs.Prelude.{drop}
use Rattle.std.proofs.lemmas.List.{append-nil}
use Rattle.std.proofs.lemmas.List.Elements.{All-cons, All-head, All-nil, All-tail}
use Rattle.queue_calls.specs.Calls.{Event}
use Rattle.call_lines.specs.Lines.{line_text}
use Rattle.queue_calls.specs.Queue.{Capacity}
use Rattle.queue_calls.specs.Recordings.{IsRecording, Line, first_word, line, lines_text, text_of}
use Rattle.line_parts.specs.LineEnds.{HasNoFeed}
use Rattle.line_parts.proofs.LineFeeds.{feed_nowhere}
use Rattle.register_calls.specs.declared.events.Class.{Class}
use Rattle.register_lines.specs.Lines.{register_line_text}
use Rattle.register_lines.specs.declared.lines.RegisterLine.{RegisterLine}
use Rattle.register_recordings.specs.Recordings.{KeepsClass, register_line_bytes, register_text}
use Rattle.ring_program.specs.Readings.{EndsAtFirst, HasNoFault, HoldsOfLines, IsFaultless, IsOneLine}

head_is : (x y : ℕ) (xs ys : List ℕ) → x ∷ xs ≡ y ∷ ys → x ≡ y
head_is x y xs ys e = ap (λ (t : List ℕ). get_or t 0 0) e

tail_is : (x y : ℕ) (xs ys : List ℕ) → x ∷ xs ≡ y ∷ ys → xs ≡ ys
tail_is x y xs ys e = ap (λ (t : List ℕ). drop 1 t) e

no_cons : (x : ℕ) (xs : List ℕ) → [] ≢ x ∷ xs
no_cons x xs e = absurd (omega (arith, ap length e))

none_behind : (xs ys : List ℕ) → xs ++ ys ≡ [] → xs ≡ []
none_behind [] ys e = refl
none_behind (x ∷ xs) ys e = absurd (no_cons x (xs ++ ys) (sym e))

-- ---- two parts of one list

abbrev Overlap : List ℕ → List ℕ → List ℕ → List ℕ → Type 0
Overlap xs ys zs ws = ((d : List ℕ) × (zs ≡ xs ++ d) × (ys ≡ d ++ ws)) ⊎ ((d : List ℕ) × (xs ≡ zs ++ d) × (ws ≡ d ++ ys))

overlap : (xs ys zs ws : List ℕ) → xs ++ ys ≡ zs ++ ws → Overlap xs ys zs ws
overlap [] ys zs ws e = inl (zs, refl, e)
overlap (x ∷ xs) ys [] ws e = inr (x ∷ xs, refl, sym e)
overlap (x ∷ xs) ys (z ∷ zs) ws e = cons (overlap xs ys zs ws (tail_is x z (xs ++ ys) (zs ++ ws) e))
  where
    same : x ≡ z
    same = head_is x z (xs ++ ys) (zs ++ ws) e

    cons : Overlap xs ys zs ws → Overlap (x ∷ xs) ys (z ∷ zs) ws
    cons (inl (d, longer, rest)) = inl (d, ap₂ (λ (c : ℕ) (t : List ℕ). c ∷ t) (sym same) longer, rest)
    cons (inr (d, longer, rest)) = inr (d, ap₂ (λ (c : ℕ) (t : List ℕ). c ∷ t) same longer, rest)

-- ---- line feeds

pub one_line : (xs : List ℕ) → HasNoFeed xs → IsOneLine xs
one_line xs none a b e = absurd (feed_nowhere xs a b none e)

pub line_behind : (xs ys : List ℕ) → HasNoFeed xs → IsOneLine ys → IsOneLine (xs ++ ys)
line_behind [] ys none one a b e = one a b e
line_behind (x ∷ xs) ys none one [] b e = absurd (All-head (λ c. c ≢ 10) x xs none (head_is x 10 (xs ++ ys) b e))
line_behind (x ∷ xs) ys none one (c ∷ a) b e = line_behind xs ys (All-tail (λ c. c ≢ 10) x xs none) one a b (tail_is x c (xs ++ ys) (a ++ 10 ∷ b) e)

feed_alone : IsOneLine (10 ∷ [])
feed_alone [] b e = sym (tail_is 10 10 [] b e)
feed_alone (c ∷ a) b e = absurd (feed_nowhere [] a b (All-nil (λ c. c ≢ 10)) (tail_is 10 c [] (a ++ 10 ∷ b) e))

-- the bytes up to and including a line feed
pub front_line : (bytes front more line : List ℕ) → HasNoFeed front → bytes ≡ front ++ 10 ∷ more → line ≡ take (length front + 1) bytes → IsOneLine line
front_line bytes front more line none is cut =
    grind (arith, length-append front (10 ∷ []), ap₂, append_assoc front (10 ∷ []) more, take-append_seam, line_behind front (10 ∷ []) none feed_alone, feed_alone)

-- a text of lines ends in a line feed
ends_in_feed : (l : Line) (ls : List Line) → (t : List ℕ) × (lines_text (l ∷ ls) ≡ t ++ 10 ∷ [])
ends_in_feed l [] = (line_text l.word l.numbers, append-nil (text_of l))
ends_in_feed l (m ∷ ls) =
    let later = ends_in_feed m ls in
    (text_of l ++ later.0, ap (λ (t : List ℕ). text_of l ++ t) later.1 ∙ sym (append_assoc (text_of l) later.0 (10 ∷ [])))

recording_ends : (bytes : List ℕ) (capacity : Capacity) (events : List Event) → IsRecording bytes capacity events → (t : List ℕ) × (bytes ≡ t ++ 10 ∷ [])
recording_ends bytes capacity events is =
    let ends = ends_in_feed (line (first_word is.is_cut) is.first) is.further in
    (ends.0, is.text ∙ ends.1)

-- what comes after a prefix, and has no line feed, is empty if the whole ends in one
nothing_behind : (front d t : List ℕ) → HasNoFeed d → t ++ 10 ∷ [] ≡ front ++ d → d ≡ []
nothing_behind front d t none e = by (overlap t (10 ∷ []) front d e)
  where
    by : Overlap t (10 ∷ []) front d → d ≡ []
    by (inl ([], longer, rest)) = absurd (feed_nowhere d [] [] none (sym rest))
    by (inl (x ∷ more, longer, rest)) = short more (tail_is 10 x [] (more ++ d) rest)
      where
        short : (more : List ℕ) → [] ≡ more ++ d → d ≡ []
        short [] e = sym e
        short (y ∷ ys) e = absurd (no_cons y (ys ++ d) e)
    by (inr (more, longer, rest)) = absurd (feed_nowhere d more [] none rest)

-- ---- the first line at which something stops holding

module _ (Holds : List ℕ → Type 0) (feeds : (x : ℕ) (xs : List ℕ) → Holds (x ∷ xs) → (t : List ℕ) × (x ∷ xs ≡ t ++ 10 ∷ [])) where
  -- lines for which it holds, and then some of a line
  ends_at_shorter : (ended d front : List ℕ) → ended ≡ front ++ d → HasNoFeed d → Holds ended → EndsAtFirst Holds front
  ends_at_shorter [] d front is none holds =
      let nothing : front ≡ [] = none_behind front d (sym is) in
      ([], [], nothing, holds, one_line [] (All-nil (λ c. c ≢ 10)))
  ends_at_shorter (x ∷ ended) d front is none holds =
      let feed = feeds x ended holds in
      let nothing : d ≡ [] = nothing_behind front d feed.0 none (sym feed.1 ∙ is) in
      let same : front ≡ x ∷ ended = sym (is ∙ ap (λ (t : List ℕ). front ++ t) nothing ∙ append-nil front) in
      (x ∷ ended, [], same ∙ sym (append-nil (x ∷ ended)), holds, one_line [] (All-nil (λ c. c ≢ 10)))

  -- a line was read after bytes for whose lines it holds; all lines of these go no further than the first at which it stops
  pub ends_at : (bytes line front rest : List ℕ) → HoldsOfLines Holds bytes → IsOneLine line → bytes ++ line ≡ front ++ rest → HasNoFeed rest → EndsAtFirst Holds front
  ends_at bytes line front rest (ended, left, parts, none, holds) one is free =
      by (overlap ended (left ++ line) front rest (sym (append_assoc ended left line) ∙ ap (λ (t : List ℕ). t ++ line) (sym parts) ∙ is))
    where
      by : Overlap ended (left ++ line) front rest → EndsAtFirst Holds front
      by (inl (d, longer, more)) = (
        ended,
        d,
        longer,
        holds,
        λ a b e. none_behind b rest (line_behind left line none one a (b ++ rest) (more ∙ ap (λ (t : List ℕ). t ++ rest) e ∙ append_assoc a (10 ∷ b) rest)),
      )
      by (inr (d, longer, more)) = ends_at_shorter ended d front longer (front_free d (left ++ line) (subst HasNoFeed more free)) holds
        where
          front_free : (xs ys : List ℕ) → HasNoFeed (xs ++ ys) → HasNoFeed xs
          front_free [] ys none = All-nil (λ c. c ≢ 10)
          front_free (x ∷ xs) ys none = All-cons (λ c. c ≢ 10) x xs (All-head (λ c. c ≢ 10) x (xs ++ ys) none) (front_free xs ys (All-tail (λ c. c ≢ 10) x (xs ++ ys) none))

-- bytes for whose lines it holds go no further than the first at which it stops
pub holding_ends : (Holds : List ℕ → Type 0) (bytes : List ℕ) → HoldsOfLines Holds bytes → EndsAtFirst Holds bytes
holding_ends Holds bytes (ended, rest, parts, none, holds) = (ended, rest, parts, holds, one_line rest none)

pub holds_of_none : (Holds : List ℕ → Type 0) → Holds [] → HoldsOfLines Holds []
holds_of_none Holds holds = ([], [], refl, All-nil (λ c. c ≢ 10), holds)

-- recorded calls that have no fault end in a line feed, if there are any
pub calls_feed : (x : ℕ) (xs : List ℕ) → HasNoFault (x ∷ xs) → (t : List ℕ) × (x ∷ xs ≡ t ++ 10 ∷ [])
calls_feed x xs faultless =
    let found = faultless (λ e. no_cons x xs (sym e)) in
    recording_ends (x ∷ xs) found.1.0 found.1.1 found.1.2

pub nothing_is_faultless : IsFaultless []
nothing_is_faultless = holds_of_none HasNoFault (λ some. absurd (some refl))

-- recorded registers of a class end in one too
register_ends : (l : RegisterLine) (ls : List RegisterLine) → (t : List ℕ) × (register_text (l ∷ ls) ≡ t ++ 10 ∷ [])
register_ends l [] = (register_line_text l, append-nil (register_line_bytes l))
register_ends l (m ∷ ls) =
    let later = register_ends m ls in
    (register_line_bytes l ++ later.0, ap (λ (t : List ℕ). register_line_bytes l ++ t) later.1 ∙ sym (append_assoc (register_line_bytes l) later.0 (10 ∷ [])))

pub register_feed : (class : Class) (x : ℕ) (xs : List ℕ) → KeepsClass class (x ∷ xs) → (t : List ℕ) × (x ∷ xs ≡ t ++ 10 ∷ [])
register_feed class x xs (inl none) = absurd (no_cons x xs (sym none))
register_feed class x xs (inr (r, events, is, has)) =
    let ends = register_ends is.head is.further in
    (ends.0, is.text ∙ ends.1)

pub nothing_keeps : (class : Class) → HoldsOfLines (KeepsClass class) []
nothing_keeps class = holds_of_none (KeepsClass class) (inl refl)
