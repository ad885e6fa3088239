-- Each line of a trace ends at its first line feed, and is short.
use Rattle.std.proofs.Common.{◌≡◌, ◌≢◌, ℕ, ◌+◌, ◌<◌, ◌≤◌, true, false, cond, List, [], ◌∷◌, ◌++◌, length, get_or, drop, refl, ap, subst, ◌∙◌, append_assoc, length-append, arith}
use Rattle.std.specs.Prelude.{◌==◌, codes, decimal, nat_lt}
use Rattle.std.specs.List.{list_all}
use Rattle.std.proofs.lemmas.Fmt.{length-decimal-le}
use Rattle.std.proofs.lemmas.List.Elements.{All-append, All-head, All-tail}
use Rattle.trace_text.proofs.Common.{Side, Bit, Act, Event}
use Rattle.bits_core.specs.declared.events.Bit.TheVariants.{S, R, X, Cell}
use Rattle.trace_text.specs.TraceText.{side_text, act_text, bit_text, value_text, batch_text, batches_text, event_line, shape_line}
use Rattle.line_parts.specs.LineEnds.{HasNoFeed, EndsAtFeed}
use Rattle.line_parts.proofs.LineFeeds.{IsOther, feed_nowhere, feed_once, no_feed_digits, no_feed_text}
use Rattle.trace_text.specs.declared.cuts.TheConstants.{LINE_LIMIT}
use Rattle.trace_text.proofs.TraceFields.{HasIndices}

-- a complete line, with no more bytes than the longest line of a trace has
pub record IsShortLine (bytes : List ℕ) : Type 0 where
  pub ends : EndsAtFeed bytes
  pub short : length ends.front < LINE_LIMIT

-- ---- parts of lines

-- a part of a line: no line feed, and at most `most` bytes
record IsPart (text : List ℕ) (most : ℕ) : Type 0 where
  pub feedless : HasNoFeed text
  pub short : length text ≤ most

index_part : (n : ℕ) → n < 256 → IsPart (decimal n) 3
index_part n small = grind (arith, no_feed_digits, length-decimal-le)

short_part : (n : ℕ) → n < 10000 → IsPart (decimal n) 4
short_part n small = grind (arith, no_feed_digits, length-decimal-le)

text_part : (text : List ℕ) (most : ℕ) → list_all (λ b. nat_lt 10 b) text ≡ true → length text ≤ most → IsPart text most
text_part text most other short = record { feedless = no_feed_text text other; short = short }

part_then : (a b : List ℕ) (m n : ℕ) → IsPart a m → IsPart b n → IsPart (a ++ b) (m + n)
part_then a b m n x y = record {
  feedless = All-append IsOther a b x.feedless y.feedless;
  short = omega (arith, length-append a b, x.short, y.short);
}

-- the line of parts that are short together
line_of : (text : List ℕ) (most : ℕ) → IsPart text most → most < 31 → IsShortLine (text ++ 10 ∷ [])
line_of text most part short = record {
  ends = record { front = text; text = refl; feedless = part.feedless };
  short = omega (arith, part.short, short);
}

-- ---- the line of an event

side_part : (s : Side) → IsPart (side_text s) 2
side_part s = grind arith

act_part : (a : Act) → IsPart (act_text a) 6
act_part a = grind arith

bit_part : (b : Bit) → HasIndices b → IsPart (bit_text b) 8
bit_part (S i) small = grind (arith, index_part, part_then, text_part)
bit_part (R i) small = grind (arith, index_part, part_then, text_part)
bit_part X small = text_part (codes "x") 8 refl (omega arith)
bit_part (Cell j i) small = grind (arith, (index_part j small.0), (index_part i small.1), (part_then (codes "c") (decimal j ++ (codes "." ++ decimal i)) 1 7 (text_part (codes "c") 1 refl (omega arith)) (part_then (decimal j) (codes "." ++ decimal i) 3 4 (index_part j small.0) (part_then (codes ".") (decimal i) 1 3 (text_part (codes ".") 1 refl (omega arith)) (index_part i small.1)))), (part_then (decimal j) (codes "." ++ decimal i) 3 4 (index_part j small.0) (part_then (codes ".") (decimal i) 1 3 (text_part (codes ".") 1 refl (omega arith)) (index_part i small.1))), (part_then (codes ".") (decimal i) 1 3 (text_part (codes ".") 1 refl (omega arith)) (index_part i small.1)), (text_part (codes "c") 1 refl (omega arith)), (text_part (codes ".") 1 refl (omega arith)), small.0, small.1)

value_part : (a : Act) → IsPart (value_text a) 2
value_part a = grind arith

pub event_line_ends : (e : Event) → HasIndices e.bit → IsShortLine (event_line e)
event_line_ends e small =
    let front : List ℕ = side_text e.side ++ (act_text e.act ++ (bit_text e.bit ++ value_text e.act)) in
    let part : IsPart front (2 + (6 + (8 + 2))) = search (arith, part_then, side_part, act_part, bit_part, value_part) in
    let whole : front ++ 10 ∷ [] ≡ event_line e = simp append_assoc in
    subst IsShortLine whole (line_of front (2 + (6 + (8 + 2))) part (omega arith))

-- ---- the line of a shape

batch_part : (batch : ℕ) → batch < 10000 → IsPart (batch_text batch) 5
unfolding batch_text
batch_part batch small = grind (arith, part_then, short_part, text_part)

batches_part : (batch take_batch : ℕ) → batch < 10000 → take_batch < 10000 → IsPart (batches_text batch take_batch) 10
unfolding batches_text
batches_part batch take_batch small small_take =
    elim (take_batch == 1) as (λ t. IsPart (cond t (batch_text batch) (codes " " ++ (decimal batch ++ (codes " " ++ decimal take_batch)))) 10) [
      | true ↦ record { feedless = (batch_part batch small).feedless; short = omega (arith, (batch_part batch small).short) }
      | false ↦
          part_then (codes " ") (decimal batch ++ (codes " " ++ decimal take_batch)) 1 (4 + (1 + 4)) space
          (part_then (decimal batch) (codes " " ++ decimal take_batch) 4 (1 + 4) (short_part batch small) (part_then (codes " ") (decimal take_batch) 1 4 space (short_part take_batch small_take)))
    ]
  where
    space : IsPart (codes " ") 1
    space = text_part (codes " ") 1 refl (omega arith)

pub shape_line_ends : (capacity modulus width batch take_batch : ℕ) → capacity < 10000 → modulus < 10000 → width < 10000 → batch < 10000 → take_batch < 10000
    → IsShortLine (shape_line capacity modulus width batch take_batch)
shape_line_ends c m w g h small_c small_m small_w small_g small_h =
    let space : IsPart (codes " ") 1 = text_part (codes " ") 1 refl (omega arith) in
    let from_width : List ℕ = decimal w ++ batches_text g h in
    let from_modulus : List ℕ = decimal m ++ (codes " " ++ from_width) in
    let from_capacity : List ℕ = decimal c ++ (codes " " ++ from_modulus) in
    let width_is : IsPart from_width (4 + 10) = part_then (decimal w) (batches_text g h) 4 10 (short_part w small_w) (batches_part g h small_g small_h) in
    let modulus_is : IsPart from_modulus (4 + (1 + (4 + 10))) = search (arith, part_then, short_part) in
    let capacity_is : IsPart from_capacity (4 + (1 + (4 + (1 + (4 + 10))))) = search (arith, part_then, short_part) in
    let all : IsPart (codes "shape " ++ from_capacity) (6 + (4 + (1 + (4 + (1 + (4 + 10)))))) = grind (arith, part_then, text_part) in
    let whole : (codes "shape " ++ from_capacity) ++ 10 ∷ [] ≡ shape_line c m w g h = simp append_assoc in
    subst IsShortLine whole (line_of (codes "shape " ++ from_capacity) (6 + (4 + (1 + (4 + (1 + (4 + 10)))))) all (omega arith))

-- ---- bytes that start with a line

-- no line feed is within bytes that have none
feed_behind : (xs ys a b : List ℕ) → HasNoFeed xs → length ys < length xs → xs ++ a ≢ ys ++ 10 ∷ b
feed_behind [] ys a b none more e = omega (arith, more)
feed_behind (x ∷ xs) [] a b none more e = All-head IsOther x xs none (ap (λ (t : List ℕ). get_or t 0 0) e)
feed_behind (x ∷ xs) (y ∷ ys) a b none more e = feed_behind xs ys a b (All-tail IsOther x xs none) (omega (arith, more)) (ap (λ (t : List ℕ). drop 1 t) e)

-- a line and what follows it
line_parts : (line rest : List ℕ) (is : EndsAtFeed line) → line ++ rest ≡ is.front ++ 10 ∷ rest
line_parts line rest is = ap (λ (t : List ℕ). t ++ rest) is.text ∙ append_assoc is.front (10 ∷ []) rest

-- bytes with a line feed begin with a line if they do so with more bytes after them
pub line_before_more : (bytes front behind more line rest : List ℕ) → bytes ≡ front ++ 10 ∷ behind → HasNoFeed front → EndsAtFeed line → bytes ++ more ≡ line ++ rest → bytes ≡ line ++ behind
line_before_more bytes front behind more line rest text none is e = grind (arith, append_assoc, feed_once, line_parts)

-- as many bytes with no line feed as the longest line has begin with no line, whatever follows
pub too_long_a_line : (bytes more line rest : List ℕ) → HasNoFeed bytes → 31 ≤ length bytes → IsShortLine line → bytes ++ more ≢ line ++ rest
too_long_a_line bytes more line rest none long is e = feed_behind bytes is.ends.front more rest none (omega (arith, long, is.short)) (e ∙ line_parts line rest is.ends)

-- nor do bytes with no line feed on their own
pub no_line_ended : (bytes line rest : List ℕ) → HasNoFeed bytes → EndsAtFeed line → bytes ≢ line ++ rest
no_line_ended bytes line rest none is e = feed_nowhere bytes is.front rest none (e ∙ line_parts line rest is)
