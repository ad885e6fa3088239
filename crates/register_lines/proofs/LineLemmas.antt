-- A line: what is read from bytes is their line, they have no other, it is not long, and there is no line feed in it.
use Rattle.std.proofs.Common.{◌≡◌, ℕ, ◌+◌, ◌<◌, ◌≤◌, ◌^◌, true, Option, Some, None, List, [], ◌++◌, length, length-append, refl, ap, sym, subst, ◌∙◌, append_assoc, inl, inr, arith}
use Rattle.std.specs.List.{list_all}
use Rattle.std.specs.Prelude.{codes, decimal, nat_lt, option_map, option_and_then}
use Rattle.std.proofs.lemmas.Fmt.{length-decimal-le}
use Rattle.std.proofs.lemmas.List.{append-nil}
use Rattle.std.proofs.lemmas.List.Elements.{All-append}
use Rattle.std.proofs.lemmas.Option.{none-some, option_and_then_some, same_Some}
use Rattle.line_parts.specs.LineEnds.{HasNoFeed}
use Rattle.line_parts.specs.Parts.{after, then_or_else, number_at}
use Rattle.line_parts.proofs.LineFeeds.{IsOther, no_feed_digits, no_feed_text}
use Rattle.line_parts.proofs.TextReading.{after-text, then_or_else-some}
use Rattle.line_parts.proofs.NumberReading.{number_at-text, number_at-again}
use Rattle.register_lines.specs.declared.lines.RegisterLine.{RegisterLine}
use Rattle.register_lines.specs.declared.lines.RegisterLine.TheVariants.{Register, Valued, Cut, CutValued, Write, Wrote, Read, Got}
use Rattle.register_lines.specs.Lines.{register_line_text, AllowsNumbers, IsRegisterLine}
use Rattle.register_lines.specs.LineReading.{at_end, last_number, register_numbers, register_line_of, cut_line_of, register_line, cut_register_line, writer_line, reader_line_after, reader_line, line_at}
use Rattle.register_lines.proofs.LineReadings.{option_map-some, at_end-some, last_number-text, last_number-again, numbers_text, register_numbers-text, register_numbers-again}

-- ---- what is read is the line of the bytes

-- bytes and what comes before them are the text of a line
abbrev IsText : List ℕ → List ℕ → RegisterLine → Type 0
IsText front bytes line = front ++ bytes ≡ register_line_text line

-- a line that ends with a number
numbered-text : (make : ℕ → RegisterLine) (front digits : List ℕ) (line : RegisterLine) → ((n : ℕ) → front ++ decimal n ≡ register_line_text (make n))
    → option_map make (last_number digits) ≡ Some line → IsText front digits line
numbered-text make front digits line is e =
    let made = option_map-some make (last_number digits) line e in
    ap (λ (t : List ℕ). front ++ t) (last_number-text digits made.0 made.1) ∙ is made.0 ∙ ap register_line_text made.2

-- a line that ends with a text
ended-text : (this : RegisterLine) (front text bytes : List ℕ) (line : RegisterLine) → front ++ text ≡ register_line_text this
    → option_and_then (at_end this) (after text bytes) ≡ Some line → IsText front bytes line
ended-text this front text bytes line is e = option_and_then_some (at_end this) (after text bytes) line e (λ rest there ends.
    let parts = at_end-some this rest line ends in
    ap (λ (t : List ℕ). front ++ t) (after-text text bytes rest there ∙ ap (λ (t : List ℕ). text ++ t) parts.0) ∙ ap (λ (t : List ℕ). front ++ t) (append-nil text) ∙ is ∙ ap register_line_text parts.1)

-- after a text, or without it
after_or-text : (front text bytes : List ℕ) (f : List ℕ → Option RegisterLine) (other : Option RegisterLine) (line : RegisterLine)
    → ((rest : List ℕ) → f rest ≡ Some line → IsText (front ++ text) rest line) → (other ≡ Some line → IsText front bytes line)
    → then_or_else (after text bytes) f other ≡ Some line → IsText front bytes line
after_or-text front text bytes f other line is later e =
    elim (then_or_else-some (after text bytes) f other line e) [
      | inl k ↦ ap (λ (t : List ℕ). front ++ t) (after-text text bytes k.0 k.1) ∙ sym (append_assoc front text k.0) ∙ is k.0 k.2
      | inr k ↦ later k
    ]

register_line_of-text : (x : ℕ × Option ℕ) → codes "register " ++ numbers_text x ≡ register_line_text (register_line_of x)
register_line_of-text (first, None) = refl
register_line_of-text (first, Some values) = refl

cut_line_of-text : (x : ℕ × Option ℕ) → codes "cut register " ++ numbers_text x ≡ register_line_text (cut_line_of x)
cut_line_of-text (first, None) = refl
cut_line_of-text (first, Some values) = refl

register_line-text : (bytes : List ℕ) (line : RegisterLine) → register_line bytes ≡ Some line → IsText (codes "register ") bytes line
unfolding register_line
register_line-text bytes line e =
    let made = option_map-some register_line_of (register_numbers bytes) line e in
    ap (λ (t : List ℕ). codes "register " ++ t) (register_numbers-text bytes made.0 made.1) ∙ register_line_of-text made.0 ∙ ap register_line_text made.2

cut_register_line-text : (bytes : List ℕ) (line : RegisterLine) → cut_register_line bytes ≡ Some line → IsText (codes "cut register ") bytes line
unfolding cut_register_line
cut_register_line-text bytes line e =
    let made = option_map-some cut_line_of (register_numbers bytes) line e in
    ap (λ (t : List ℕ). codes "cut register " ++ t) (register_numbers-text bytes made.0 made.1) ∙ cut_line_of-text made.0 ∙ ap register_line_text made.2

writer_line-text : (bytes : List ℕ) (line : RegisterLine) → writer_line bytes ≡ Some line → IsText (codes "W ") bytes line
unfolding writer_line
writer_line-text bytes line =
    after_or-text (codes "W ") (codes "write ") bytes (λ digits. option_map Write (last_number digits)) (option_and_then (at_end Wrote) (after (codes "wrote") bytes)) line
    (λ digits. numbered-text Write (codes "W write ") digits line (λ n. refl)) (ended-text Wrote (codes "W ") (codes "wrote") bytes line refl)

reader_line_after-text : (reader : ℕ) (rest : List ℕ) (line : RegisterLine) → reader_line_after reader rest ≡ Some line → IsText (codes "R" ++ decimal reader) rest line
reader_line_after-text reader rest line =
    let front : List ℕ = codes "R" ++ decimal reader in
    after_or-text front (codes " got ") rest (λ digits. option_map (Got reader) (last_number digits)) (option_and_then (at_end (Read reader)) (after (codes " read") rest)) line
    (λ digits. numbered-text (Got reader) (front ++ codes " got ") digits line (λ n. refl)) (ended-text (Read reader) front (codes " read") rest line refl)

reader_line-text : (bytes : List ℕ) (line : RegisterLine) → reader_line bytes ≡ Some line → IsText (codes "R") bytes line
unfolding reader_line
reader_line-text bytes line e = option_and_then_some (λ x. reader_line_after x.0 x.1) (number_at bytes) line e (λ x read later.
    ap (λ (t : List ℕ). codes "R" ++ t) (number_at-text bytes x read).0 ∙ sym (append_assoc (codes "R") (decimal x.0) x.1) ∙ reader_line_after-text x.0 x.1 line later)

line_at-text : (bytes : List ℕ) (line : RegisterLine) → line_at bytes ≡ Some line → bytes ≡ register_line_text line
line_at-text bytes line =
    after_or-text [] (codes "R") bytes reader_line _ line (λ rest. reader_line-text rest line)
    (after_or-text [] (codes "W ") bytes writer_line _ line (λ rest. writer_line-text rest line)
    (after_or-text [] (codes "register ") bytes register_line _ line (λ rest. register_line-text rest line)
    (λ e. option_and_then_some cut_register_line (after (codes "cut register ") bytes) line e (λ rest there later. after-text (codes "cut register ") bytes rest there ∙ cut_register_line-text rest line later))))

-- ---- the line of the bytes is read

reader_small : (reader : ℕ) → reader ≤ 64 → reader < 2 ^ 64
reader_small reader few = omega arith

line_at-again : (line : RegisterLine) → AllowsNumbers line → line_at (register_line_text line) ≡ Some line
unfolding register_line cut_register_line writer_line reader_line
line_at-again (Register first) allowed = ap (option_map register_line_of) (register_numbers-again (first, None) allowed)
line_at-again (Valued first values) allowed = ap (option_map register_line_of) (register_numbers-again (first, Some values) (omega (arith, allowed.0, allowed.1), allowed.1))
line_at-again (Cut first) allowed = ap (option_map cut_line_of) (register_numbers-again (first, None) allowed)
line_at-again (CutValued first values) allowed = ap (option_map cut_line_of) (register_numbers-again (first, Some values) (omega (arith, allowed.0, allowed.1), allowed.1))
line_at-again (Write value) allowed = ap (option_map Write) (last_number-again value allowed)
line_at-again Wrote allowed = refl
line_at-again (Read reader) allowed = ap (option_and_then (λ x. reader_line_after x.0 x.1)) (number_at-again reader (codes " read") (reader_small reader allowed.1) refl)
line_at-again (Got reader value) allowed =
    ap (λ (t : List ℕ). option_and_then (λ x. reader_line_after x.0 x.1) (number_at t)) (append_assoc (decimal reader) (codes " got ") (decimal value))
    ∙ ap (option_and_then (λ x. reader_line_after x.0 x.1)) (number_at-again reader (codes " got " ++ decimal value) (reader_small reader allowed.1) refl)
    ∙ ap (option_map (Got reader)) (last_number-again value allowed.2)

-- ---- the line

pub line_is : (bytes : List ℕ) (line : RegisterLine) → Some line ≡ line_at bytes → AllowsNumbers line → IsRegisterLine bytes line
line_is bytes line read allowed = record { text = line_at-text bytes line (sym read); allowed = allowed }

-- what is read from a line
read_of_line : (bytes : List ℕ) (line : RegisterLine) → IsRegisterLine bytes line → line_at bytes ≡ Some line
read_of_line bytes line is = ap line_at is.text ∙ line_at-again line is.allowed

pub no_line_read : (bytes : List ℕ) → None ≡ line_at bytes → (line : RegisterLine) → ¬ IsRegisterLine bytes line
no_line_read bytes none line is = none-some line (none ∙ read_of_line bytes line is)

pub no_line_allowed : (bytes : List ℕ) (this : RegisterLine) → Some this ≡ line_at bytes → ¬ AllowsNumbers this → (line : RegisterLine) → ¬ IsRegisterLine bytes line
no_line_allowed bytes this read none line is = none (subst AllowsNumbers (sym (same_Some this line (read ∙ read_of_line bytes line is))) is.allowed)

-- bytes are at most one line
pub line_same : (bytes : List ℕ) (one other : RegisterLine) → IsRegisterLine bytes one → IsRegisterLine bytes other → one ≡ other
line_same bytes one other is too = same_Some one other (sym (read_of_line bytes one is) ∙ read_of_line bytes other too)

-- ---- how long a line is

digits : (n : ℕ) → n < 2 ^ 64 → length (decimal n) ≤ 20
digits n small = length-decimal-le 20 n (omega arith) (omega arith) small

-- two numbers with a text between them
two_numbers : (m n : ℕ) (between : List ℕ) → m < 2 ^ 64 → n < 2 ^ 64 → length (decimal m ++ between ++ decimal n) ≤ 40 + length between
two_numbers m n between small too = simp length-append (omega (arith, digits m small, digits n too))

text_limit : (line : RegisterLine) → AllowsNumbers line → length (register_line_text line) ≤ 54
text_limit (Register first) allowed = omega (arith, digits first allowed)
text_limit (Valued first values) allowed = omega (arith, two_numbers first values (codes " ") (omega (arith, allowed.0, allowed.1)) allowed.1)
text_limit (Cut first) allowed = omega (arith, digits first allowed)
text_limit (CutValued first values) allowed = omega (arith, two_numbers first values (codes " ") (omega (arith, allowed.0, allowed.1)) allowed.1)
text_limit (Write value) allowed = omega (arith, digits value allowed)
text_limit Wrote allowed = omega arith
text_limit (Read reader) allowed = omega (arith, digits reader (reader_small reader allowed.1), length-append (decimal reader) (codes " read"))
text_limit (Got reader value) allowed = omega (arith, two_numbers reader value (codes " got ") (reader_small reader allowed.1) allowed.2)

pub line_limit : (bytes : List ℕ) (line : RegisterLine) → IsRegisterLine bytes line → length bytes ≤ 54
line_limit bytes line is = subst (λ (t : List ℕ). length t ≤ 54) (sym is.text) (text_limit line is.allowed)

-- ---- no line feed

-- a number or a text after bytes
number_after : (front : List ℕ) (n : ℕ) → n < 2 ^ 64 → HasNoFeed front → HasNoFeed (front ++ decimal n)
number_after front n small none = All-append IsOther front (decimal n) none (no_feed_digits n small)

text_after : (front text : List ℕ) → list_all (λ b. nat_lt 10 b) text ≡ true → HasNoFeed front → HasNoFeed (front ++ text)
text_after front text plain none = All-append IsOther front text none (no_feed_text text plain)

-- two numbers after a text, with a space between them
numbers_after : (text : List ℕ) (first values : ℕ) → list_all (λ b. nat_lt 10 b) text ≡ true → first < 2 ^ 64 → values < 2 ^ 64 → HasNoFeed (text ++ decimal first ++ codes " " ++ decimal values)
numbers_after text first values plain small too =
    number_after (text ++ decimal first ++ codes " ") values too (text_after (text ++ decimal first) (codes " ") refl (number_after text first small (no_feed_text text plain)))

-- the number of a reader
reader_no_feed : (reader : ℕ) → reader ≤ 64 → HasNoFeed (codes "R" ++ decimal reader)
reader_no_feed reader few = number_after (codes "R") reader (reader_small reader few) (no_feed_text (codes "R") refl)

text_no_feed : (line : RegisterLine) → AllowsNumbers line → HasNoFeed (register_line_text line)
text_no_feed (Register first) allowed = number_after (codes "register ") first allowed (no_feed_text (codes "register ") refl)
text_no_feed (Valued first values) allowed = numbers_after (codes "register ") first values refl (omega (arith, allowed.0, allowed.1)) allowed.1
text_no_feed (Cut first) allowed = number_after (codes "cut register ") first allowed (no_feed_text (codes "cut register ") refl)
text_no_feed (CutValued first values) allowed = numbers_after (codes "cut register ") first values refl (omega (arith, allowed.0, allowed.1)) allowed.1
text_no_feed (Write value) allowed = number_after (codes "W write ") value allowed (no_feed_text (codes "W write ") refl)
text_no_feed Wrote allowed = no_feed_text (codes "W wrote") refl
text_no_feed (Read reader) allowed = text_after (codes "R" ++ decimal reader) (codes " read") refl (reader_no_feed reader allowed.1)
text_no_feed (Got reader value) allowed = number_after (codes "R" ++ decimal reader ++ codes " got ") value allowed.2 (text_after (codes "R" ++ decimal reader) (codes " got ") refl (reader_no_feed reader allowed.1))

pub line_no_feed : (bytes : List ℕ) (line : RegisterLine) → IsRegisterLine bytes line → HasNoFeed bytes
line_no_feed bytes line is = subst HasNoFeed (sym is.text) (text_no_feed line is.allowed)
