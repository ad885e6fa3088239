-- Prefixes of a line: what is in front is read as before, whatever comes next.
use Rattle.std.proofs.Common.{below_more, ◌≡◌, ◌≢◌, ◌⊎◌, ℕ, zero, suc, ◌+◌, ◌-◌, ◌*◌, ◌<◌, ◌≤◌, ◌^◌, Bool, true, false, cond, Option, Some, None, List, [], ◌∷◌, ◌++◌, length, get_or, drop, refl, ap, ap₂, sym, subst, ◌∙◌, append_assoc, inl, inr, arith}
use Rattle.std.specs.Prelude.{codes, decimal, nat_lt, ◌==◌}
use Rattle.std.specs.Char.{is_ascii_digit}
use Rattle.std.specs.Str.{bytes_eq}
use Rattle.std.proofs.lemmas.List.{append-nil}
use Rattle.std.proofs.lemmas.List.Elements.{All-cons, All-head, All-nil, All-tail}
use Rattle.std.proofs.lemmas.Fmt.{decimal_digit}
use Rattle.std.proofs.lemmas.Option.{none-some, same_Some}
use Rattle.call_lines.specs.Lines.{numbers_text, word_text, word_of, Allows, AreSmall}
use Rattle.line_parts.specs.Parts.{digits_after, number_at, then_or_else}
use Rattle.call_lines.specs.LineReading.{spaced_number, line_word_at}
use Rattle.call_lines.specs.Beginnings.{BeginsAWord, BeginsAfterWord, BeginsLine, BeginsNoLine, BeginsNumbers, IsAtMost, most_numbers, one_less, tells_queue}
use Rattle.call_lines.specs.declared.lines.Word.{Word}
use Rattle.call_lines.specs.declared.lines.Word.TheVariants.{Queue, Cut, Put, Stored, PutSome, Full, Short, PutNothing, PutClosed, Close, Take, Item, TakeSome, Empty, TakeShort, TakeNothing, TakeClosed}
use Rattle.call_lines.proofs.LineReadings.{spaced_number-again, spaced_number-text}
use Rattle.call_lines.proofs.LineLemmas.{word_at-text}

-- ---- a number, and more bytes

-- digits that end are read as before
digits_on : (n : ℕ) (bytes : List ℕ) (m : ℕ) (rest more : List ℕ) → digits_after n bytes ≡ Some (m, rest) → rest ≢ [] → digits_after n (bytes ++ more) ≡ Some (m, rest ++ more)
unfolding digits_after
digits_on n [] m rest more e some =
    let same : ◌≡◌ {A = ℕ × List ℕ} (n, []) (m, rest) = same_Some (n, []) (m, rest) e in
    absurd (some (sym (ap (λ (y : ℕ × List ℕ). y.1) same)))
digits_on n (b ∷ bytes) m rest more e some =
    elim (is_ascii_digit b) as (λ t. is_ascii_digit b ≡ t → cond t (cond (nat_lt (10 * n + (b - 48)) (2 ^ 64)) (digits_after (10 * n + (b - 48)) bytes) None) (Some (n, b ∷ bytes)) ≡ Some (m, rest)
    → cond t (cond (nat_lt (10 * n + (b - 48)) (2 ^ 64)) (digits_after (10 * n + (b - 48)) (bytes ++ more)) None) (Some (n, b ∷ (bytes ++ more))) ≡ Some (m, rest ++ more)) [
      | false ↦ λ digit k. ap (λ (y : ℕ × List ℕ). Some (y.0, y.1 ++ more)) (same_Some (n, b ∷ bytes) (m, rest) k)
      | true ↦ λ digit k.
          elim (nat_lt (10 * n + (b - 48)) (2 ^ 64)) as (λ t. cond t (digits_after (10 * n + (b - 48)) bytes) None ≡ Some (m, rest)
          → cond t (digits_after (10 * n + (b - 48)) (bytes ++ more)) None ≡ Some (m, rest ++ more)) [
            | false ↦ λ j. absurd (none-some (m, rest) j)
            | true ↦ λ j. digits_on (10 * n + (b - 48)) bytes m rest more j some
          ] k
    ] refl e

-- digits that are not a number never become one
digits_none : (n : ℕ) (bytes more : List ℕ) → digits_after n bytes ≡ None → digits_after n (bytes ++ more) ≡ None
unfolding digits_after
digits_none n [] more e = absurd (none-some (n, []) (sym e))
digits_none n (b ∷ bytes) more e =
    elim (is_ascii_digit b) as (λ t. cond t (cond (nat_lt (10 * n + (b - 48)) (2 ^ 64)) (digits_after (10 * n + (b - 48)) bytes) None) (Some (n, b ∷ bytes)) ≡ None
    → cond t (cond (nat_lt (10 * n + (b - 48)) (2 ^ 64)) (digits_after (10 * n + (b - 48)) (bytes ++ more)) None) (Some (n, b ∷ (bytes ++ more))) ≡ None) [
      | false ↦ λ k. absurd (none-some (n, b ∷ bytes) (sym k))
      | true ↦ λ k.
          elim (nat_lt (10 * n + (b - 48)) (2 ^ 64)) as (λ t. cond t (digits_after (10 * n + (b - 48)) bytes) None ≡ None → cond t (digits_after (10 * n + (b - 48)) (bytes ++ more)) None ≡ None) [
            | false ↦ λ j. refl
            | true ↦ λ j. digits_none (10 * n + (b - 48)) bytes more j
          ] k
    ] e

number_on : (bytes : List ℕ) (m : ℕ) (rest more : List ℕ) → number_at bytes ≡ Some (m, rest) → rest ≢ [] → number_at (bytes ++ more) ≡ Some (m, rest ++ more)
unfolding number_at
number_on [] m rest more e some = absurd (none-some (m, rest) e)
number_on (b ∷ bytes) m rest more e some =
    elim (is_ascii_digit b) as (λ t. cond t (cond (b == 48) (Some (0, bytes)) (digits_after (b - 48) bytes)) None ≡ Some (m, rest)
    → cond t (cond (b == 48) (Some (0, bytes ++ more)) (digits_after (b - 48) (bytes ++ more))) None ≡ Some (m, rest ++ more)) [
      | false ↦ λ k. absurd (none-some (m, rest) k)
      | true ↦ λ k.
          elim (b == 48) as (λ t. cond t (Some (0, bytes)) (digits_after (b - 48) bytes) ≡ Some (m, rest) → cond t (Some (0, bytes ++ more)) (digits_after (b - 48) (bytes ++ more)) ≡ Some (m, rest ++ more)) [
            | true ↦ λ j. ap (λ (y : ℕ × List ℕ). Some (y.0, y.1 ++ more)) (same_Some (0, bytes) (m, rest) j)
            | false ↦ λ j. digits_on (b - 48) bytes m rest more j some
          ] k
    ] e

number_none : (b : ℕ) (bytes more : List ℕ) → number_at (b ∷ bytes) ≡ None → number_at (b ∷ (bytes ++ more)) ≡ None
unfolding number_at
number_none b bytes more e =
    elim (is_ascii_digit b) as (λ t. cond t (cond (b == 48) (Some (0, bytes)) (digits_after (b - 48) bytes)) None ≡ None → cond t (cond (b == 48) (Some (0, bytes ++ more)) (digits_after (b - 48) (bytes ++ more))) None ≡ None) [
      | false ↦ λ k. refl
      | true ↦ λ k.
          elim (b == 48) as (λ t. cond t (Some (0, bytes)) (digits_after (b - 48) bytes) ≡ None → cond t (Some (0, bytes ++ more)) (digits_after (b - 48) (bytes ++ more)) ≡ None) [
            | true ↦ λ j. absurd (none-some (0, bytes) (sym j))
            | false ↦ λ j. digits_none (b - 48) bytes more j
          ] k
    ] e

-- a number after a space
spaced_on : (bytes : List ℕ) (m : ℕ) (rest more : List ℕ) → spaced_number bytes ≡ Some (m, rest) → rest ≢ [] → spaced_number (bytes ++ more) ≡ Some (m, rest ++ more)
unfolding spaced_number
spaced_on [] m rest more e some = absurd (none-some (m, rest) e)
spaced_on (b ∷ bytes) m rest more e some =
    elim (bytes_eq (b ∷ []) (codes " ")) as (λ t. then_or_else (cond t (Some bytes) None) number_at None ≡ Some (m, rest) → then_or_else (cond t (Some (bytes ++ more)) None) number_at None ≡ Some (m, rest ++ more)) [
      | false ↦ λ k. absurd (none-some (m, rest) k)
      | true ↦ λ k. number_on bytes m rest more k some
    ] e

spaced_none : (a b : ℕ) (bytes more : List ℕ) → spaced_number (a ∷ b ∷ bytes) ≡ None → spaced_number (a ∷ b ∷ (bytes ++ more)) ≡ None
unfolding spaced_number
spaced_none a b bytes more e =
    elim (bytes_eq (a ∷ []) (codes " ")) as (λ t. then_or_else (cond t (Some (b ∷ bytes)) None) number_at None ≡ None → then_or_else (cond t (Some (b ∷ (bytes ++ more))) None) number_at None ≡ None) [
      | false ↦ λ k. refl
      | true ↦ λ k. number_none b bytes more k
    ] e

-- ---- numbers

no_text : (bytes more : List ℕ) → bytes ≢ [] → bytes ++ more ≢ []
no_text [] more some e = some refl
no_text (b ∷ bytes) more some e = absurd (omega (arith, ap length e))

pub no_room : (bytes : List ℕ) → bytes ≢ [] → ¬ BeginsNumbers (Some 0) bytes
no_room bytes some begins =
    elim begins.numbers as (λ ns. bytes ++ begins.rest ≡ numbers_text ns → length ns ≤ 0 → ⊥) [
      | [] ↦ λ parts many. no_text bytes begins.rest some parts
      | n ∷ ns ↦ λ parts many. absurd (omega (arith, many))
    ] begins.parts begins.many

pub begins_none : (most : Option ℕ) → BeginsNumbers most []
begins_none None = record { numbers = []; rest = []; parts = refl; small = All-nil (λ n. n < 2 ^ 64); many = tt }
begins_none (Some most) = record { numbers = []; rest = []; parts = refl; small = All-nil (λ n. n < 2 ^ 64); many = omega arith }

-- a number was read in front
at_most_less : (most : Option ℕ) (count : ℕ) → IsAtMost most (suc count) → IsAtMost (one_less most) count
at_most_less None count many = tt
at_most_less (Some most) count many = omega (arith, many)

at_most_more : (most : Option ℕ) (count : ℕ) → most ≢ Some 0 → IsAtMost (one_less most) count → IsAtMost most (suc count)
at_most_more None count some many = tt
at_most_more (Some zero) count some many = absurd (some refl)
at_most_more (Some (suc most)) count some many = omega (arith, many)

pub rest_begins : (most : Option ℕ) (bytes rest : List ℕ) (n : ℕ) → bytes ≢ [] → spaced_number bytes ≡ Some (n, rest) → BeginsNumbers most bytes → BeginsNumbers (one_less most) rest
rest_begins most bytes [] n some read begins = begins_none (one_less most)
rest_begins most bytes (r ∷ rest) n some read begins =
    let there : r ∷ rest ≢ [] = λ e. absurd (omega (arith, ap length e)) in
    elim begins.numbers as (λ ns. bytes ++ begins.rest ≡ numbers_text ns → AreSmall ns → IsAtMost most (length ns) → BeginsNumbers (one_less most) (r ∷ rest)) [
      | [] ↦ λ parts small many. absurd (no_text bytes begins.rest some parts)
      | m ∷ ns ↦ λ parts small many.
          let same : ◌≡◌ {A = ℕ × List ℕ} (n, (r ∷ rest) ++ begins.rest) (m, numbers_text ns) =
          same_Some (n, (r ∷ rest) ++ begins.rest) (m, numbers_text ns) (sym (spaced_on bytes n (r ∷ rest) begins.rest read there) ∙ ap spaced_number parts ∙ spaced_number-again m ns (All-head (λ k. k < 2 ^ 64) m ns small)) in
          record {
            numbers = ns;
            rest = begins.rest;
            parts = ap (λ (y : ℕ × List ℕ). y.1) same;
            small = All-tail (λ k. k < 2 ^ 64) m ns small;
            many = at_most_less most (length ns) many;
          }
    ] begins.parts begins.small begins.many

pub all_begin : (most : Option ℕ) (bytes rest : List ℕ) (n : ℕ) → most ≢ Some 0 → spaced_number bytes ≡ Some (n, rest) → BeginsNumbers (one_less most) rest → BeginsNumbers most bytes
all_begin most bytes rest n some read begins =
    let front = spaced_number-text bytes (n, rest) read in
    record {
      numbers = n ∷ begins.numbers;
      rest = begins.rest;
      parts = ap (λ (t : List ℕ). t ++ begins.rest) front.0 ∙ append_assoc (codes " " ++ decimal n) rest begins.rest ∙ ap (λ (t : List ℕ). (codes " " ++ decimal n) ++ t) begins.parts;
      small = All-cons (λ k. k < 2 ^ 64) n begins.numbers front.1 begins.small;
      many = at_most_more most (length begins.numbers) some begins.many;
    }

-- no number was read in front
pub space_alone : (most : Option ℕ) (bytes : List ℕ) → bytes ≢ [] → spaced_number bytes ≡ None → BeginsNumbers most bytes → bytes ≡ codes " "
space_alone most [] some read begins = absurd (some refl)
space_alone most (a ∷ []) some read begins =
    elim begins.numbers as (λ ns. (a ∷ []) ++ begins.rest ≡ numbers_text ns → a ∷ [] ≡ codes " ") [
      | [] ↦ λ parts. absurd (no_text (a ∷ []) begins.rest some parts)
      | m ∷ ns ↦ λ parts. ap (λ (c : ℕ). c ∷ []) (ap (λ (t : List ℕ). get_or t 0 0) parts)
    ] begins.parts
space_alone most (a ∷ b ∷ bytes) some read begins =
    elim begins.numbers as (λ ns. (a ∷ b ∷ bytes) ++ begins.rest ≡ numbers_text ns → AreSmall ns → a ∷ b ∷ bytes ≡ codes " ") [
      | [] ↦ λ parts small. absurd (no_text (a ∷ b ∷ bytes) begins.rest some parts)
      | m ∷ ns ↦ λ parts small.
          absurd (none-some (m, numbers_text ns) (sym (spaced_none a b bytes begins.rest read) ∙ ap spaced_number parts ∙ spaced_number-again m ns (All-head (λ k. k < 2 ^ 64) m ns small)))
    ] begins.parts begins.small

one_number : (most : Option ℕ) → most ≢ Some 0 → IsAtMost most 1
one_number None some = tt
one_number (Some zero) some = absurd (some refl)
one_number (Some (suc most)) some = omega arith

pub space_begins : (most : Option ℕ) → most ≢ Some 0 → BeginsNumbers most (codes " ")
space_begins most some = record {
  numbers = 0 ∷ [];
  rest = codes "0";
  parts = sym (append-nil (codes " " ++ decimal 0) ∙ ap (λ (t : List ℕ). codes " " ++ t) (decimal_digit 0 (omega arith)));
  small = All-cons (λ k. k < 2 ^ 64) 0 [] (omega arith) (All-nil (λ k. k < 2 ^ 64));
  many = one_number most some;
}

-- ---- the word

-- bytes that lead to a text lie within its front, or go past it
pub split : (a b c d : List ℕ) → a ++ b ≡ c ++ d → ((rest : List ℕ) × (c ≡ a ++ rest)) ⊎ ((rest : List ℕ) × (rest ≢ []) × (a ≡ c ++ rest) × (rest ++ b ≡ d))
split [] b c d e = inl (c, refl)
split (x ∷ a) b [] d e = inr (x ∷ a, (λ none. absurd (omega (arith, ap length none))), refl, e)
split (x ∷ a) b (y ∷ c) d e =
    let head : x ≡ y = ap (λ (t : List ℕ). get_or t 0 0) e in
    elim (split a b c d (ap (λ (t : List ℕ). drop 1 t) e)) [
      | inl k ↦ inl (k.0, ap₂ (λ (u : ℕ) (t : List ℕ). u ∷ t) (sym head) k.1)
      | inr k ↦ inr (k.0, k.1, ap₂ (λ (u : ℕ) (t : List ℕ). u ∷ t) head k.2, k.3)
    ]

-- a word with a space after it is read
word_at-space : (w : Word) (more : List ℕ) → line_word_at (word_text w ++ 32 ∷ more) ≡ Some (w, 32 ∷ more)
word_at-space Queue more = refl
word_at-space w more = refl

begins_spaced : (bytes rest numbers : List ℕ) → bytes ≢ [] → bytes ++ rest ≡ numbers_text numbers → (more : List ℕ) × (bytes ≡ 32 ∷ more)
begins_spaced [] rest numbers some parts = absurd (some refl)
begins_spaced (b ∷ bytes) rest [] some parts = absurd (no_text (b ∷ bytes) rest some parts)
begins_spaced (b ∷ bytes) rest (n ∷ numbers) some parts = (bytes, ap (λ (c : ℕ). c ∷ bytes) (ap (λ (t : List ℕ). get_or t 0 0) parts))

none_at_most : (most : Option ℕ) → IsAtMost most 0
none_at_most None = tt
none_at_most (Some most) = omega arith

pub word_begins : (is_first : Bool) (bytes : List ℕ) → BeginsAWord is_first bytes → BeginsLine is_first bytes
word_begins is_first bytes (word, place, rest, is) = record {
  word = word;
  numbers = [];
  rest = rest;
  parts = sym is ∙ sym (append-nil (word_text word));
  place = place;
  small = All-nil (λ k. k < 2 ^ 64);
  many = none_at_most (most_numbers word);
}

pub after_word_begins : (is_first : Bool) (bytes : List ℕ) → BeginsAfterWord is_first bytes → BeginsLine is_first bytes
after_word_begins is_first bytes (word, rest, read, place, begins) = record {
  word = word;
  numbers = begins.numbers;
  rest = begins.rest;
  parts = ap (λ (t : List ℕ). t ++ begins.rest) (word_at-text bytes (word, rest) read) ∙ append_assoc (word_text word) rest begins.rest ∙ ap (λ (t : List ℕ). word_text word ++ t) begins.parts;
  place = place;
  small = begins.small;
  many = begins.many;
}

pub line_begins : (is_first : Bool) (bytes : List ℕ) → BeginsLine is_first bytes → BeginsAWord is_first bytes ⊎ BeginsAfterWord is_first bytes
line_begins is_first bytes begins =
    let w = begins.word in
    elim (split bytes begins.rest (word_text w) (numbers_text begins.numbers) begins.parts) [
      | inl k ↦ inl (w, begins.place, k.0, k.1)
      | inr k ↦
          let spaced = begins_spaced k.0 begins.rest begins.numbers k.1 k.3 in
          inr (
            w,
            k.0,
            ap line_word_at (k.2 ∙ ap (λ (t : List ℕ). word_text w ++ t) spaced.1) ∙ word_at-space w spaced.0 ∙ ap (λ (t : List ℕ). Some (w, t)) (sym spaced.1),
            begins.place,
            record { numbers = begins.numbers; rest = begins.rest; parts = k.3; small = begins.small; many = begins.many },
          )
    ]

-- ---- lines

queue_at_most : (numbers : List ℕ) → Allows Queue numbers → length numbers ≤ 2
queue_at_most [] allowed = omega arith
queue_at_most (m ∷ []) allowed = omega arith
queue_at_most (f ∷ m ∷ []) allowed = omega arith
queue_at_most (f ∷ m ∷ other ∷ more) allowed = absurd allowed

pub allowed_at_most : (w : Word) (numbers : List ℕ) → Allows w numbers → IsAtMost (most_numbers w) (length numbers)
allowed_at_most Queue numbers allowed = queue_at_most numbers allowed
allowed_at_most Cut numbers allowed = queue_at_most numbers allowed
allowed_at_most Put numbers allowed = tt
allowed_at_most Item numbers allowed = tt
allowed_at_most TakeSome numbers allowed = tt
allowed_at_most w [] allowed = none_at_most (most_numbers w)
allowed_at_most Stored (n ∷ []) allowed = omega arith
allowed_at_most PutSome (n ∷ []) allowed = omega arith
allowed_at_most Take (n ∷ []) allowed = omega arith
allowed_at_most Stored (n ∷ m ∷ more) allowed = absurd allowed
allowed_at_most PutSome (n ∷ m ∷ more) allowed = absurd allowed
allowed_at_most Take (n ∷ m ∷ more) allowed = absurd allowed
allowed_at_most w (n ∷ more) allowed = absurd allowed

-- what begins no line in this way becomes none
pub begins_none_line : (is_first : Bool) (bytes : List ℕ) → ¬ BeginsLine is_first bytes → BeginsNoLine is_first bytes
begins_none_line is_first bytes none rest word numbers place is =
    none (record { word = word; numbers = numbers; rest = rest; parts = is.text; place = place; small = is.small; many = allowed_at_most word numbers is.allowed })

-- each word has a number
pub number_of_word : (w : Word) → (k : ℕ) × (k < 17) × (word_of k ≡ Some w)
number_of_word Put = (0, omega arith, refl)
number_of_word Close = (1, omega arith, refl)
number_of_word Take = (2, omega arith, refl)
number_of_word Stored = (3, omega arith, refl)
number_of_word PutSome = (4, omega arith, refl)
number_of_word Full = (5, omega arith, refl)
number_of_word Short = (6, omega arith, refl)
number_of_word PutNothing = (7, omega arith, refl)
number_of_word PutClosed = (8, omega arith, refl)
number_of_word Item = (9, omega arith, refl)
number_of_word TakeSome = (10, omega arith, refl)
number_of_word Empty = (11, omega arith, refl)
number_of_word TakeShort = (12, omega arith, refl)
number_of_word TakeNothing = (13, omega arith, refl)
number_of_word TakeClosed = (14, omega arith, refl)
number_of_word Queue = (15, omega arith, refl)
number_of_word Cut = (16, omega arith, refl)

-- none of the words up to one more
pub other_words :
    (is_first : Bool) (bytes : List ℕ) (n : ℕ) → ((k : ℕ) → k < n → (word : Word) → word_of k ≡ Some word → ¬ ((tells_queue word ≡ is_first) × (rest : List ℕ) × (word_text word ≡ bytes ++ rest))) →
    ((word : Word) → word_of n ≡ Some word → ¬ ((tells_queue word ≡ is_first) × (rest : List ℕ) × (word_text word ≡ bytes ++ rest))) → (k : ℕ) → k < n + 1 → (word : Word) → word_of k ≡ Some word →
    ¬ ((tells_queue word ≡ is_first) × (rest : List ℕ) × (word_text word ≡ bytes ++ rest))
other_words is_first bytes n before here = below_more (λ k. (word : Word) → word_of k ≡ Some word → ¬ ((tells_queue word ≡ is_first) × (rest : List ℕ) × (word_text word ≡ bytes ++ rest))) n before here

-- if no number may follow, nothing may
pub nothing_begins : (most : Option ℕ) (bytes : List ℕ) → bytes ≢ [] → most ≡ Some 0 → ¬ BeginsNumbers most bytes
nothing_begins most bytes some none begins = no_room bytes some (subst (λ m. BeginsNumbers m bytes) none begins)

-- the empty text begins a line
pub nothing_begun : (is_first : Bool) → BeginsLine is_first []
nothing_begun true = word_begins true [] (Queue, refl, word_text Queue, refl)
nothing_begun false = word_begins false [] (Put, refl, word_text Put, refl)
