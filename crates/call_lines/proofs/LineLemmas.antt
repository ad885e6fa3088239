-- A line: what is read from it is its word and its numbers, it has no other, and there is no line feed in it.
use Rattle.std.proofs.Common.{◌≡◌, ℕ, ◌<◌, ◌^◌, Option, Some, None, List, [], ◌∷◌, ◌++◌, length, refl, ap, ap₂, sym, subst, ◌∙◌, append_assoc, inl, inr, arith}
use Rattle.std.specs.Prelude.{codes, decimal}
use Rattle.std.proofs.lemmas.List.Elements.{All-append, All-cons, All-head, All-nil, All-tail}
use Rattle.std.proofs.lemmas.Option.{none-some, same_Some}
use Rattle.call_lines.specs.declared.lines.Word.{Word}
use Rattle.call_lines.specs.declared.lines.Word.TheVariants.{Queue, Cut, Put, Stored, PutSome, Full, Short, PutNothing, PutClosed, Close, Take, Item, TakeSome, Empty, TakeShort, TakeNothing, TakeClosed}
use Rattle.call_lines.specs.Lines.{word_text, numbers_text, line_text, Allows, AreSmall, BeginsWithNumbers, IsLine}
use Rattle.line_parts.specs.Parts.{after, then_or_else}
use Rattle.line_parts.specs.LineEnds.{HasNoFeed}
use Rattle.line_parts.proofs.LineFeeds.{IsOther, no_feed_digits, no_feed_text}
use Rattle.line_parts.proofs.TextReading.{after-text, then_or_else-some}
use Rattle.call_lines.specs.LineReading.{word_or, put_word_at, take_word_at, line_word_at, spaced_number}
use Rattle.call_lines.proofs.LineReadings.{spaced_number-again}

-- ---- the word

-- bytes begin with the word that is read, after what comes before them
abbrev Tells : List ℕ → List ℕ → Word × List ℕ → Type 0
Tells front bytes x = front ++ bytes ≡ word_text x.0 ++ x.1

named-text : (front : List ℕ) (w : Word) (text bytes : List ℕ) (other : Option (Word × List ℕ)) (x : Word × List ℕ) → front ++ text ≡ word_text w
    → (other ≡ Some x → Tells front bytes x) → word_or w text bytes other ≡ Some x → Tells front bytes x
named-text front w text bytes other x is later e =
    elim (then_or_else-some (after text bytes) (λ rest. Some (w, rest)) other x e) [
      | inl k ↦ subst (λ (y : Word × List ℕ). Tells front bytes y) (same_Some (w, k.0) x k.2)
          (ap (λ (t : List ℕ). front ++ t) (after-text text bytes k.0 k.1) ∙ sym (append_assoc front text k.0) ∙ ap (λ (t : List ℕ). t ++ k.0) is)
      | inr k ↦ later k
    ]

no_word : (front bytes : List ℕ) (x : Word × List ℕ) → None ≡ Some x → Tells front bytes x
no_word front bytes x e = absurd (none-some x e)

put_word_at-text : (bytes : List ℕ) (x : Word × List ℕ) → put_word_at bytes ≡ Some x → Tells (codes "P ") bytes x
put_word_at-text bytes x =
    let P : List ℕ = codes "P " in
    named-text P Put (codes "put") bytes _ x refl (named-text P Stored (codes "stored") bytes _ x refl (named-text P Full (codes "full") bytes _ x refl
    (named-text P Short (codes "short") bytes _ x refl (named-text P PutNothing (codes "nothing") bytes _ x refl (named-text P PutClosed (codes "closed") bytes _ x refl
    (named-text P Close (codes "close") bytes _ x refl (named-text P PutSome (codes "some") bytes None x refl (no_word P bytes x))))))))

take_word_at-text : (bytes : List ℕ) (x : Word × List ℕ) → take_word_at bytes ≡ Some x → Tells (codes "C ") bytes x
take_word_at-text bytes x =
    let C : List ℕ = codes "C " in
    named-text C Take (codes "take") bytes _ x refl (named-text C Item (codes "item") bytes _ x refl (named-text C Empty (codes "empty") bytes _ x refl
    (named-text C TakeShort (codes "short") bytes _ x refl (named-text C TakeNothing (codes "nothing") bytes _ x refl
    (named-text C TakeClosed (codes "closed") bytes _ x refl (named-text C TakeSome (codes "some") bytes None x refl (no_word C bytes x)))))))

-- the words of a side
side-text : (front bytes : List ℕ) (reads : List ℕ → Option (Word × List ℕ)) (other : Option (Word × List ℕ)) (x : Word × List ℕ)
    → ((rest : List ℕ) → reads rest ≡ Some x → Tells front rest x) → (other ≡ Some x → Tells [] bytes x) → then_or_else (after front bytes) reads other ≡ Some x → Tells [] bytes x
side-text front bytes reads other x is later e =
    elim (then_or_else-some (after front bytes) reads other x e) [
      | inl k ↦ after-text front bytes k.0 k.1 ∙ is k.0 k.2
      | inr k ↦ later k
    ]

pub word_at-text : (bytes : List ℕ) (x : Word × List ℕ) → line_word_at bytes ≡ Some x → bytes ≡ word_text x.0 ++ x.1
word_at-text bytes x =
    side-text (codes "P ") bytes put_word_at _ x (λ rest. put_word_at-text rest x)
    (side-text (codes "C ") bytes take_word_at _ x (λ rest. take_word_at-text rest x)
    (named-text [] Queue (codes "queue") bytes _ x refl (named-text [] Cut (codes "cut queue") bytes None x refl (no_word [] bytes x))))

word_at-again : (w : Word) (numbers : List ℕ) → line_word_at (line_text w numbers) ≡ Some (w, numbers_text numbers)
word_at-again Close [] = refl
word_at-again Close (n ∷ numbers) = refl
word_at-again w numbers = refl

-- ---- the numbers

numbers_same : (one other : List ℕ) → AreSmall one → AreSmall other → numbers_text one ≡ numbers_text other → one ≡ other
numbers_same [] [] small too e = refl
numbers_same [] (n ∷ other) small too e = absurd (omega (arith, ap length e))
numbers_same (m ∷ one) [] small too e = absurd (omega (arith, ap length e))
numbers_same (m ∷ one) (n ∷ other) small too e =
    let same : (m, numbers_text one) ≡ (n, numbers_text other) = same_Some (m, numbers_text one) (n, numbers_text other)
    (sym (spaced_number-again m one (All-head (λ k. k < 2 ^ 64) m one small)) ∙ ap spaced_number e ∙ spaced_number-again n other (All-head (λ k. k < 2 ^ 64) n other too)) in
    ap₂ (λ (k : ℕ) (t : List ℕ). k ∷ t) (ap (λ (y : ℕ × List ℕ). y.0) same)
    (numbers_same one other (All-tail (λ k. k < 2 ^ 64) m one small) (All-tail (λ k. k < 2 ^ 64) n other too) (ap (λ (y : ℕ × List ℕ). y.1) same))

-- ---- the line

pub line_is : (bytes rest : List ℕ) (w : Word) (numbers : List ℕ) → Some (w, rest) ≡ line_word_at bytes → (rest ≡ numbers_text numbers) × AreSmall numbers → Allows w numbers → IsLine bytes w numbers
line_is bytes rest w numbers read are allowed = record {
  text = word_at-text bytes (w, rest) (sym read) ∙ ap (λ (t : List ℕ). word_text w ++ t) are.0;
  allowed = allowed;
  small = are.1;
}

-- what is read from a line
read_of_line : (bytes : List ℕ) (w : Word) (numbers : List ℕ) → IsLine bytes w numbers → line_word_at bytes ≡ Some (w, numbers_text numbers)
read_of_line bytes w numbers is = ap line_word_at is.text ∙ word_at-again w numbers

-- what comes after its word
behind : (bytes rest : List ℕ) (w : Word) → Some (w, rest) ≡ line_word_at bytes → (other : Word) (told : List ℕ) → IsLine bytes other told → ◌≡◌ {A = Word × List ℕ} (w, rest) (other, numbers_text told)
behind bytes rest w read other told is = same_Some (w, rest) (other, numbers_text told) (read ∙ read_of_line bytes other told is)

pub no_line_numbers : (bytes rest : List ℕ) (w : Word) → Some (w, rest) ≡ line_word_at bytes → ((told : List ℕ) → AreSmall told → ¬ (rest ≡ numbers_text told))
    → (other : Word) (told : List ℕ) → ¬ (IsLine bytes other told)
no_line_numbers bytes rest w read none other told is = none told is.small (ap (λ (y : Word × List ℕ). y.1) (behind bytes rest w read other told is))

pub no_line_allowed : (bytes rest : List ℕ) (w : Word) (numbers : List ℕ) → Some (w, rest) ≡ line_word_at bytes → (rest ≡ numbers_text numbers) × AreSmall numbers → ¬ (Allows w numbers)
    → (other : Word) (told : List ℕ) → ¬ (IsLine bytes other told)
no_line_allowed bytes rest w numbers read are none other told is =
    let same = behind bytes rest w read other told is in
    let told_is : told ≡ numbers = numbers_same told numbers is.small are.1 (sym (ap (λ (y : Word × List ℕ). y.1) same) ∙ are.0) in
    let word_is : other ≡ w = sym (ap (λ (y : Word × List ℕ). y.0) same) in
    none (subst (λ (v : Word). Allows v numbers) word_is (subst (λ (ns : List ℕ). Allows other ns) told_is is.allowed))

-- bytes are one line
pub line_same : (bytes : List ℕ) (w other : Word) (numbers told : List ℕ) → IsLine bytes w numbers → IsLine bytes other told → (w ≡ other) × (numbers ≡ told)
line_same bytes w other numbers told one two =
    let same : (w, numbers_text numbers) ≡ (other, numbers_text told) = same_Some (w, numbers_text numbers) (other, numbers_text told) (sym (read_of_line bytes w numbers one) ∙ read_of_line bytes other told two) in
    (ap (λ (y : Word × List ℕ). y.0) same, numbers_same numbers told one.small two.small (ap (λ (y : Word × List ℕ). y.1) same))

-- ---- no line feed

no_feed_numbers : (numbers : List ℕ) → AreSmall numbers → HasNoFeed (numbers_text numbers)
no_feed_numbers [] small = All-nil IsOther
no_feed_numbers (n ∷ numbers) small =
    All-cons IsOther 32 (decimal n ++ numbers_text numbers) (λ e. absurd (omega (arith, e)))
    (All-append IsOther (decimal n) (numbers_text numbers) (no_feed_digits n (All-head (λ k. k < 2 ^ 64) n numbers small)) (no_feed_numbers numbers (All-tail (λ k. k < 2 ^ 64) n numbers small)))

no_feed_word : (w : Word) → HasNoFeed (word_text w)
no_feed_word Queue = no_feed_text (word_text Queue) refl
no_feed_word w = no_feed_text (word_text w) refl

-- in a line there is no line feed
pub line_no_feed : (bytes : List ℕ) (w : Word) (numbers : List ℕ) → IsLine bytes w numbers → HasNoFeed bytes
line_no_feed bytes w numbers is = subst HasNoFeed (sym is.text) (All-append IsOther (word_text w) (numbers_text numbers) (no_feed_word w) (no_feed_numbers numbers is.small))

-- a word, followed by more numbers than there is room for
pub begins_with_numbers : (bytes rest : List ℕ) (w : Word) (numbers more : List ℕ) (room : ℕ) → Some (w, rest) ≡ line_word_at bytes → rest ≡ numbers_text numbers ++ more → AreSmall numbers
    → room < length numbers → BeginsWithNumbers room bytes
begins_with_numbers bytes rest w numbers more room read are small many = record {
  word = w;
  numbers = numbers;
  rest = more;
  parts = word_at-text bytes (w, rest) (sym read) ∙ ap (λ (t : List ℕ). word_text w ++ t) are ∙ sym (append_assoc (word_text w) (numbers_text numbers) more);
  small = small;
  more = many;
}
