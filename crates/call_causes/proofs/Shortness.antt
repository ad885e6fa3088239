-- How many bytes the text of a cause has.
use Rattle.std.proofs.Common.{ℕ, ◌+◌, ◌^◌, ◌≤◌, ◌<◌, List, ◌++◌, Option, Some, None, length, codes, decimal, arith}
use Rattle.std.proofs.lemmas.List.{length-append}
use Rattle.std.proofs.lemmas.Fmt.{length-decimal-le}
use Rattle.call_causes.specs.Causes.{cause_words, next_words, one, inside_words}
use Rattle.call_causes.specs.declared.entries.Offered.{Offered}
use Rattle.call_causes.specs.declared.entries.Taken.{Taken}
use Rattle.call_causes.specs.declared.causes.Cause.{Cause}
use Rattle.call_causes.specs.declared.causes.Cause.TheVariants.{StoredAfterClose, OnlySomeStored, StoredTooMany, OnlySomeWithRoom, FullWithRoom, FullAfterClose, NotStoredButTaken, ShortWithRoom, ClosedWithoutClose, ItemAfterTold, NotNext, ComesAgain, NotInside, NoMoreWhileInside, NotTaken, EmptyAfterTold, EmptyWhileInside, EmptyAfterClose, ShortAfterTold, ShortWhileInside, ShortAfterClose, ClosedBeforeClose, ClosedWhileInside}

-- numbers of 64 bits
abbrev pub IsSmall : ℕ → Type 0
IsSmall n = n < 2 ^ 64

abbrev pub AreSmallOffered : Offered → Type 0
AreSmallOffered o = IsSmall o.item × IsSmall o.offered_at × IsSmall o.stored_at

abbrev pub AreSmallTaken : Taken → Type 0
AreSmallTaken t = IsSmall t.item × IsSmall t.taken_at

abbrev pub AreSmallNext : Option Offered → Type 0
AreSmallNext (Some next) = AreSmallOffered next
AreSmallNext None = Unit {0}

abbrev pub AreSmall : Cause → Type 0
AreSmall (StoredAfterClose n) = IsSmall n
AreSmall (OnlySomeStored count taken) = IsSmall count × AreSmallTaken taken
AreSmall (StoredTooMany n) = IsSmall n
AreSmall (OnlySomeWithRoom count n line) = IsSmall count × IsSmall n × IsSmall line
AreSmall (FullWithRoom n line) = IsSmall n × IsSmall line
AreSmall (FullAfterClose n) = IsSmall n
AreSmall (NotStoredButTaken taken) = AreSmallTaken taken
AreSmall (ShortWithRoom offered n line) = IsSmall offered × IsSmall n × IsSmall line
AreSmall ClosedWithoutClose = Unit {0}
AreSmall (ItemAfterTold n) = IsSmall n
AreSmall (NotNext item next) = IsSmall item × AreSmallOffered next
AreSmall (ComesAgain taken next) = AreSmallTaken taken × AreSmallNext next
AreSmall (NotInside item next) = IsSmall item × AreSmallNext next
AreSmall (NoMoreWhileInside inside) = AreSmallOffered inside
AreSmall (NotTaken n line) = IsSmall n × IsSmall line
AreSmall (EmptyAfterTold n) = IsSmall n
AreSmall (EmptyWhileInside inside) = AreSmallOffered inside
AreSmall (EmptyAfterClose n) = IsSmall n
AreSmall (ShortAfterTold n) = IsSmall n
AreSmall (ShortWhileInside inside) = AreSmallOffered inside
AreSmall (ShortAfterClose n) = IsSmall n
AreSmall ClosedBeforeClose = Unit {0}
AreSmall (ClosedWhileInside inside) = AreSmallOffered inside

digits : (n : ℕ) → IsSmall n → length (decimal n) ≤ 20
digits n small = length-decimal-le 20 n (omega arith) (omega (arith, small)) small

-- words with a number between them
one_length : (a b : List ℕ) (n : ℕ) → IsSmall n → length (one a n b) ≤ length a + 20 + length b
one_length a b n small = omega (arith, length-append a (decimal n ++ b), length-append (decimal n) b, digits n small)

last_length : (a : List ℕ) (n : ℕ) → IsSmall n → length (a ++ decimal n) ≤ length a + 20
last_length a n small = omega (arith, length-append a (decimal n), digits n small)

-- and with a text and a number after it
two_length : (a b : List ℕ) (n k : ℕ) → IsSmall n → IsSmall k → length (one a n (b ++ decimal k)) ≤ length a + length b + 40
two_length a b n k small small' = omega (arith, one_length a (b ++ decimal k) n small, last_length b k small')

three_length : (a b c : List ℕ) (n m k : ℕ) → IsSmall n × IsSmall m × IsSmall k → length (one a n (one b m (c ++ decimal k))) ≤ length a + length b + length c + 60
three_length a b c n m k small = omega (arith, one_length a (one b m (c ++ decimal k)) n small.0, two_length b c m k small.1 small.2)

next_length : (next : Option Offered) → AreSmallNext next → length (next_words next) ≤ 65
next_length (Some next) small =
    let behind : List ℕ = one (codes " of line ") next.offered_at (codes " is next") in
    omega (arith, one_length (codes "item ") behind next.item small.0, one_length (codes " of line ") (codes " is next") next.offered_at small.1)
next_length None small = omega arith

since_length : (says : List ℕ) (inside : Offered) → AreSmallOffered inside → length (inside_words says inside) ≤ length says + 64
since_length says inside small =
    omega (arith, two_length says (codes " was inside since line ") inside.item inside.stored_at small.0 small.2)

pub cause_length : (cause : Cause) → AreSmall cause → length (cause_words cause) ≤ 256
cause_length (StoredAfterClose n) small = omega (arith, last_length (codes "stored, but closed at line ") n small)
cause_length (OnlySomeStored count taken) small =
    omega (arith, three_length (codes "only ") (codes " stored, but item ") (codes " was taken at line ") count taken.item taken.taken_at (small.0, small.1.0, small.1.1))
cause_length (StoredTooMany n) small = omega (arith, one_length (codes "stored, but at least ") (codes " inside") n small)
cause_length (OnlySomeWithRoom count n line) small =
    omega (arith, three_length (codes "only ") (codes " stored, but before them at most ") (codes " inside since line ") count n line small)
cause_length (FullWithRoom n line) small = omega (arith, two_length (codes "full, but at most ") (codes " inside since line ") n line small.0 small.1)
cause_length (FullAfterClose n) small = omega (arith, last_length (codes "full, but closed at line ") n small)
cause_length (NotStoredButTaken taken) small =
    omega (arith, two_length (codes "not stored, but item ") (codes " was taken at line ") taken.item taken.taken_at small.0 small.1)
cause_length (ShortWithRoom offered n line) small =
    omega (arith, three_length (codes "short for ") (codes ", but at most ") (codes " inside since line ") offered n line small)
cause_length ClosedWithoutClose small = omega arith
cause_length (ItemAfterTold n) small = omega (arith, last_length (codes "item, but closed was told at line ") n small)
cause_length (NotNext item next) small =
    omega (arith, one_length (codes "item ") (codes ", but " ++ next_words (Some next)) item small.0, length-append (codes ", but ") (next_words (Some next)), next_length (Some next) small.1)
cause_length (ComesAgain taken next) small =
    let last : List ℕ = codes "; " ++ next_words next in
    omega (
      arith,
      one_length (codes "item ") (one (codes " comes again, it was taken at line ") taken.taken_at last) taken.item small.0.0,
      one_length (codes " comes again, it was taken at line ") last taken.taken_at small.0.1,
      length-append (codes "; ") (next_words next),
      next_length next small.1,
    )
cause_length (NotInside item next) small = omega (
  arith,
  one_length (codes "item ") (codes " was not inside; " ++ next_words next) item small.0,
  length-append (codes " was not inside; ") (next_words next),
  next_length next small.1,
)
cause_length (NoMoreWhileInside inside) small = omega (arith, since_length (codes "no more, but item ") inside small)
cause_length (NotTaken n line) small = omega (arith, two_length (codes "not taken, but at least ") (codes " inside since line ") n line small.0 small.1)
cause_length (EmptyAfterTold n) small = omega (arith, last_length (codes "empty, but closed was told at line ") n small)
cause_length (EmptyWhileInside inside) small = omega (arith, since_length (codes "empty, but item ") inside small)
cause_length (EmptyAfterClose n) small = omega (arith, last_length (codes "empty, but closed at line ") n small)
cause_length (ShortAfterTold n) small = omega (arith, last_length (codes "short, but closed was told at line ") n small)
cause_length (ShortWhileInside inside) small = omega (arith, since_length (codes "short, but item ") inside small)
cause_length (ShortAfterClose n) small = omega (arith, last_length (codes "short, but closed at line ") n small)
cause_length ClosedBeforeClose small = omega arith
cause_length (ClosedWhileInside inside) small = omega (arith, since_length (codes "closed, but item ") inside small)
