-- The text of what contradicts a line of a recording.
use Rattle.std.specs.Prelude.{ℕ, List, ◌++◌, Option, Some, None, option_map, codes, decimal}
use Rattle.call_causes.specs.declared.entries.Offered.{Offered}
use Rattle.call_causes.specs.declared.causes.Cause.{Cause}
use Rattle.call_causes.specs.declared.causes.Said.{Said}
use Rattle.call_causes.specs.declared.causes.Said.TheVariants as said
use Rattle.call_causes.specs.declared.causes.Cause.TheVariants.{StoredAfterClose, OnlySomeStored, StoredTooMany, OnlySomeWithRoom, FullWithRoom, FullAfterClose, NotStoredButTaken, ShortWithRoom, ClosedWithoutClose, ItemAfterTold, NotNext, ComesAgain, NotInside, NoMoreWhileInside, NotTaken, EmptyAfterTold, EmptyWhileInside, EmptyAfterClose, ShortAfterTold, ShortWhileInside, ShortAfterClose, ClosedBeforeClose, ClosedWhileInside}

-- words with numbers between them
abbrev pub one : List ℕ → ℕ → List ℕ → List ℕ
one a n b = a ++ (decimal n ++ b)

-- the text of the next item, if there is one
abbrev pub next_words : Option Offered → List ℕ
next_words (Some next) = one (codes "item ") next.item (one (codes " of line ") next.offered_at (codes " is next"))
next_words None = codes "none is next"

-- the text of a call that says so while an item was inside
abbrev pub inside_words : List ℕ → Offered → List ℕ
inside_words says inside = one says inside.item (codes " was inside since line " ++ decimal inside.stored_at)

-- the text of a cause
abbrev pub cause_words : Cause → List ℕ
cause_words (StoredAfterClose n) = codes "stored, but closed at line " ++ decimal n
cause_words (OnlySomeStored count taken) = one (codes "only ") count (one (codes " stored, but item ") taken.item (codes " was taken at line " ++ decimal taken.taken_at))
cause_words (StoredTooMany n) = one (codes "stored, but at least ") n (codes " inside")
cause_words (OnlySomeWithRoom count n line) = one (codes "only ") count (one (codes " stored, but before them at most ") n (codes " inside since line " ++ decimal line))
cause_words (FullWithRoom n line) = one (codes "full, but at most ") n (codes " inside since line " ++ decimal line)
cause_words (FullAfterClose n) = codes "full, but closed at line " ++ decimal n
cause_words (NotStoredButTaken taken) = one (codes "not stored, but item ") taken.item (codes " was taken at line " ++ decimal taken.taken_at)
cause_words (ShortWithRoom offered n line) = one (codes "short for ") offered (one (codes ", but at most ") n (codes " inside since line " ++ decimal line))
cause_words ClosedWithoutClose = codes "closed, but there was no close"
cause_words (ItemAfterTold n) = codes "item, but closed was told at line " ++ decimal n
cause_words (NotNext item next) = one (codes "item ") item (codes ", but " ++ next_words (Some next))
cause_words (ComesAgain taken next) = one (codes "item ") taken.item (one (codes " comes again, it was taken at line ") taken.taken_at (codes "; " ++ next_words next))
cause_words (NotInside item next) = one (codes "item ") item (codes " was not inside; " ++ next_words next)
cause_words (NoMoreWhileInside inside) = inside_words (codes "no more, but item ") inside
cause_words (NotTaken n line) = one (codes "not taken, but at least ") n (codes " inside since line " ++ decimal line)
cause_words (EmptyAfterTold n) = codes "empty, but closed was told at line " ++ decimal n
cause_words (EmptyWhileInside inside) = inside_words (codes "empty, but item ") inside
cause_words (EmptyAfterClose n) = codes "empty, but closed at line " ++ decimal n
cause_words (ShortAfterTold n) = codes "short, but closed was told at line " ++ decimal n
cause_words (ShortWhileInside inside) = inside_words (codes "short, but item ") inside
cause_words (ShortAfterClose n) = codes "short, but closed at line " ++ decimal n
cause_words ClosedBeforeClose = codes "closed, but no close has begun"
cause_words (ClosedWhileInside inside) = inside_words (codes "closed, but item ") inside

-- the line that contradicts the one at fault, if another one does
abbrev pub cause_line : Cause → Option ℕ
cause_line (StoredAfterClose n) = Some n
cause_line (OnlySomeStored count taken) = Some taken.taken_at
cause_line (StoredTooMany n) = None
cause_line (OnlySomeWithRoom count n line) = Some line
cause_line (FullWithRoom n line) = Some line
cause_line (FullAfterClose n) = Some n
cause_line (NotStoredButTaken taken) = Some taken.taken_at
cause_line (ShortWithRoom offered n line) = Some line
cause_line ClosedWithoutClose = None
cause_line (ItemAfterTold n) = Some n
cause_line (NotNext item next) = Some next.offered_at
cause_line (ComesAgain taken next) = Some taken.taken_at
cause_line (NotInside item next) = option_map (λ o. o.offered_at) next
cause_line (NoMoreWhileInside inside) = Some inside.stored_at
cause_line (NotTaken n line) = Some line
cause_line (EmptyAfterTold n) = Some n
cause_line (EmptyWhileInside inside) = Some inside.stored_at
cause_line (EmptyAfterClose n) = Some n
cause_line (ShortAfterTold n) = Some n
cause_line (ShortWhileInside inside) = Some inside.stored_at
cause_line (ShortAfterClose n) = Some n
cause_line ClosedBeforeClose = None
cause_line (ClosedWhileInside inside) = Some inside.stored_at

-- the text of a cause's parts
abbrev pub said_words : Said → List ℕ
said_words (said.Words words) = words.now
said_words (said.One a n b) = one a.now n b.now
said_words (said.Two a n b m c) = one a.now n (one b.now m c.now)
said_words (said.Three a n b m c k d) = one a.now n (one b.now m (one c.now k d.now))
said_words (said.Lost a n next) = one a.now n (codes " was not inside; " ++ next_words next.0)
said_words (said.Again a n b m next) = one a.now n (one b.now m (codes "; " ++ next_words next.0))
