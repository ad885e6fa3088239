use Rattle.std.proofs.Common.{rules, ◌≡◌, refl, Some, None}
use Rattle.call_causes.specs.declared.causes.Cause.TheVariants.{StoredAfterClose, OnlySomeStored, StoredTooMany, OnlySomeWithRoom, FullWithRoom, FullAfterClose, NotStoredButTaken, ShortWithRoom, ClosedWithoutClose, ItemAfterTold, NotNext, ComesAgain, NotInside, NoMoreWhileInside, NotTaken, EmptyAfterTold, EmptyWhileInside, EmptyAfterClose, ShortAfterTold, ShortWhileInside, ShortAfterClose, ClosedBeforeClose, ClosedWhileInside}
use Rattle.call_causes.proofs.Shortness.{AreSmall, cause_length}
use Rattle.call_causes.proofs.words.write_cause.Goals as goal

pub returns-clause-enough : goal.returns-clause-enough
returns-clause-enough c = cause_length c.args.cause (elim c.args.cause as (λ cause. c.args.cause ≡ cause → AreSmall cause) [
  | StoredAfterClose n ↦ λ is. search rules
  | OnlySomeStored count taken ↦ λ is. search rules
  | StoredTooMany n ↦ λ is. search rules
  | OnlySomeWithRoom count n line ↦ λ is. search rules
  | FullWithRoom n line ↦ λ is. search rules
  | FullAfterClose n ↦ λ is. search rules
  | NotStoredButTaken taken ↦ λ is. search rules
  | ShortWithRoom offered n line ↦ λ is. search rules
  | ClosedWithoutClose ↦ λ is. search rules
  | ItemAfterTold n ↦ λ is. search rules
  | NotNext item next ↦ λ is. search rules
  | ComesAgain taken next ↦ elim next as (λ n. c.args.cause ≡ ComesAgain taken n → AreSmall (ComesAgain taken n)) [ Some n ↦ λ is. search rules | None ↦ λ is. search rules ]
  | NotInside item next ↦ elim next as (λ n. c.args.cause ≡ NotInside item n → AreSmall (NotInside item n)) [ Some n ↦ λ is. search rules | None ↦ λ is. search rules ]
  | NoMoreWhileInside inside ↦ λ is. search rules
  | NotTaken n line ↦ λ is. search rules
  | EmptyAfterTold n ↦ λ is. search rules
  | EmptyWhileInside inside ↦ λ is. search rules
  | EmptyAfterClose n ↦ λ is. search rules
  | ShortAfterTold n ↦ λ is. search rules
  | ShortWhileInside inside ↦ λ is. search rules
  | ShortAfterClose n ↦ λ is. search rules
  | ClosedBeforeClose ↦ λ is. search rules
  | ClosedWhileInside inside ↦ λ is. search rules
] refl)
