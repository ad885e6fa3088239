-- One more line for a hearing.
use Rattle.std.proofs.Common.{◌≡◌, ◌≢◌, ◌∙◌, ℕ, ◌+◌, ◌<◌, ◌^◌, Bool, false, Option, Some, None, List, [], ◌∷◌, ◌++◌, length, get_or, refl, sym, ap, subst, arith, append-nil}
use Rattle.queue_calls.proofs.Common.{is_some, false≢true, Event, Capacity, OutgrowsLists, line_text, Allows, AreSmall, Line, line, lines_text, AreLines, begun_after, begun_behind, capacity_told}
use Rattle.queue_calls.proofs.Common.{event_told, events_told, IsRecording, IsFoundWithin, IsFindingWithin, IsFaultSoFar, HasLongHistory, Offered, Taken, Hearing, Word, Witness}
use Rattle.std.proofs.lemmas.List.Elements.{All-from_get_or}
use Rattle.queue_calls.specs.Hearings.{HasHeardAll, HearsNext, FollowsLines, IsNotLawful}
use Rattle.queue_calls.specs.declared.hearings.Begun.TheVariants as begun
use Rattle.queue_calls.specs.declared.recordings.CallsFinding.{CallsFinding}
use Rattle.queue_calls.specs.declared.reports.Tally.{Tally}
use Rattle.queue_calls.proofs.HeardLines.{count_is, events_more, further_heard, further_line, not_further}

pub no_fault_is : (fault : Option CallsFinding) → is_some fault ≡ false → fault ≡ None
no_fault_is fault is = grind (arith, false≢true)

-- numbers of 64 bits, one by one
pub are_small : (numbers : List ℕ) → ((i : ℕ) → get_or numbers i 0 < 2 ^ 64) → AreSmall numbers
are_small numbers small = All-from_get_or (λ n. n < 2 ^ 64) numbers 0 (λ i l. small i)

module _ {S O T N B : Type 0} (offered : O → List Offered) (last : T → List Taken) where
  -- the first fault after one more event
  pub fault_next :
      (old new : Hearing S O T N B) (number : ℕ) (event : Event) (capacity : Capacity) (events : List Event) (found : Option CallsFinding) → HearsNext offered last old number event found new →
      HasHeardAll offered last old capacity events → length events + 2 ≡ number → IsFaultSoFar offered last found new.witness new.tally capacity (events ++ event ∷ [])
  fault_next old new number event capacity events found hears heard is = grind arith

  pub heard_as :
      (old new : Hearing S O T N B) (number : ℕ) (event : Event) (found same : Option CallsFinding) → found ≡ same → HearsNext offered last old number event found new → HearsNext offered last old number event same new
  heard_as old new number event found same is h = subst (λ f. HearsNext offered last old number event f new) is h

  found_so :
      (finding : CallsFinding) (w : Witness S O T N B) (tally : Tally) (capacity : Capacity) (events : List Event) → IsFaultSoFar offered last (Some finding) w tally capacity events →
      IsNotLawful finding × IsFoundWithin w.limit capacity events finding
  found_so finding w tally capacity events h = grind arith

  module _ (is_cut : Bool) (before : List Line) (old : Hearing S O T N B) (follows : FollowsLines offered last old is_cut before) where
    -- the history that was heard
    abbrev pub capacity_is : Capacity
    capacity_is = capacity_told follows.1.0

    abbrev pub events_are : List Event
    events_are = events_told begun.Nothing follows.1.1

    pub has_heard : HasHeardAll offered last old capacity_is events_are
    has_heard = subst (λ f. IsFaultSoFar offered last f old.witness old.tally capacity_is events_are) follows.2 follows.1.4

    some_line : before ≢ []
    some_line none = omega (arith, ap length follows.1.2, ap length none)

    pub tells_none : (word : Word) (numbers : List ℕ) → AreSmall numbers → Allows word numbers → event_told old.begun word numbers ≡ None → ¬ AreLines (before ++ line word numbers ∷ [])
    tells_none word numbers small allowed none are =
        not_further before (line_text word numbers) numbers numbers old.begun word (line word numbers) some_line none (record { text = refl; allowed = allowed; small = small }) (are, refl)

    module _ (word : Word) (numbers : List ℕ) (event : Event) (small : AreSmall numbers) (allowed : Allows word numbers) (tells : event_told old.begun word numbers ≡ Some event) where
      told_so : event_told (begun_behind begun.Nothing follows.1.1) word numbers ≡ Some event
      told_so = ap (λ b. event_told b word numbers) (sym follows.1.3) ∙ tells

      all_are : AreLines (before ++ line word numbers ∷ [])
      all_are =
          grind (arith, further_line before is_cut (line_text word numbers) follows.1.0 follows.1.1 (begun_behind begun.Nothing follows.1.1) word numbers event follows.1.2 follows.0 (record { text = refl; allowed = allowed; small = small }) told_so, told_so)

      number_is : (number : ℕ) → length before + 1 ≡ number → length events_are + 2 ≡ number
      number_is number is = count_is before is_cut follows.1.0 follows.1.1 begun.Nothing (length before) number follows.1.2 follows.0 refl (sym is)

      -- it is heard
      pub line_heard :
          (new : Hearing S O T N B) (number : ℕ) → length before + 1 ≡ number → new.begun ≡ begun_after old.begun word numbers → new.fault ≡ None →
          HearsNext offered last old number event None new → FollowsLines offered last new is_cut (before ++ line word numbers ∷ [])
      line_heard new number is begun_is none hears = (
        all_are,
        further_heard offered last new before is_cut follows.1.0 follows.1.1 word numbers event follows.1.2 told_so
            (begun_is ∙ ap (λ b. begun_after b word numbers) follows.1.3)
            (subst (λ f. IsFaultSoFar offered last f new.witness new.tally capacity_is (events_are ++ event ∷ [])) (sym none) (hears capacity_is events_are has_heard (number_is number is))),
        none,
      )

      recording_is : IsRecording (lines_text (before ++ line word numbers ∷ [])) capacity_is (events_are ++ event ∷ [])
      recording_is = grind (arith, all_are, events_more, told_so)

      -- it is at fault, and everything is unchanged
      pub line_at_fault :
          (new : Hearing S O T N B) (finding : CallsFinding) (number : ℕ) → length before + 1 ≡ number → new.begun ≡ old.begun → new.fault ≡ None → new.witness.limit ≡ old.witness.limit →
          HearsNext offered last old number event (Some finding) new →
          FollowsLines offered last new is_cut before × IsNotLawful finding × IsFindingWithin old.witness.limit (lines_text (before ++ line word numbers ∷ [])) finding
      line_at_fault new finding number is begun_is none limit hears =
          let (heard, fault) = hears capacity_is events_are has_heard (number_is number is) in
          let (against, found) = found_so finding new.witness new.tally capacity_is (events_are ++ event ∷ []) fault in (
            (
              follows.0,
              (
                follows.1.0,
                follows.1.1,
                follows.1.2,
                begun_is ∙ follows.1.3,
                subst (λ f. IsFaultSoFar offered last f new.witness new.tally capacity_is events_are) (sym none) heard,
              ),
              none,
            ),
            against,
            (capacity_is, events_are ++ event ∷ [], recording_is, subst (λ n. IsFoundWithin n capacity_is (events_are ++ event ∷ []) finding) limit found),
          )

      -- a list is too short
      pub line_outgrows : (limit o t : ℕ) → OutgrowsLists limit o t capacity_is (events_are ++ event ∷ []) → HasLongHistory limit o t (lines_text (before ++ line word numbers ∷ []))
      line_outgrows limit o t needs = grind (arith, append-nil (lines_text (before ++ line word numbers ∷ [])), recording_is)
