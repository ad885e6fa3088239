-- What was heard of a history: a fault stays the first; an event that is refused is the first fault; and one that is not is counted.
use Rattle.std.proofs.Common.{◌≡◌, ℕ, ◌+◌, true, false, Option, List, [], ◌∷◌, ◌++◌, length, reverse, refl, ap, sym, subst, ◌∙◌, append_assoc, arith}
use Rattle.queue_calls.proofs.Common.{is_some, max, false≢true, Capacity, Event, IsLinearizable, Kept, kept, IsProper, offered_by, IsFaultSoFar, meant, Remembers, Offered, Taken, Free, Rests, Witness}
use Rattle.call_lines.specs.Lines.{AllowsQueue}
use Rattle.queue_calls.specs.Recordings.{capacity_told, IsFoundWithin, StopsAt}
use Rattle.queue_calls.specs.Reporting.{as_number, IsReport, IsSurelyInside, IsPerhapsInside}
use Rattle.queue_calls.specs.Tallying.{HaveNumbersOf, IsTallied, IsToldOf, Tallies, least_kept, most_behind, most_kept, has_put, has_take}
use Rattle.queue_calls.specs.declared.reports.CallsReport.{CallsReport}
use Rattle.queue_calls.specs.declared.reports.Tally.{Tally}
use Rattle.queue_calls.specs.declared.recordings.CallsFinding.{CallsFinding}
use Rattle.queue_calls.specs.declared.recordings.CallsFinding.TheVariants.{Lawful}
use Rattle.queue_calls.proofs.Agreeing.{turned}
use Rattle.queue_calls.proofs.InsideMoments.{perhaps_follows, surely_follows}
use Rattle.queue_calls.proofs.Remembering.{kept_of, linear, stands}
use Rattle.queue_calls.proofs.TalliesFollow.{last_count, sides_fit, tells}

-- the numbers of a first line have a capacity that a queue may have
pub proper_told : (numbers : List ℕ) → AllowsQueue numbers → IsProper (capacity_told numbers)
proper_told numbers allowed = grind arith

-- an event at which the history is not linearizable is the first fault
pub stops_here : (capacity : Capacity) (events : List Event) (event : Event) (number : ℕ) (Says : List Event → Event → Type 0) → IsLinearizable capacity events
    → ¬ (IsLinearizable capacity (events ++ event ∷ [])) → Says events event → length events + 2 ≡ number → StopsAt capacity (events ++ event ∷ []) number Says
stops_here capacity events event number Says so_far stops says is = grind arith

-- the report of what was counted, if these calls are under way
pub report_of : {S O T N B : Type 0} → Witness S O T N B → Tally → CallsReport
report_of w tally = record tally.report { under_way = as_number (has_put w.auditor.put) + as_number (has_take w.auditor.take) }

module _ {S O T N B : Type 0} (offered : O → List Offered) (last : T → List Taken) (capacity : Capacity) (events : List Event) where
  -- what is remembered is linearizable
  pub heard_linear : (w : Witness S O T N B) → Remembers offered last w capacity events → IsLinearizable capacity events
  heard_linear w r = linear capacity events _ r.proper r.counted

  pub fault_stays : (fault : Option CallsFinding) (w : Witness S O T N B) (tally : Tally) (event : Event) → is_some fault ≡ true → IsFaultSoFar offered last fault w tally capacity events
      → IsFaultSoFar offered last fault w tally capacity (events ++ event ∷ [])
  fault_stays fault w tally event some is = grind (arith, false≢true, append_assoc)

  pub no_fault : (fault : Option CallsFinding) (w : Witness S O T N B) (tally : Tally) → is_some fault ≡ false → IsFaultSoFar offered last fault w tally capacity events
      → Remembers offered last w capacity events × IsTallied capacity events tally
  no_fault fault w tally none is = grind (arith, false≢true)

  pub unheard : (fault : Option CallsFinding) (w : Witness S O T N B) (tally : Tally) → is_some fault ≡ false → Remembers offered last w capacity events × IsTallied capacity events tally
      → IsFaultSoFar offered last fault w tally capacity events
  unheard fault w tally none is = grind (arith, false≢true)

  -- one more event is counted
  pub heard_more :
      (w after : Witness S O T N B) (tally : Tally) (counted : Tally) (event : Event) → Remembers offered last w capacity events → Remembers offered last after capacity (events ++ event ∷ []) →
      IsTallied capacity events tally →
      ((past : List Event) → Tallies past tally → IsToldOf event past (offered_by w.auditor.put) after.auditor.put after.auditor.take → Tallies (event ∷ past) counted) →
      counted.report.surely_inside ≡ max tally.report.surely_inside (least_kept (kept_of offered after)) →
      counted.report.perhaps_inside ≡ most_behind event tally.report.perhaps_inside (most_kept (meant after.auditor.capacity) (kept_of offered after)) →
      IsTallied capacity (events ++ event ∷ []) counted
  heard_more w after tally counted event r r' t adds surely perhaps =
      let k : Kept = kept_of offered after in
      let (before, there, now) = last_count capacity (kept [] Free Rests false) events event k r'.counted in
      let j = stands capacity events before r'.proper there in
      let j' = stands capacity (events ++ event ∷ []) k r'.proper r'.counted in
      record {
        tallies =
            subst (λ past. Tallies past counted) (sym (turned events event))
            (adds (reverse events) t.tallies (tells capacity events (kept_of offered w) r.proper r.counted event k r'.counted));
        surely = subst (IsSurelyInside capacity (events ++ event ∷ [])) (sym surely) (surely_follows capacity events event before k j j' tally.report.surely_inside t.surely);
        perhaps =
            subst (IsPerhapsInside capacity (events ++ event ∷ []))
            (sym (perhaps ∙ ap (λ c. most_behind event tally.report.perhaps_inside (most_kept c k)) r'.capacity_is))
            (perhaps_follows capacity events event before k j j' now tally.report.perhaps_inside t.perhaps);
      }

  -- the report of what was heard
  pub reported :
      (w : Witness S O T N B) (tally : Tally) (report : CallsReport) → Remembers offered last w capacity events → IsTallied capacity events tally →
      report.under_way ≡ as_number (has_put w.auditor.put) + as_number (has_take w.auditor.take) → HaveNumbersOf tally.report report → IsReport capacity events report
  reported w tally report r t under numbers = grind (arith, sides_fit, kept_of)

  -- if no fault was heard, it is linearizable, and this is its report
  pub heard_lawful : (limit : ℕ) (w : Witness S O T N B) (tally : Tally) → Remembers offered last w capacity events → IsTallied capacity events tally → IsFoundWithin limit capacity events (Lawful (report_of w tally))
  unfolding report_of
  heard_lawful limit w tally r t = (
    heard_linear w r,
    reported w tally (report_of w tally) r t refl (record {
      calls = refl;
      overlapped = refl;
      others = record { stored = refl; taken = refl; full = refl; empty = refl; nothing = refl; told = refl; surely_inside = refl; perhaps_inside = refl };
    }),
  )
