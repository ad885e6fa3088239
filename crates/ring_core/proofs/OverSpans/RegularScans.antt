-- The law of the unary register, for the scans of one side and the count writes of the other.
use Rattle.std.proofs.Common.{◌≡◌, ℕ, suc, ◌+◌, ◌-◌, ◌*◌, ◌<◌, ◌≤◌, List, [], ◌++◌, length, take, sym, ap, subst, ◌∙◌, arith}
use Rattle.std.proofs.lemmas.List.{take-append-le}
use Rattle.ring_core.proofs.Common.{filter_map-append, Side, P, C, Shape, modulus_of, batch_of, take_batch_of, other, IsLawful, first_count, Puts, close_phrase, FollowsPuts, Takes, FollowsTakes}
use Rattle.bits_core.specs.declared.events.Event.{Event}
use Rattle.bits_core.specs.Made.{Made, subhistory, clock, place_of, events_of, IsPrefix}
use Rattle.register_core.specs.UnaryLaw.{count_write, count_begun, count_ended, WritesUnary, ended_before, begun_before, IsScan, IsRegularValue}
use Rattle.register_core.specs.MadeReads.{begin_place, end_place}
use Rattle.register_core.specs.ScanState.{row_read_by}
use Rattle.ring_core.proofs.OverSpans.Spans.{Span, counts_begun, counts_ended, IsSpanAt, tally}
use Rattle.ring_core.proofs.OverSpans.Clocks.{IsPlace, Permitted, AreRegular}
use Rattle.ring_core.proofs.OverSpans.LookSpans.{Look, put_looks, take_looks, look_accesses, spans, put_spans, take_spans, LookAt}
use Rattle.ring_core.proofs.Machines.Lengths.{length-scan}
use Rattle.ring_core.proofs.OverSpans.Looks.{puts_as_looks, takes_as_looks, AllPassing, puts_pass, takes_pass, look_at}
use Rattle.ring_core.proofs.CountRow.{batch_below, take_batch_below}
use Rattle.ring_core.proofs.CountTimes.{bit_writes, IsQuiet, quiet_close, sizes_in, sizes_are, tally_up, counted_in, counted_value, count_writes_begun, count_writes_ended, program_writes}
use Rattle.ring_core.proofs.OwnEvents.{clock_within, one_place, count_begun_own, count_begun_before, count_ended_before}
use Rattle.register_core.proofs.LawLemmas.{reads_are_made_scans, unary_is_regular}

-- the first events of a prefix are those of the whole
bits_of_beginning :
    (s : Side) (xs rest all : List Event) (i : ℕ) → xs ++ rest ≡ all → i ≤ length xs → length (count_begun s (take i xs)) ≡ bit_writes s all i
bits_of_beginning s xs rest all i e l = ap (λ z. length (count_begun s z)) (sym (take-append-le i xs rest l) ∙ ap (take i) e)

-- ---- the writer

module _
    (shape : Shape) (h : List Event) (lawful : IsLawful shape h) (w : Side) (looks : List Look) (behind : List Made)
    (follows : IsPrefix (subhistory w h) (events_of w (look_accesses w shape first_count looks behind))) where
  -- the writes to its count are those of unary writes of its counts
  pub writes_unary : IsQuiet w behind → WritesUnary w h (counted_in shape looks)
  writes_unary quiet = grind (arith, count_begun_own shape w h lawful, filter_map-append (count_write w) (subhistory w h) follows.0, program_writes)

  abbrev events : List Event
  events = events_of w (look_accesses w shape first_count looks behind)

  module _ (most : ℕ) (fits : most < modulus_of shape) (passing : AllPassing most looks) where
    -- the unary writes that had ended before a place count at least as much as the count writes of its spans that had
    ended_there : (place : ℕ) → counts_ended (spans w shape first_count looks) (clock w h place) ≤ tally (sizes_in looks) (ended_before w h (counted_in shape looks) place)
    ended_there place =
        let same : length (count_ended w (take place h)) ≡ bit_writes w events (clock w h place - 1) =
        ap length (count_ended_before shape w h lawful place) ∙
        bits_of_beginning w (subhistory w h) follows.0 events (clock w h place - 1) follows.1 (omega (arith, clock_within w h place)) in
        rw same (count_writes_ended most w shape looks behind fits passing (clock w h place))

    -- the count writes of its spans that had begun before a place count at least as much as the unary writes that had
    begun_there : (place : ℕ) → tally (sizes_in looks) (begun_before w h (counted_in shape looks) place) ≤ counts_begun (spans w shape first_count looks) (clock w h place)
    begun_there place =
        let same : length (count_begun w (take place h)) ≡ bit_writes w events (clock w h place) =
        ap length (count_begun_before shape w h lawful place) ∙
        bits_of_beginning w (subhistory w h) follows.0 events (clock w h place) follows.1 (clock_within w h place) in
        rw same (count_writes_begun most w shape looks behind fits passing (clock w h place))

    -- so the value that the register returns is one that the spans permit
    permitted :
        (first last c : ℕ) → IsRegularValue w h (counted_in shape looks) first last c →
        Permitted (modulus_of shape) (clock w h) (spans w shape first_count looks) first last c
    permitted first last c r = record {
      number = tally (sizes_in looks) r.number;
      write = r.number;
      tallies = ap (λ ms. tally ms r.number) (sym (sizes_are w shape first_count looks));
      not_older = omega (arith, tally_up (sizes_in looks) (ended_before w h (counted_in shape looks) first) r.number r.not_overwritten, ended_there first);
      not_newer = omega (arith, tally_up (sizes_in looks) r.number (begun_before w h (counted_in shape looks) last) r.has_begun, begun_there last);
      value = sym r.has_value ∙ counted_value most shape looks r.number fits passing;
    }

-- ---- the reader

-- a scan of a program that has ended is a scan of the history, from the place of its first event to that of its last
scan_there :
    (shape : Shape) (h : List Event) (s : Side) (looks : List Look) (behind : List Made) →
    IsPrefix (subhistory s h) (events_of s (look_accesses s shape first_count looks behind)) →
    (start n : ℕ) (x : Span) → IsSpanAt (spans s shape first_count looks) start n x →
    (first last e : ℕ) → IsPlace (clock s h) start first → IsPlace (clock s h) e last → suc e ≡ start + x.scan →
    (from_place : ℕ → ℕ) × (to_place : ℕ → ℕ) × IsScan (other s) h x.seen from_place to_place × (first ≡ from_place 0) × (last ≡ to_place x.seen)
scan_there shape h s looks behind follows start n x st first last e is_first is_last ends =
    let r : LookAt s shape (look_accesses s shape first_count looks behind) n start x = grind (arith, look_at s shape first_count looks behind start n x st) in
    let k : ℕ = length r.before in
    let c : ℕ = r.look.seen in
    let seen : x.seen ≡ c = ap (λ (z : Span). z.seen) r.is_x in
    let scan : x.scan ≡ 2 * suc c = ap (λ (z : Span). z.scan) r.is_x ∙ ap (λ j. 2 * j) (length-scan (row_read_by s) c) in
    let e_is : e ≡ suc (2 * (k + c)) = omega (arith, ends, scan, r.start_is) in
    let start_is : start ≡ 2 * (k + 0) = omega (arith, r.start_is) in
    let there : IsScan (other s) h c (begin_place s h k) (end_place s h k) =
    reads_are_made_scans s h (look_accesses s shape first_count looks behind) follows r.before _ c r.program_is (omega (arith, e_is, is_last.1, clock_within s h (suc last))) in (
      begin_place s h k,
      end_place s h k,
      subst (λ v. IsScan (other s) h v (begin_place s h k) (end_place s h k)) (sym seen) there,
      one_place s h start first is_first ∙ ap (place_of s h) start_is,
      one_place s h e last is_last ∙ ap (place_of s h) e_is ∙ ap (end_place s h k) (sym seen),
    )

-- ---- the two sides

-- a producer's own events, if it follows its calls, by its looks
pub put_events :
    (shape : Shape) (h : List Event) (calls : Puts) → FollowsPuts shape h calls →
    IsPrefix (subhistory P h) (events_of P (look_accesses P shape first_count (put_looks calls.puts) (close_phrase calls.closes)))
put_events shape h calls follows = grind (arith, puts_as_looks)

-- and those of a consumer that follows its calls
pub take_events :
    (shape : Shape) (h : List Event) (calls : Takes) → FollowsTakes shape h calls →
    IsPrefix (subhistory C h) (events_of C (look_accesses C shape first_count (take_looks calls.takes calls.end) []))
take_events shape h calls follows = grind (arith, takes_as_looks)

-- the value that the register returns is between those places
between :
    (w : Side) (h : List Event) (values : List ℕ) (first last first' last' c : ℕ) → first ≡ first' → last ≡ last' →
    IsRegularValue w h values first' last' c → IsRegularValue w h values first last c
between w h values first last first' last' c e f r = rw (e, f) r

-- the scans of one side are regular in a lawful history whose two sides follow their programs
pub regular_scans :
    (shape : Shape) (h : List Event) → IsLawful shape h →
    (s : Side) (looks writes : List Look) (behind behind_writes : List Made) → IsQuiet (other s) behind_writes →
    (most : ℕ) → most < modulus_of shape → AllPassing most writes →
    IsPrefix (subhistory s h) (events_of s (look_accesses s shape first_count looks behind)) →
    IsPrefix (subhistory (other s) h) (events_of (other s) (look_accesses (other s) shape first_count writes behind_writes)) →
    AreRegular (modulus_of shape) (clock s h) (clock (other s) h) (spans s shape first_count looks) (spans (other s) shape first_count writes)
regular_scans shape h lawful s looks writes behind behind_writes quiet most fits passing follows follows_writes start n x st first last e is_first is_last ends =
    let scan = scan_there shape h s looks behind follows start n x st first last e is_first is_last ends in
    let unary_writes : WritesUnary (other s) h (counted_in shape writes) =
    writes_unary shape h lawful (other s) writes behind_writes follows_writes quiet in
    let value : IsRegularValue (other s) h (counted_in shape writes) (scan.0 0) (scan.1 x.seen) x.seen =
    unary_is_regular shape h lawful (other s) (counted_in shape writes) unary_writes x.seen scan.0 scan.1 scan.2 in
    permitted shape h lawful (other s) writes behind_writes follows_writes most fits passing first last x.seen
    (between (other s) h (counted_in shape writes) first last (scan.0 0) (scan.1 x.seen) x.seen scan.3 scan.4 value)

-- the scans of puts are regular, over the count writes of takes
pub puts_regular :
    (shape : Shape) (h : List Event) → IsLawful shape h → (puts : Puts) (takes : Takes) → FollowsPuts shape h puts → FollowsTakes shape h takes →
    AreRegular (modulus_of shape) (clock P h) (clock C h) (put_spans shape puts) (take_spans shape takes)
puts_regular shape h lawful puts takes follows_puts follows_takes =
    regular_scans shape h lawful P (put_looks puts.puts) (take_looks takes.takes takes.end) (close_phrase puts.closes) [] tt (take_batch_of shape) (take_batch_below shape) (takes_pass shape 0 takes.takes takes.end follows_takes.are)
    (put_events shape h puts follows_puts) (take_events shape h takes follows_takes)

-- the scans of takes are regular, over the count writes of puts
pub takes_regular :
    (shape : Shape) (h : List Event) → IsLawful shape h → (puts : Puts) (takes : Takes) → FollowsPuts shape h puts → FollowsTakes shape h takes →
    AreRegular (modulus_of shape) (clock C h) (clock P h) (take_spans shape takes) (put_spans shape puts)
takes_regular shape h lawful puts takes follows_puts follows_takes =
    regular_scans shape h lawful C (take_looks takes.takes takes.end) (put_looks puts.puts) [] (close_phrase puts.closes) (quiet_close puts.closes) (batch_of shape) (batch_below shape) (puts_pass shape 0 puts.puts follows_puts.are)
    (take_events shape h takes follows_takes) (put_events shape h puts follows_puts)
