-- What is kept of a history keeps agreeing with the past, and what follows from that.
use Rattle.std.proofs.Common.{◌≡◌, ◌⊎◌, inl, inr, ℕ, ◌+◌, ◌-◌, ◌≤◌, Bool, true, false, ◌||◌, List, [], ◌∷◌, ◌++◌, map, length, take, drop, reverse, refl, sym, ap, subst, ◌∙◌, arith, length-append, append_assoc, append-nil}
use Rattle.std.proofs.lemmas.Bool.{or_left, or_parts}
use Rattle.std.proofs.lemmas.List.{length-map, map-append, take-map, drop-map, reverse-append}
use Rattle.queue_calls.proofs.Common.{take-append-add, take-nil, drop-append_seam, Capacity, AreNext, offered_by, asked_by, has_closed, Kept, kept, without, Counts, Offered, PutTurn, Free, Offers}
use Rattle.queue_calls.proofs.Common.{Late, Closes, TakeTurn, Rests, Waits}
use Rattle.queue_calls.specs.Calls.{Event, PutBegin, PutEnd, CloseBegin, CloseEnd, TakeBegin, TakeEnd, Reply, passed, is_shut}
use Rattle.queue_calls.proofs.Agrees.{PutAgrees, TakeAgrees, Agrees}
use Rattle.queue_calls.proofs.Replies.{few, shut_is, told_on}
use Rattle.queue_calls.specs.Reasons.{line_behind, has_begun, has_ended, has_told, before_take, offered_at, stored_at, taken_at, offers, stored, taken, wanted, n_of, k_of, coming, items_of}

pub both : (A : Type 0) (b : Bool) → b ≡ true → b ≡ false → A
both A b e f = grind arith

not_more : (b e : Bool) → (e ≡ true → b ≡ true) → b ≡ false → b ≡ e
not_more b e f g = grind (arith, both)

one_of : (x y : Bool) → true ≡ (x || y) → (x ≡ true) ⊎ (y ≡ true)
one_of x y e = grind arith

pub ended_grows : (past : List Event) → has_ended (before_take past) ≡ true → has_ended past ≡ true
ended_grows [] e = e
ended_grows (CloseEnd ∷ past) e = refl
ended_grows (TakeBegin wanted ∷ past) e = e
ended_grows (_ ∷ past) e = ended_grows past e

-- the items of entries do not depend on their lines
items_offered : (line : ℕ) (items : List ℕ) → items_of (map (offered_at line) items) ≡ items
items_offered line [] = refl
items_offered line (item ∷ items) = ap (λ z. item ∷ z) (items_offered line items)

pub items_stored : (line : ℕ) (entries : List Offered) → items_of (map (stored_at line) entries) ≡ items_of entries
items_stored line [] = refl
items_stored line (o ∷ entries) = ap (λ z. o.item ∷ z) (items_stored line entries)

items_both : (s o : List Offered) → items_of (s ++ o) ≡ items_of s ++ items_of o
items_both s o = map-append (λ (e : Offered). e.item) s o

-- a row without some of its last items, in two forms
row_cut :
    (gone inside s o : List ℕ) (count : ℕ) → gone ++ inside ≡ s ++ o → count ≤ length o → length o - count ≤ length inside →
    gone ++ without (length o - count) inside ≡ s ++ take count o
row_cut gone inside s o count e few some =
    let long : length gone + length inside ≡ length s + length o = omega (arith, ap length e, length-append gone inside, length-append s o) in
    let same : length gone + (length inside - (length o - count)) ≡ length s + count = omega (arith, long, few, some) in
    sym (take-append-add gone inside (length inside - (length o - count))) ∙ (ap (λ z. take z (gone ++ inside)) same ∙ (ap (λ z. take (length s + count) z) e ∙ take-append-add s o count))

module _ (past : List Event) (k : Kept) (a : Agrees past k) where
  pub as_put : (put : PutTurn) → k.put ≡ put → PutAgrees past put
  as_put put e = subst (λ z. PutAgrees past z) e a.put_fits

  pub as_take : (turn : TakeTurn) → k.take ≡ turn → TakeAgrees past turn
  as_take turn e = subst (λ z. TakeAgrees past z) e a.take_fits

  pub long : k_of past + length k.inside ≡ n_of past + length (offers past)
  long =
      omega (arith, ap length a.row, a.count, length-append a.gone k.inside, length-map (stored past ++ offers past) (λ o. o.item), length-append (stored past) (offers past))

  offered_fits :
      (put : PutTurn) → PutAgrees past put → offered_by put ≡ length (offers past)
  offered_fits put f = grind (arith, length)

  pub offered_is : offered_by k.put ≡ length (offers past)
  offered_is = offered_fits k.put a.put_fits

  asked_fits : (turn : TakeTurn) → TakeAgrees past turn → asked_by turn ≡ wanted past
  asked_fits turn f = grind arith

  pub asked_is : asked_by k.take ≡ wanted past
  asked_is = asked_fits k.take a.take_fits

  pub coming_is : items_of (coming past) ≡ k.inside
  coming_is = grind (arith, drop-map, drop, length a.gone, drop-append_seam a.gone k.inside)

  pub long_coming : length (coming past) ≡ length k.inside
  long_coming = sym (length-map (coming past) (λ o. o.item)) ∙ ap length coming_is

  offers_fit :
      (put : PutTurn) → PutAgrees past put → has_begun past ≡ true → offers past ≡ []
  offers_fit put f g = grind (arith, both)

  -- after a close nothing is offered that may be stored
  pub offers_none : has_begun past ≡ true → offers past ≡ []
  offers_none g = offers_fit k.put a.put_fits g

  -- the items of the put under way, by themselves
  apart : a.gone ++ k.inside ≡ items_of (stored past) ++ items_of (offers past)
  apart = a.row ∙ items_both (stored past) (offers past)

  -- the put under way ends with this many of its items
  cut : (n inside count : ℕ) → k.put ≡ Offers n inside → count ≤ n → n - count ≤ length k.inside → a.gone ++ without (n - count) k.inside ≡ items_of (stored past) ++ take count (items_of (offers past))
  cut n inside count e few some = grind (arith, as_put, length, length-map, take, row_cut, apart, few)

  ends :
      (line n inside count : ℕ) → k.put ≡ Offers n inside → count ≤ n → n - count ≤ length k.inside →
      a.gone ++ without (n - count) k.inside ≡ items_of ((stored past ++ map (stored_at line) (take count (offers past))) ++ [])
  ends line n inside count e few some = grind (arith, map, take, cut, few, take-map, items_stored, items_both, append-nil)

  abbrev Then : Event → Kept → Type 0
  Then event after = Agrees (event ∷ past) after

  to : (event : Event) (after it : Kept) → after ≡ it → Then event it → Then event after
  to event after it e j = let F : Kept → Type 0 = λ z. Then event z in subst F (sym e) j

  -- nothing is offered
  at_rest : offers past ≡ [] → a.gone ++ k.inside ≡ items_of (stored past)
  at_rest e = a.row ∙ ap items_of (ap (λ z. stored past ++ z) e ∙ append-nil (stored past))

  open_begins : (items : List ℕ) → k.put ≡ Free → k.shut ≡ false → Then (PutBegin items) (kept (k.inside ++ items) (Offers (length items) (length k.inside)) k.take false)
  open_begins items free open' = grind (arith, as_put, or_parts, map, length, append_assoc, at_rest, items_offered, items_both, length-map, long, both)

  -- a put that begins when the queue is known to be closed begins after the end of a close
  pub is_late : k.put ≡ Free → k.shut ≡ true → has_ended past ≡ true
  is_late free shut = elim (one_of (has_ended past) (has_told past) (sym shut ∙ a.shut)) [ inl g ↦ g | inr g ↦ sym (as_put Free free).1 ∙ (a.told g).1 ]

  late_begins : (items : List ℕ) → k.put ≡ Free → k.shut ≡ true → Then (PutBegin items) (kept k.inside (Late (length items)) k.take true)
  late_begins items free shut = grind (arith, as_put, is_late, map, length)

  put_ends : (reply : Reply ℕ) (n inside : ℕ) → k.put ≡ Offers n inside → passed 0 reply ≤ n → n - passed 0 reply ≤ length k.inside → Then (PutEnd reply) (kept (without (n - passed 0 reply) k.inside) Free k.take k.shut)
  put_ends reply n inside e fewer some = grind (arith, as_put, both, not_more, ends, ended_grows)

  late_ends : (reply : Reply ℕ) (n : ℕ) → k.put ≡ Late n → Then (PutEnd reply) (kept k.inside Free k.take k.shut)
  late_ends reply n e = grind (arith, as_put, map, take, take-nil, append-nil, at_rest, length)

  close_begins : k.put ≡ Free → Then CloseBegin (kept k.inside (Closes k.shut) k.take k.shut)
  close_begins e = grind (arith, as_put)

  close_ends : (again : Bool) → k.put ≡ Closes again → Then CloseEnd (kept k.inside Free k.take true)
  close_ends again e = grind (arith, as_put)

  take_begins : (wanted : ℕ) → Then (TakeBegin wanted) (kept k.inside k.put (Waits wanted (length k.inside - offered_by k.put) k.shut) k.shut)
  take_begins wanted = grind (arith, long, offered_is)

  takes : (reply : Reply (List ℕ)) → is_shut reply ≡ false → AreNext (passed [] reply) k.inside → Then (TakeEnd reply) (kept (drop (length (passed [] reply)) k.inside) k.put Rests k.shut)
  takes reply open' (rest, e) = grind (arith, drop-append_seam (passed [] reply) rest, append_assoc, length-append a.gone (passed [] reply), length-append (taken past) (map (taken_at (line_behind past)) (passed [] reply)), length-map (passed [] reply) (taken_at (line_behind past)), told_on reply past, length-append (passed [] reply) rest)

  begun_fits :
      (put : PutTurn) (shut : Bool) → PutAgrees past put →
      shut ≡ (has_ended past || has_told past) → has_closed put shut ≡ true → has_begun past ≡ true
  begun_fits put shut f e g = grind (arith, one_of)

  pub begun_is : has_closed k.put k.shut ≡ true → has_begun past ≡ true
  begun_is g = begun_fits k.put k.shut a.put_fits a.shut g

  closing_fits : (put : PutTurn) (shut : Bool) → PutAgrees past put → shut ≡ (has_ended past || has_told past) → has_begun past ≡ true → has_closed put shut ≡ true
  closing_fits put shut f e g = grind (arith, or_left, both)

  pub closing : has_begun past ≡ true → has_closed k.put k.shut ≡ true
  closing g = closing_fits k.put k.shut a.put_fits a.shut g

  -- each event that can be counted
  pub step : (capacity : Capacity) (event : Event) (after : Kept) → Counts capacity k event after → Agrees (event ∷ past) after
  step capacity (PutBegin items) after (free, some, begins) = grind (arith, to, open_begins, late_begins)
  step capacity (PutEnd reply) after ends' = elim ends' [
    | inl (n, inside, is, open', within, lacks, fits) ↦ to (PutEnd reply) after _ fits.1 (put_ends reply n inside is (few (λ n. n) 0 reply n refl within) fits.0.0)
    | inr (n, is, none, e) ↦ to (PutEnd reply) after _ e (late_ends reply n is)
  ]
  step capacity CloseBegin after (free, e) = to CloseBegin after _ e (close_begins free)
  step capacity CloseEnd after (again, is, e) = to CloseEnd after _ e (close_ends again is)
  step capacity (TakeBegin wanted) after (rests, some, e) = to (TakeBegin wanted) after _ e (take_begins wanted)
  step capacity (TakeEnd reply) after (wanted, before, closed, is, ends') = grind (arith, to, takes, shut_is, length, append-nil, begun_is)

-- before the first event
pub at_first : Agrees [] (kept [] Free Rests false)
at_first = record { gone = []; row = refl; count = refl; put_fits = (refl, refl); take_fits = refl; shut = refl; told = λ g. both (([] ≡ []) × (false ≡ true)) false g refl; ended = λ g. g; steady = λ g. omega arith }

-- the past with one more event, and with events after a past
pub turned : (h : List Event) (event : Event) → reverse (h ++ event ∷ []) ≡ event ∷ reverse h
turned h event = reverse-append h (event ∷ [])

pub turned_behind : (first : Event) (events past : List Event) → reverse (first ∷ events) ++ past ≡ reverse events ++ (first ∷ past)
turned_behind first events past = ap (λ z. z ++ past) (reverse-append (first ∷ []) events) ∙ append_assoc (reverse events) (first ∷ []) past
