-- What was taken so far, and whether a take returned Closed, by the calls whose accesses begin with these events.
use Rattle.std.proofs.Common.{◌≡◌, ℕ, suc, ◌+◌, ◌*◌, ◌%◌, ◌<◌, ◌≤◌, ◌↔◌, Bool, true, false, Option, Some, None, List, [], ◌∷◌, ◌++◌, length, refl, sym, ap, subst, ◌∙◌, arith, append_assoc, append-nil, length-append, IsTrue}
use Rattle.ring_audit.proofs.Common.{C, Access, Event, Shape, capacity_of, width_of, Made, answered, end_event, events_of, IsPrefix, opening_event, TakeReply, Count, first_count, ConsumerState}
use Rattle.ring_audit.proofs.Common.{due_take, is_taking, open_events, events_of-append, length-events}
use Rattle.ring_core.specs.declared.replies.TakeReply.TheVariants as replies
use Rattle.register_core.specs.Word.{word_read}
use Rattle.ring_core.specs.Takes.{Take, Item, ItemAfterClose, Empty, Takes, count_after, words_read, take_phrase, take_phrases, end_phrase, take_program, AreTakes}
use Rattle.ring_core.specs.Items.{taken_of, all_taken, events_in, items_taken, IsTold}
use Rattle.ring_core.specs.ConsumerCalls.{ConsumerStands, HasTakeMore, TakeGoesOn, IsReplyToTake, items_reply, last_take_reply}
use Rattle.ring_audit.specs.TakeReading.{TakeReading, IsTakeReading, TakesStand, WereTaken, tells_closed}
use Rattle.register_core.proofs.Digits.{length-reads}
use Rattle.ring_core.proofs.Readings.Over.{over-under_way, taken-over, taken_all}
use Rattle.ring_core.proofs.Machines.GoingOn.{access_back}
use Rattle.ring_audit.proofs.Readers.{open-short, open-long}
use Rattle.ring_audit.proofs.Beginnings.{begin_is}
use Rattle.ring_audit.proofs.TakeReads.{front_at}

-- ---- items

pub events_in-append : (xs ys : List Made) → events_in (xs ++ ys) ≡ events_in xs + events_in ys
events_in-append xs ys = omega (arith, length-append xs ys)

-- ---- replies

some-not_closed : (items : List ℕ) → tells_closed (Some (items_reply items)) ≡ false
some-not_closed items = grind arith

last-not_closed : (first : Option TakeReply) (xs : List Take) → tells_closed first ≡ false → tells_closed (last_take_reply first xs) ≡ false
last-not_closed first [] e = e
last-not_closed first (Item seen items ∷ xs) e = last-not_closed (Some (items_reply items)) xs (some-not_closed items)
last-not_closed first (ItemAfterClose seen again items ∷ xs) e = last-not_closed (Some (items_reply items)) xs (some-not_closed items)
last-not_closed first (Empty seen ∷ xs) e = last-not_closed (Some replies.Empty) xs refl

abbrev SaysTold : Bool → Type 0 → Type 0
SaysTold b told = IsTrue b ↔ told

says_not : (b : Bool) (told : Type 0) → b ≡ false → (told → ⊥) → SaysTold b told
says_not b told e no_one = grind arith

-- ---- the take under way

-- no item is brought before it has ended
taken-under_way :
    (shape : Shape) (wanted : ℕ) (calls more : Takes) (t : ℕ) → HasTakeMore shape wanted calls more → events_in (take_phrases shape first_count calls.takes) ≤ t →
    t < events_in (take_program shape more) → all_taken calls.takes ≡ items_taken shape first_count more.takes t
taken-under_way shape wanted calls more t has reached not_ended =
    sym (taken-over shape first_count more.takes t ∙ ap all_taken (over-under_way shape wanted calls more t has reached not_ended))

-- they are a prefix of the events of a list that continues with the access
open_begins :
    (made rest : List Made) (a : Access) (o : Option Access) → ((b : Access) → o ≡ Some b → b ≡ a) →
    IsPrefix (events_of C made ++ open_events C o) (events_of C (made ++ answered a true ∷ rest))
open_begins made rest a None same = (
  events_of C (answered a true ∷ rest),
  ap (λ l. l ++ events_of C (answered a true ∷ rest)) (append-nil (events_of C made)) ∙ sym (events_of-append C made (answered a true ∷ rest)),
)
open_begins made rest a (Some b) same = (
  end_event C (answered a true) ∷ events_of C rest,
  append_assoc (events_of C made) (opening_event C b ∷ []) (end_event C (answered a true) ∷ events_of C rest)
      ∙ ap (λ z. events_of C made ++ opening_event C z ∷ end_event C (answered a true) ∷ events_of C rest) (same b refl)
      ∙ ap (λ z. events_of C made ++ z ∷ end_event C (answered a true) ∷ events_of C rest) (sym (begin_is C (answered a true) ∙ ap (opening_event C) (access_back a true)))
      ∙ sym (events_of-append C made (answered a true ∷ rest)),
)

-- ---- both

taken_at :
    (shape : Shape) (p : ConsumerState) (o : Option Access) (es : List Event) (items : List ℕ) (due : Option Access) (reply : Option TakeReply) →
    (st : TakesStand shape (record { consumer = p; open_access = o }) es items) → ((a : Access) → o ≡ Some a → due ≡ Some a) →
    ((a : Access) → due ≡ Some a → (is_taking p ≡ true) × TakeGoesOn shape p.wanted st.calls st.made a) →
    (due ≡ None → (is_taking p ≡ false) × (st.made ≡ take_program shape st.calls)) → IsReplyToTake st.calls (is_taking p) reply → WereTaken shape es items (tells_closed reply)
taken_at shape p o es items None reply st is_due goes rests replied =
    let (idle, made_is) = rests refl in
    let answers : IsReplyToTake st.calls false reply = subst (λ b. IsReplyToTake st.calls b reply) idle replied in
    let program : List Made = take_program shape st.calls in
    let es_is : es ≡ events_of C program = grind (arith, append-nil) in
    let long : length es ≡ events_in program = ap length es_is ∙ length-events C program in
    let phrases : List Made = take_phrases shape first_count st.calls.takes in
    let reached : events_in phrases ≤ length es = omega (arith, long, length-append phrases (end_phrase st.calls.end)) in
    record {
      calls = st.calls;
      are = subst (λ s. AreTakes s 0 st.calls.takes st.calls.end) st.shape_is st.stands.are;
      events = ([], append-nil es ∙ es_is);
      taken = st.items_are ∙ sym (taken_all shape first_count st.calls.takes (length es) reached);
      told_is = grind (arith, says_not, last-not_closed);
    }
  where
    no_open : (z : Option Access) → ((a : Access) → z ≡ Some a → None ≡ Some a) → z ≡ None
    no_open None f = refl
    no_open (Some a) f = let clash : None ≡ Some a = f a refl in absurd (cc)
taken_at shape p o es items (Some a) reply st is_due goes rests replied =
    let (is, on) = goes a refl in
    let answers : IsReplyToTake st.calls true reply = subst (λ b. IsReplyToTake st.calls b reply) is replied in
    let (more, has, (rest, f)) = on true (λ last. refl) in
    let program : take_program shape more ≡ st.made ++ answered a true ∷ rest = sym f ∙ append_assoc st.made (answered a true ∷ []) rest in
    let same : (b : Access) → o ≡ Some b → b ≡ a = λ b e. (let both : Some a ≡ Some b = is_due b e in cc) in
    let upper : length es ≤ suc (2 * length st.made) = subst (λ l. length l ≤ suc (2 * length st.made)) (sym st.events_are) (open-short C st.made o) in
    let lower : 2 * length st.made ≤ length es = subst (λ l. 2 * length st.made ≤ length l) (sym st.events_are) (open-long C st.made o) in
    let (part, front) = front_at p.stage p st.calls st.made st.stands.made_is in
    let front_is : st.made ≡ take_phrases shape first_count st.calls.takes ++ part = front ∙ ap (λ s. take_phrases s first_count st.calls.takes ++ part) st.shape_is in
    let reached : events_in (take_phrases shape first_count st.calls.takes) ≤ length es = grind (arith, length-append) in
    let not_ended : length es < events_in (take_program shape more) = search (arith, length-append) in
    record {
      calls = more;
      are = has.are;
      events = grind (arith, open_begins st.made rest a o same);
      taken = st.items_are ∙ taken-under_way shape p.wanted st.calls more (length es) has reached not_ended;
      told_is = says_not (tells_closed reply) (IsTold shape more (length es)) (ap tells_closed answers) (λ told. absurd (omega (arith, told.1, not_ended)));
    }

pub has_taken :
    (p : ConsumerState) (o : Option Access) (due : Option Access) (reply : Option TakeReply) → IsTakeReading (record { consumer = p; open_access = o }) → due ≡ due_take p →
    ((calls : Takes) (made : List Made) (a : Access) → ConsumerStands p calls made → due ≡ Some a → (is_taking p ≡ true) × TakeGoesOn p.shape p.wanted calls made a) →
    ((calls : Takes) (made : List Made) → ConsumerStands p calls made → due ≡ None → (is_taking p ≡ false) × (made ≡ take_program p.shape calls)) →
    ((calls : Takes) (made : List Made) → ConsumerStands p calls made → IsReplyToTake calls (is_taking p) reply) →
    (es : List Event) (items : List ℕ) → TakesStand p.shape (record { consumer = p; open_access = o }) es items → WereTaken p.shape es items (tells_closed reply)
has_taken p o due reply is due_is goes rests replies_so es items st =
    taken_at p.shape p o es items due reply st (λ a e. due_is ∙ is.is_due a e) (λ a e. goes st.calls st.made a st.stands e) (λ e. rests st.calls st.made st.stands e)
    (replies_so st.calls st.made st.stands)

-- ---- how many items

words-long : (shape : Shape) (n : ℕ) (items : List ℕ) → length items ≤ length (words_read shape n items)
words-long shape n [] = omega arith
words-long shape n (item ∷ items) =
    let word : List Made = word_read (width_of shape) (n % capacity_of shape) item in
    omega (arith, words-long shape (suc n) items, length-append word (words_read shape (suc n) items), length-reads (n % capacity_of shape) item (width_of shape), shape.has_digits)

take-long : (shape : Shape) (k : Count) (x : Take) → length (taken_of x) ≤ length (take_phrase shape k x)
take-long shape k x = grind (arith, words-long, length-append)

takes-long : (shape : Shape) (k : Count) (xs : List Take) → length (all_taken xs) ≤ length (take_phrases shape k xs)
takes-long shape k [] = omega arith
takes-long shape k (x ∷ xs) = grind (arith, take-long, length-append, takes-long shape (count_after shape k x) xs)

-- no more items were taken than there are events
pub few_taken : (shape : Shape) (r : TakeReading) (es : List Event) (items : List ℕ) → TakesStand shape r es items → length items ≤ length es
few_taken shape r es items st = grind (arith, front_at, open-long, length-append, takes-long)
