-- The steps of an end of a counter ring, one after the other: its stores of several items, and its loads.
use Rattle.std.proofs.Common.{◌≡◌, ℕ, suc, ◌+◌, ◌%◌, ◌<◌, List, [], ◌∷◌, ◌++◌, length, take, slice_index, ap, sym, subst, ◌∙◌, arith, append_assoc, ◌^◌, length-append}
use Rattle.ring_seats.proofs.Common.{suc-mod, Shape, Side, P, C, Event, capacity_of, width_of, AllFit, Made, events_of, word_write, word_read, words_phrase, Ring, RingEnd, Follows, Stands, GrowsBy}
use Rattle.ring_seats.proofs.Common.{words_read}
use Rattle.ring_seats.specs.Steppers.{IsSameEnd, StandsAs}
use Rattle.ring_seats.proofs.Blocks.{follows_shorter, events_of-append}
use Rattle.ring_seats.proofs.CounterPuts.{words_more, words_begin}
use Rattle.ring_core.proofs.LawLemmas.{words_by_one_more_fit, words_by_one_more_go_on, words_by_one_more_words}

pub same_shape : (a b : RingEnd) → IsSameEnd a b → b.ring.shape ≡ a.ring.shape
same_shape a b s = ap (λ (r : Ring). r.shape) s.ring

pub same_end : (a b c : RingEnd) → IsSameEnd a b → IsSameEnd b c → IsSameEnd a c
same_end a b c s t = record { ring = t.ring ∙ s.ring; side = t.side ∙ s.side; known = t.known ∙ s.known }

pub stands_as : (a b : RingEnd) (x : Side) → IsSameEnd a b → a.side ≡ x → Stands b.ring.shape b.side b.list b.known → StandsAs x b
stands_as a b x same side stands = subst (λ (s : Side). Stands b.ring.shape s b.list b.known) (same.side ∙ side) stands

-- ---- the stores of several items

module _ (a : RingEnd) (cell : ℕ) (items : List ℕ) (side : a.side ≡ P) where
  module _ (b : RingEnd) (i place : ℕ) (g : GrowsBy a b (words_phrase a.ring.shape cell (take i items))) (lt : i < length items) (is : place ≡ (cell + i) % capacity_of a.ring.shape) where
    so_far : b.list ≡ a.list ++ events_of P (words_phrase a.ring.shape cell (take i items))
    so_far = g.list ∙ ap (λ (s : Side). a.list ++ events_of s (words_phrase a.ring.shape cell (take i items))) side

    one_more : b.list ++ events_of P (word_write (width_of a.ring.shape) place (slice_index items i)) ≡ a.list ++ events_of P (words_phrase a.ring.shape cell (take (suc i) items))
    one_more = grind (arith, append_assoc, events_of-append, so_far, words_more)

    pub next_store : Follows a.ring.shape P (a.list ++ events_of P (words_phrase a.ring.shape cell items)) → Follows b.ring.shape P (b.list ++ events_of P (word_write (width_of b.ring.shape) place (slice_index items i)))
    next_store f =
        let some : List Made = words_phrase a.ring.shape cell (take (suc i) items) in
        let rest = words_begin a.ring.shape items cell (suc i) in
        let whole : a.list ++ events_of P (words_phrase a.ring.shape cell items) ≡ (a.list ++ events_of P some) ++ events_of P rest.0 =
        ap (λ (l : List Made). a.list ++ events_of P l) (sym rest.1) ∙ (ap (λ (l : List Event). a.list ++ l) (events_of-append P some rest.0) ∙ sym (append_assoc a.list (events_of P some) (events_of P rest.0))) in
        subst (λ (s : Shape). Follows s P (b.list ++ events_of P (word_write (width_of s) place (slice_index items i)))) (sym (same_shape a b g.same))
        (subst (Follows a.ring.shape P) (sym one_more) (follows_shorter a.ring.shape P (a.list ++ events_of P some) (events_of P rest.0) (subst (Follows a.ring.shape P) whole f)))

    pub stored_one : (c : RingEnd) → GrowsBy b c (word_write (width_of b.ring.shape) place (slice_index items i)) → GrowsBy a c (words_phrase a.ring.shape cell (take (suc i) items))
    stored_one c h = grind (arith, one_more, same_end, same_shape)

-- the place of the next cell
pub next_place : (cell i place next size : ℕ) → place ≡ (cell + i) % size → next ≡ suc place % size → next ≡ (cell + suc i) % size
next_place cell i place next size is e = grind (arith, (suc-mod (cell + i) size))

-- the loads of several items, one cell after the other
module _ (a : RingEnd) (cell : ℕ) (side : a.side ≡ C) where
  module _ (b : RingEnd) (place : ℕ) (items : List ℕ) (g : GrowsBy a b (words_read a.ring.shape cell items)) (is : place ≡ (cell + length items) % capacity_of a.ring.shape) where
    loads_so_far : b.list ≡ a.list ++ events_of C (words_read a.ring.shape cell items)
    loads_so_far = g.list ∙ ap (λ (s : Side). a.list ++ events_of s (words_read a.ring.shape cell items)) side

    one_load_more : (item : ℕ) → b.list ++ events_of C (word_read (width_of a.ring.shape) place item) ≡ a.list ++ events_of C (words_read a.ring.shape cell (items ++ item ∷ []))
    one_load_more item = grind (arith, append_assoc, events_of-append, loads_so_far, words_by_one_more_words)

    -- the next of a number of loads, whatever the later ones may load
    pub next_load :
        (wanted item : ℕ) → length items < wanted → AllFit a.ring.shape items → item < 2 ^ width_of b.ring.shape →
        ((all : List ℕ) → length all ≡ wanted → AllFit a.ring.shape all → Follows a.ring.shape C (a.list ++ events_of C (words_read a.ring.shape cell all))) →
        Follows b.ring.shape C (b.list ++ events_of C (word_read (width_of b.ring.shape) place item))
    next_load wanted item lt fit small program =
        let shape : Shape = a.ring.shape in
        let some : List ℕ = items ++ item ∷ [] in
        let last : item < 2 ^ width_of a.ring.shape = subst (λ (s : Shape). item < 2 ^ width_of s) (same_shape a b g.same) small in
        let (all, long, fits, (rest, begins)) = words_by_one_more_go_on shape cell wanted some (omega (arith, lt, length-append items (item ∷ []))) (words_by_one_more_fit shape items item fit last) in
        let more : List Event = events_of C rest in
        let whole : a.list ++ events_of C (words_read shape cell all) ≡ (a.list ++ events_of C (words_read shape cell some)) ++ more =
        ap (λ (l : List Made). a.list ++ events_of C l) (sym begins) ∙
        (ap (λ (l : List Event). a.list ++ l) (events_of-append C (words_read shape cell some) rest) ∙
        sym (append_assoc a.list (events_of C (words_read shape cell some)) more)) in
        subst (λ (s : Shape). Follows s C (b.list ++ events_of C (word_read (width_of s) place item))) (sym (same_shape a b g.same))
        (subst (Follows shape C) (sym (one_load_more item))
        (follows_shorter shape C (a.list ++ events_of C (words_read shape cell some)) more
        (subst (Follows shape C) whole (program all long fits))))

    pub loaded_one : (c : RingEnd) (item : ℕ) → GrowsBy b c (word_read (width_of b.ring.shape) place item) → GrowsBy a c (words_read a.ring.shape cell (items ++ item ∷ []))
    loaded_one c item h = grind (arith, one_load_more, same_end, same_shape)
