-- How many items are counted, call by call.
use Rattle.std.proofs.Common.{◌≡◌, ℕ, ◌+◌, ◌-◌, Bool, nat_lt, nat_le, if◌then◌else◌, List, [], ◌∷◌, ◌++◌, length, refl, arith, length-append}
use Rattle.ring_core.proofs.Common.{Shape, Made, Count, first_count}
use Rattle.ring_core.specs.Puts.{Put, Puts, stored_after, put_phrase}
use Rattle.ring_core.specs.Takes.{Take, Item, ItemAfterClose, Empty, Takes, count_after, words_read, accesses_before_word, take_phrase}
use Rattle.ring_core.specs.Items.{events_in, gathered, take_begun, all_put}
use Rattle.ring_core.specs.CallsAt.{stored_by, items_ended, puts_ended, takes_begun}

-- how many items a take takes
abbrev pub taken_by : Take → ℕ
taken_by (Item seen items) = length items
taken_by (ItemAfterClose seen again items) = length items
taken_by (Empty seen) = 0

-- the accesses of a take of items, starting at this count, up to its count write
abbrev pub take_before_count : Shape → Count → Take → List Made
take_before_count shape c (Item seen items) = accesses_before_word (Item seen items) ++ words_read shape c.number items
take_before_count shape c (ItemAfterClose seen again items) = accesses_before_word (ItemAfterClose seen again items) ++ words_read shape c.number items
take_before_count shape c (Empty seen) = accesses_before_word (Empty seen)

-- how many items are stored by the puts that have ended within the first t events
abbrev pub stored_ended : Shape → Count → List Put → ℕ → ℕ
stored_ended shape c [] t = 0
stored_ended shape c (x ∷ puts) t =
    (if nat_le (events_in (put_phrase shape c x)) t then stored_by x else 0) + stored_ended shape (stored_after shape c x) puts (t - events_in (put_phrase shape c x))

abbrev pub taken_begun : Shape → Count → List Take → ℕ → ℕ
taken_begun shape c [] t = 0
taken_begun shape c (x ∷ takes) t =
    (if nat_lt (events_in (take_before_count shape c x)) t then taken_by x else 0) + taken_begun shape (count_after shape c x) takes (t - events_in (take_phrase shape c x))

-- ---- they are the lengths of the items that are gathered

abbrev items_begun : Shape → Count → List Take → ℕ → List ℕ
items_begun shape = gathered (take_begun shape) (take_phrase shape) (count_after shape)

length_if : (b : Bool) (xs ys : List ℕ) (n m : ℕ) → length xs ≡ n → length ys ≡ m → length ((if b then xs else []) ++ ys) ≡ (if b then n else 0) + m
length_if b xs ys n m e f = grind (arith, length-append)

one_put : (x : Put) → length (all_put (x ∷ [])) ≡ stored_by x
one_put x = grind (arith, length-append)

ended_are : (shape : Shape) (c : Count) (puts : List Put) (t : ℕ) → length (items_ended shape c puts t) ≡ stored_ended shape c puts t
ended_are shape c [] t = refl
ended_are shape c (x ∷ puts) t = grind (arith, length_if, one_put, ended_are shape (stored_after shape c x) puts (t - (events_in (put_phrase shape c x))))

pub puts_ended_is : (shape : Shape) (calls : Puts) (t : ℕ) → puts_ended shape calls t ≡ stored_ended shape first_count calls.puts t
puts_ended_is shape calls t = ended_are shape first_count calls.puts t

pub none_or : (b : Bool) (n : ℕ) → n ≡ (if b then 0 else 0) + n
none_or b n = grind arith

begun_are : (shape : Shape) (c : Count) (takes : List Take) (t : ℕ) → length (items_begun shape c takes t) ≡ taken_begun shape c takes t
begun_are shape c [] t = refl
begun_are shape c (Item seen items ∷ takes) t =
    grind (arith, length_if, begun_are shape (count_after shape c (Item seen items)) takes (t - (events_in (take_phrase shape c (Item seen items)))))
begun_are shape c (ItemAfterClose seen again items ∷ takes) t =
    grind (arith, length_if, begun_are shape (count_after shape c (ItemAfterClose seen again items)) takes (t - (events_in (take_phrase shape c (ItemAfterClose seen again items)))))
begun_are shape c (Empty seen ∷ takes) t = search (arith, none_or, begun_are shape (count_after shape c (Empty seen)) takes (t - (events_in (take_phrase shape c (Empty seen)))))

pub takes_begun_is : (shape : Shape) (calls : Takes) (t : ℕ) → takes_begun shape calls t ≡ taken_begun shape first_count calls.takes t
takes_begun_is shape calls t = begun_are shape first_count calls.takes t
