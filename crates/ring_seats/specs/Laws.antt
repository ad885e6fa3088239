-- What a caller of the seats may rely on.
use Rattle.std.specs.Prelude.{◌≡◌, ℕ, ◌%◌, ◌<◌, List, length, slice_index}
use Rattle.bits_core.specs.declared.shapes.Shape.{Shape}
use Rattle.bits_core.specs.declared.events.Side.TheVariants.{P, C}
use Rattle.bits_core.specs.declared.events.Event.{Event}
use Rattle.bits_core.specs.Shape.{modulus_of}
use Rattle.bits_core.specs.Made.{subhistory}
use Rattle.ring_core.specs.Puts.{Puts}
use Rattle.ring_core.specs.Takes.{Takes}
use Rattle.ring_core.specs.Items.{all_put, all_taken}
use Rattle.ring_seats.specs.Calls.{HasPuts, HasTakes}
use Rattle.ring_seats.specs.Counters.{count_place, ShowsWords, words_of}

-- words of a counter ring that show one history are the same
abbrev pub WordsAreTold : Type 0
WordsAreTold =
    (shape : Shape) (words others : List ℕ) (h : List Event) → ShowsWords shape words h → ShowsWords shape others h →
    (place : ℕ) → place < words_of shape → slice_index words place ≡ slice_index others place

-- if the producer's events are those of complete calls, the word of its count is the number of items these put, modulo the modulus
abbrev pub PutsAreShown : Type 0
PutsAreShown =
    (shape : Shape) (words : List ℕ) (h : List Event) (calls : Puts) → ShowsWords shape words h → HasPuts shape (subhistory P h) calls →
    slice_index words (count_place P) ≡ length (all_put calls.puts) % modulus_of shape

-- the same for the consumer: the number of items taken
abbrev pub TakesAreShown : Type 0
TakesAreShown =
    (shape : Shape) (words : List ℕ) (h : List Event) (calls : Takes) → ShowsWords shape words h → HasTakes shape (subhistory C h) calls →
    slice_index words (count_place C) ≡ length (all_taken calls.takes) % modulus_of shape
