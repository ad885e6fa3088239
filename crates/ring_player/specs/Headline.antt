-- The main theorem, for every play of a script.
use Rattle.std.specs.Prelude.{◌≡◌, ℕ, ◌+◌, ◌<◌, ◌≤◌, List, length}
use Rattle.bits_core.specs.declared.events.Side.{Side}
use Rattle.bits_core.specs.declared.events.Side.TheVariants.{P, C}
use Rattle.bits_core.specs.declared.events.Event.{Event}
use Rattle.bits_core.specs.Made.{IsPrefix, IsPlaceOf, clock, subhistory}
use Rattle.bits_core.specs.Shape.{capacity_of}
use Rattle.ring_core.specs.CallsAt.{IsPutAt, scan_events, takes_ended}
use Rattle.ring_core.specs.Items.{items_put_in, items_taken_in, ToldIn}
use Rattle.ring_core.specs.Puts.{FollowsPuts, Puts, Stored}
use Rattle.ring_core.specs.RingLaw.{ClosedIsTrue, EmptyIsFresh, FullIsFresh, IsRun, TakenArePrefix, TakesMatchPuts, WordsAreQuiet}
use Rattle.ring_core.specs.Takes.{FollowsTakes, Takes}
use Rattle.ring_player.specs.Plays.{ArePutsOf, offered, Plays}
use Rattle.ring_script.specs.Content.{Content}

-- Whatever calls the events of the two sides are read as: the items taken are a prefix of the items put, each taken once, by
-- the take of its number; no word's read overlaps its write; Empty and Full are returned only if the calls ended before
-- require it; once Closed is returned, every item put has been taken, and none comes later.
pub record HeadlineOf (script : Content) (h : List Event) (puts : Puts) (takes : Takes) : Type 0 where
  pub prefix : TakenArePrefix script.shape h puts takes
  pub once : TakesMatchPuts script.shape h puts takes
  pub words : WordsAreQuiet script.shape h puts takes
  pub empty : EmptyIsFresh script.shape h puts takes
  pub full : FullIsFresh script.shape h puts takes
  pub closed : ClosedIsTrue script.shape h puts takes
  pub all : ToldIn script.shape h takes → items_put_in script.shape h puts ≡ script.items
  pub stays :
      (h' : List Event) (puts' : Puts) (takes' : Takes) → IsRun script.shape h' puts' takes' → IsPrefix h h' → ToldIn script.shape h takes →
      (items_put_in script.shape h' puts' ≡ items_put_in script.shape h puts) × (items_taken_in script.shape h' takes' ≡ items_taken_in script.shape h takes)

-- the main theorem holds for the history, whichever calls it is read as
abbrev pub HoldsHeadline : Content → List Event → Type 0
HoldsHeadline script h = (puts : Puts) (takes : Takes) → FollowsPuts script.shape h puts → FollowsTakes script.shape h takes → HeadlineOf script h puts takes

-- the main theorem holds for every play
abbrev pub EveryPlayHolds : Type 0
EveryPlayHolds = (script : Content) (letters : List Side) (h : List Event) → Plays script letters h → HoldsHeadline script h

-- if a put stored fewer items than the world offered it, the items stored up to and including it, less those of takes that had
-- ended when it began, are at least the capacity
abbrev pub FillsRing : Content → List Event → Type 0
FillsRing script h =
    (puts : Puts) (takes : Takes) → ArePutsOf script puts → FollowsPuts script.shape h puts → FollowsTakes script.shape h takes →
    (seen : ℕ) (items : List ℕ) (n start stop : ℕ) → IsPutAt script.shape puts (Stored seen items) n start stop →
    start + scan_events P seen ≤ length (subhistory P h) → length items < length (offered script n) →
    (first : ℕ) × IsPlaceOf P h start first × (takes_ended script.shape takes (clock C h first) + capacity_of script.shape ≤ n + length items)

-- the puts of every play fill the ring
abbrev pub EveryPlayFills : Type 0
EveryPlayFills = (script : Content) (letters : List Side) (h : List Event) → Plays script letters h → FillsRing script h

-- the history is the play of the script by these letters; the main theorem holds for it, and its puts fill the ring
pub record IsPlayOf (script : Content) (letters : List Side) (h : List Event) : Type 0 where
  pub plays : Plays script letters h
  pub headline : HoldsHeadline script h
  pub batches : FillsRing script h
