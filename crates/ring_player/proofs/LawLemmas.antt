-- The laws of src/laws.rt as lemmas, each under its name, and two more that only proofs need: cited by proofs, here and in the
-- crates above.
use Rattle.std.specs.Prelude.{◌≡◌, ℕ, ◌+◌, Bool, true, false, List, [], ◌∷◌, ◌++◌}
use Rattle.ring_player.proofs.Common.{ReadEnd, Event, Shape, IsLawful, turn, IsRun, IsAtTurn}
use Rattle.bits_core.specs.Memory.{is_flicker}
use Rattle.ring_core.proofs.LawLemmas.{closed_stays, items_put_are_read, ring_law_closed, ring_law_empty, ring_law_fill, ring_law_full, ring_law_items, ring_law_prefix, ring_law_words}
use Rattle.ring_player.specs.Headline.{EveryPlayFills, EveryPlayHolds}
use Rattle.ring_player.specs.Plays.{AreInTurn}
use Rattle.ring_player.proofs.Fillings.{fills}
use Rattle.ring_player.proofs.Flickers.{in_turn}
use Rattle.ring_player.proofs.Headlines.{put_all_items}
use Rattle.ring_player.proofs.Turns.{more}
pub use Rattle.ring_player.proofs.Flickers.{counted_by_marks as flickers_are_counted}

pub every_play_holds : EveryPlayHolds
every_play_holds script letters h plays puts takes p q =
    let run : IsRun script.shape h puts takes = record { lawful = plays.played.lawful; puts_follow = p; takes_follow = q } in
    record {
      prefix = ring_law_prefix script.shape h puts takes run;
      once = ring_law_items script.shape h puts takes run;
      words = ring_law_words script.shape h puts takes run;
      empty = ring_law_empty script.shape h puts takes run;
      full = ring_law_full script.shape h puts takes run;
      closed = ring_law_closed script.shape h puts takes run;
      all = put_all_items ring_law_closed items_put_are_read script letters h plays puts takes p q;
      stays = λ h' puts' takes' run' begins told. closed_stays script.shape h h' puts puts' takes takes' run run' begins told;
    }

pub every_play_fills : EveryPlayFills
every_play_fills = fills ring_law_fill

-- the overlapped reads so far were answered in turn, with one more event: if it ends such a read, it has the oracle's next answer
abbrev pub TurnsGoOn : Type 0
TurnsGoOn =
    (turns before after : ℕ → Bool) (h : List Event) (e : Event) → IsAtTurn turns h before → (is_flicker h e ≡ false → (i : ℕ) → after i ≡ before i) →
    (is_flicker h e ≡ true → ((v : Bool) → e.act ≡ ReadEnd v → v ≡ before 0) × ((i : ℕ) → after i ≡ before (i + 1))) → IsAtTurn turns (h ++ e ∷ []) after

pub turns_go_on : TurnsGoOn
turns_go_on = more

-- answers that are in turn by the marks of a memory are in turn by intervals
abbrev pub TurnsAreByInterval : Type 0
TurnsAreByInterval = (shape : Shape) (h : List Event) (oracle : List Bool) (answers : ℕ → Bool) → IsLawful shape h → IsAtTurn (turn oracle) h answers → AreInTurn oracle h

pub turns_are_by_interval : TurnsAreByInterval
turns_are_by_interval shape h oracle answers lawful = in_turn shape h lawful oracle answers
