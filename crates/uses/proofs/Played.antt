-- What a play's report implies about its items.
use Rattle.std.proofs.Common.{◌+◌, ◌≡◌, ◌↔◌, ◌≤◌, ◌∙◌, Bool, true, List, ap, length, subst, sym, ℕ}
use Rattle.bits_core.specs.declared.events.Side.{Side}
use Rattle.bits_core.specs.declared.events.Side.TheVariants.{P, C}
use Rattle.bits_core.specs.declared.events.Event.{Event}
use Rattle.bits_core.specs.Made.{IsPrefix}
use Rattle.bits_core.proofs.Places.{prefix_no_longer}
use Rattle.ring_core.specs.Counts.{first_count}
use Rattle.ring_core.specs.Puts.{Puts, FollowsPuts}
use Rattle.ring_core.specs.Takes.{Takes, FollowsTakes}
use Rattle.ring_core.specs.Items.{items_put, items_put_in, items_taken, items_taken_in, ToldIn}
use Rattle.ring_player.specs.Headline.{IsPlayOf}
use Rattle.ring_player.specs.Plays.{HasFlickers}
use Rattle.ring_script.specs.Content.{Content}
use Rattle.ring_script.specs.Script.{IsScript}
use Rattle.uses.specs.Plays.{LeavesInside, TakesSoMany}
use Rattle.ring_core.proofs.OwnEvents.{clock_end as clock_at_end}

-- no more items were taken than put
pub play_within :
    (script : Content) (letters : List Side) (h : List Event) → IsPlayOf script letters h → (put taken : List ℕ) →
    ((puts : Puts) → FollowsPuts script.shape h puts → put ≡ items_put_in script.shape h puts) →
    ((takes : Takes) → FollowsTakes script.shape h takes → taken ≡ items_taken_in script.shape h takes) → length taken ≤ length put
play_within script letters h is put taken put_is taken_is =
    let p = is.plays.played.puts in
    let t = is.plays.played.takes in
    let puts : FollowsPuts script.shape h p.0 = record { are = p.1.are; events = p.2 } in
    let takes : FollowsTakes script.shape h t.0 = record { are = t.1.0; events = t.2 } in
    let prefix = (is.headline p.0 t.0 puts takes).prefix (length h) in
    let of_put = ap (items_put script.shape first_count p.0.puts) (clock_at_end P h) ∙ sym (put_is p.0 puts) in
    let of_taken = ap (items_taken script.shape first_count t.0.takes) (clock_at_end C h) ∙ sym (taken_is t.0 takes) in
    prefix_no_longer taken put (subst (λ (z : List ℕ × List ℕ). IsPrefix z.0 z.1) (λ i. (of_taken i, of_put i)) prefix)

-- as many are left as were put and not taken
pub play_leaves :
    (text : List ℕ) (script : Content) (h : List Event) (left flickers : ℕ) → IsScript text script → IsPlayOf script script.letters h → HasFlickers h flickers → (put taken : List ℕ) →
    ((puts : Puts) → FollowsPuts script.shape h puts → put ≡ items_put_in script.shape h puts) →
    ((takes : Takes) → FollowsTakes script.shape h takes → taken ≡ items_taken_in script.shape h takes) → length taken + left ≡ length put → LeavesInside text left flickers
play_leaves text script h left flickers is_script plays flickers_are put taken put_is taken_is sum = record {
  script = script;
  is_script = is_script;
  history = h;
  plays = plays;
  left_is = λ puts takes p t. ap (λ (l : List ℕ). length l + left) (sym (taken_is takes t)) ∙ sum ∙ ap length (put_is puts p);
  flickers_are = flickers_are;
}

pub play_takes :
    (text : List ℕ) (script : Content) (h : List Event) (told : Bool) → IsScript text script → IsPlayOf script script.letters h → (taken : List ℕ) (n : ℕ) → n ≡ length taken →
    ((takes : Takes) → FollowsTakes script.shape h takes → taken ≡ items_taken_in script.shape h takes) →
    ((takes : Takes) → FollowsTakes script.shape h takes → (told ≡ true) ↔ ToldIn script.shape h takes) → TakesSoMany text n told
play_takes text script h told is_script plays taken n long taken_is told_is = record {
  script = script;
  is_script = is_script;
  history = h;
  plays = plays;
  taken_is = λ takes t. long ∙ ap length (taken_is takes t);
  told_is = told_is;
}
