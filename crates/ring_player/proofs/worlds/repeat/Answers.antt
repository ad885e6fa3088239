use Rattle.std.proofs.Common.{◌≡◌, ℕ, ◌+◌, List, ◌∷◌, [], ◌++◌, sym, ap, subst, ◌∙◌, append_assoc, arith}
use Rattle.std.specs.Prelude.{replicate}
use Rattle.std.proofs.lemmas.List.{replicate_more}
use Rattle.bits_core.specs.declared.events.Side.{Side}
use Rattle.ring_script.specs.Content.{Content}
use Rattle.ring_player.specs.Plays.{Plays}
use Rattle.ring_player.proofs.worlds.repeat.Goals as goal

pub loop-made-preserved : goal.loop-made-preserved
loop-made-preserved g c =
    let w = c.args.world.now in
    let side : Side = c.args.side in
    let n : ℕ = c.loop-made.made in
    let now = c.loop-made.world in
    let new = c.step.new.self in
    let l = c.loop-made.invariant in
    let same : new.script ≡ w.script = c.in_ok-step.ensures.script ∙ l.0 in
    let plays : (letters : List Side) → Plays w.script letters w.history → Plays w.script (letters ++ replicate (n + 1) side) new.history =
    λ letters before.
    let here : Plays now.script (letters ++ replicate n side) now.history = subst (λ (s : Content). Plays s (letters ++ replicate n side) now.history) (sym l.0) (l.1 letters before) in
    let more : (letters ++ replicate n side) ++ side ∷ [] ≡ letters ++ replicate (n + 1) side = append_assoc letters (replicate n side) (side ∷ []) ∙ ap (λ (t : List Side). letters ++ t) (replicate_more n side) in
    subst (λ (s : Content). Plays s (letters ++ replicate (n + 1) side) new.history) same
    (subst (λ (t : List Side). Plays new.script t new.history) more (c.in_ok-step.ensures.letters (letters ++ replicate n side) here)) in
    (same, plays, c.in_ok-step.ensures.rooms.0 ∙ l.2, c.in_ok-step.ensures.rooms.1 ∙ l.3, omega (arith, c.in_ok-step.ensures.few, l.4))
