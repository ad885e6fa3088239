use Rattle.std.proofs.Common.{◌≡◌, ◌++◌, ◌∷◌, [], List, ap, ◌∙◌, subst, sym}
use Rattle.bits_core.proofs.Common.{Event, AreMarks, IsRecord, MayFollow}
use Rattle.bits_core.proofs.Flickers.{IsRecord-quiet}
use Rattle.bits_core.proofs.memory.Memory.record.Goals as goal

pub invariant_of-self-2 : goal.invariant_of-self-2
invariant_of-self-2 g c =
    let shape = c.self.inside.shape in
    let h : List Event = g.S.Store.items c.self.inside.events in
    let e : Event = record { side = c.args.side; bit = c.args.bit; act = c.args.act } in
    let follows = subst (λ m. MayFollow m.shape m.events e) (sym c.self.view_is) c.requires.follows in
    let items : h ++ e ∷ [] ≡ g.S.Store.items c.add.new.self = sym (c.add.ensures.items ∙ ap (λ (t : List Event). t ++ e ∷ []) c.in_ok-reserve.ensures.items) in (
      subst (λ (t : List Event). IsRecord shape t c.self.inside.flickers) items (IsRecord-quiet shape h c.self.inside.flickers e c.self.invariant.0 follows c.requires.quiet),
      subst (λ (t : List Event). AreMarks shape t c.record.new.self) items (c.record.ensures shape h c.self.invariant.1 follows),
    )
