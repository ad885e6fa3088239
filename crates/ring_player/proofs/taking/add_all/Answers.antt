use Rattle.std.proofs.Common.{◌≡◌, ℕ, List, [], ◌∷◌, ◌++◌, length, take, get_or, refl, sym, ap, ◌∙◌, arith, append_assoc, append-nil}
use Rattle.std.proofs.Math.Seq.{take-length}
use Rattle.std.proofs.lemmas.List.{take_more}
use Rattle.ring_player.proofs.taking.add_all.Goals as goal

pub loop-each-init : goal.loop-each-init
loop-each-init g c = record { added = sym (append-nil (g.T.Store.items c.args.store.now)); room = refl; spare = omega (arith, c.requires) }

pub add-requires : goal.add-requires
add-requires g c = omega (arith, c.loop-each.invariant.spare, c.loop-each-test.true)

pub loop-each-preserved : goal.loop-each-preserved
loop-each-preserved g c =
    let items : List ℕ = c.args.items.now in
    let old : List ℕ = g.T.Store.items c.args.store.now in
    let i : ℕ = c.loop-each.each-index in
    let l = c.loop-each.invariant in
    record {
      added = c.add.ensures.items ∙ ap (λ t. t ++ get_or items i 0 ∷ []) l.added ∙ append_assoc old (take i items) (get_or items i 0 ∷ []) ∙ ap (λ t. old ++ t) (sym (take_more items i 0 c.loop-each-test.true));
      room = c.add.ensures.kept ∙ l.room;
      spare = omega (arith, c.add.ensures.spare, l.spare);
    }

pub returns-clause-items : goal.returns-clause-items
returns-clause-items g c =
    let items : List ℕ = c.args.items.now in
    let end : c.loop-each.each-index ≡ length items = omega (arith, c.loop-each-test.false, c.loop-each.auto) in
    c.loop-each.invariant.added ∙ ap (λ l. g.T.Store.items c.args.store.now ++ l) (ap (λ k. take k items) end ∙ take-length items)
