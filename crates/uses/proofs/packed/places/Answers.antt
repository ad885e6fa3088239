use Rattle.std.proofs.Common.{◌≡◌, ◌+◌, ℕ, List, [], ◌∷◌, ◌++◌, length, refl, ap, sym, ◌∙◌, subst, arith}
use Rattle.std.specs.Prelude.{slice_index}
use Rattle.std.proofs.lemmas.List.{length-append}
use Rattle.bits_core.specs.Shape.{AllFit}
use Rattle.uses.proofs.Packing.{counts_on}
use Rattle.uses.proofs.Passing.{fit_snoc}
use Rattle.uses.proofs.packed.places.Goals as goal

pub places-preserved : goal.places-preserved
places-preserved g c =
    let i = c.places.invariant in
    let old : List ℕ = c.places.all.items in
    let n : ℕ = c.places.place in
    let items : c.push.new.self.items ≡ old ++ n ∷ [] = c.in_ok-push.ensures.items in
    let zero_on : 0 + n ≡ n = omega arith in (
      omega (arith, ap length items, length-append old (n ∷ []), i.0),
      (λ k lt. ap (λ (l : List ℕ). slice_index l k) (items ∙ ap (λ (z : ℕ). old ++ z ∷ []) (sym zero_on)) ∙
          counts_on old 0 n i.0 (λ j below. i.1 j below ∙ (let e : j ≡ 0 + j = omega arith in e)) k (omega (arith, lt)) ∙ (let e : 0 + k ≡ k = omega arith in e)),
      subst (AllFit c.args.shape.now) (sym items) (fit_snoc c.args.shape.now old n i.2 (omega (arith, c.places-test.true, c.requires))),
      refl,
    )
