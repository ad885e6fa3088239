use Rattle.std.proofs.Common.{◌≡◌, ◌<◌, ◌+◌, ◌^◌, ℕ, [], ◌∷◌, ◌++◌, suc, take, refl, ap, sym, ◌∙◌, subst, arith}
use Rattle.std.specs.Prelude.{map}
use Rattle.std.proofs.lemmas.List.{map-append}
use Rattle.std.proofs.Math.Pow.{pow_mono}
use Rattle.bits_core.specs.Shape.{AllFit, width_of}
use Rattle.uses.specs.Reading.{unpacked}
use Rattle.uses.proofs.Packing.{take_next}
use Rattle.uses.proofs.Passing.{fit_snoc}
use Rattle.uses.proofs.packed.pack_all.Goals as goal

pub readings-preserved : goal.readings-preserved
readings-preserved g c =
    let i = c.readings.invariant in
    let items : c.push.new.self.items ≡ c.readings.items.items ++ c.pack.result ∷ [] = c.in_ok-push.ensures.items in
    let below : c.pack.result < 2 ^ width_of c.args.shape.now = omega (arith, c.pack.ensures.fits, pow_mono c.requires.wide) in
    let next : suc c.readings.reading-index ≡ c.readings.reading-index + 1 = omega arith in (
      ap (map unpacked) items ∙ map-append unpacked c.readings.items.items (c.pack.result ∷ []) ∙ (λ j. i.0 j ++ c.pack.ensures.unpacks j ∷ []) ∙
          sym (take_next c.args.readings.now c.readings.reading-index _ c.readings-test.true) ∙ ap (λ (k : ℕ). take k c.args.readings.now) next,
      subst (AllFit c.args.shape.now) (sym items) (fit_snoc c.args.shape.now c.readings.items.items c.pack.result i.1 below),
      refl,
      refl,
    )
