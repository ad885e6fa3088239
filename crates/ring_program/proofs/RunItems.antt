-- The items of a run fit its width.
use Rattle.std.proofs.Common.{◌≡◌, ℕ, zero, suc, ◌+◌, ◌<◌, ◌^◌, map, sym, subst, arith}
use Rattle.std.proofs.Math.Nat.{mod-lt}
use Rattle.std.proofs.Math.Pow.{pow_mono}
use Rattle.std.specs.List.{range_with_len}
use Rattle.bits_core.specs.Shape.{AllFit, width_of}
use Rattle.bits_core.specs.declared.shapes.Shape.{Shape}
use Rattle.ring_program.specs.Runs.{run_item, run_items}
use Rattle.ring_program.specs.declared.run_line.Run.{Run}

some_power : (w : ℕ) → 0 < 2 ^ w
some_power w = omega (arith, pow_mono {i = 0} {j = w} (omega arith))

item_fits : (shape : Shape) (w i : ℕ) → width_of shape ≡ w → run_item w i < 2 ^ width_of shape
item_fits shape w i is = subst (λ (n : ℕ). run_item w i < 2 ^ n) (sym is) (mod-lt i (some_power w))

each_fits : (shape : Shape) (w a n : ℕ) → width_of shape ≡ w → AllFit shape (map (run_item w) (range_with_len a n))
each_fits shape w a zero is = tt
each_fits shape w a (suc n) is = (item_fits shape w a is, each_fits shape w (a + 1) n is)

pub run_items_fit : (shape : Shape) (run : Run) → width_of shape ≡ run.width → AllFit shape (run_items run)
run_items_fit shape run is = each_fits shape run.width 0 run.count is
