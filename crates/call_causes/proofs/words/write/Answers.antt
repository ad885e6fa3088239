use Rattle.std.proofs.Common.{◌≡◌, ℕ, ◌+◌, ◌-◌, ◌++◌, arith, take, subst, sym, ◌∙◌, ap}
use borrow.Rule.Slice.PartMut.{put_mid}
use Rattle.call_causes.specs.Words.{AreWritten}
use Rattle.call_causes.proofs.Writes.{written_behind}
use Rattle.call_causes.proofs.words.write.Goals as goal

pub returns-clause-written : goal.returns-clause-written
returns-clause-written c words before so_far =
    let a = c.args in
    let count : ℕ = c.min-count.result in
    let part : c.copy_from_slice.new.self ≡ take count a.text.now = c.copy_from_slice.ensures.after ∙ ap (take count) c.as_bytes.ensures.value in
    let same : a.used + count - a.used ≡ count = omega arith in
    subst (λ n. AreWritten (words ++ a.text.now) before (put_mid a.used n a.slots.now c.copy_from_slice.new.self) (a.used + count)) (sym same)
    (written_behind words a.text.now before a.slots.now c.copy_from_slice.new.self a.used count so_far (omega (arith, c.min-count.ensures)) part)
