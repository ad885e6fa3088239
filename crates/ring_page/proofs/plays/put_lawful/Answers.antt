use Rattle.std.proofs.Common.{◌≡◌, ◌≤◌, length, arith, subst}
use Rattle.bits_core.specs.Seen.{AreSeen, sound_count}
use Rattle.bits_core.specs.declared.audits.Verdict.{Verdict}
use Rattle.bits_core.specs.declared.audits.Verdict.TheVariants.{Lawful}
use Rattle.ring_page.proofs.Shown.{AreMarksOf-audited}
use Rattle.bits_core.proofs.LawLemmas.{one_verdict}
use Rattle.ring_page.proofs.plays.put_lawful.Goals as goal

pub returns : goal.returns
returns c =
    let shape = c.args.shape.now in
    let h = c.args.history.now in
    let old = c.nothing_seen-seen.result in
    let new = c.audit_bits_into.new.seen in
    let is : c.audit_bits_into.result.0 ≡ Lawful = one_verdict shape h c.audit_bits_into.result.0 Lawful c.audit_bits_into.ensures.verdict c.requires.lawful in
    let seen : AreSeen h (length h) old new = subst (λ (v : Verdict). AreSeen h (sound_count h v) old new) is c.audit_bits_into.ensures.seen in
    let few : length h ≤ length new = omega (arith, c.requires.few, seen.room, c.nothing_seen-seen.ensures.size) in
    AreMarksOf-audited shape h Lawful old new c.put_marks.new.marks c.requires.lawful c.nothing_seen-seen.ensures.nothing seen few c.put_marks.ensures
