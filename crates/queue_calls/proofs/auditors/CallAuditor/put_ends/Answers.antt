use Rattle.std.proofs.Common.{◌≡◌, ◌∙◌, inl, inr, true, length, refl, sym, ap}
use Rattle.queue_calls.proofs.Common.{take-length, passed, is_shut, NoCall, sides, call_of_put, call_of_take, reply_by, Late, Offers}
use Rattle.queue_calls.proofs.Replies.{shut_within}
use Rattle.queue_calls.proofs.auditors.CallAuditor.put_ends.Goals as goal

pub returns-then-is_shut-clause-decides : goal.returns-then-is_shut-clause-decides
returns-then-is_shut-clause-decides g c =
    let reply = reply_by (λ n. n) c.args.reply in
    let shuts : is_shut reply ≡ true = sym (c.if-is_shut.ensures.put (λ n. n)) in
    let put = c.in-Offers in (
      refl,
      (
        refl,
        (
          (sides NoCall (call_of_take c.args.self.now.take), (put.offered, ap call_of_put put.is, shut_within reply (passed 0 reply) put.offered shuts, refl)),
          λ after counts. elim counts [
            | inl b ↦ (let open' = b.3 in absurd cc)
            | inr b ↦ (let turn : Late b.0 ≡ Offers put.offered put.before = sym b.1 ∙ put.is in absurd cc)
          ],
        ),
      ),
    )

pub returns-else-lacked-gt0-2-clause-entries : goal.returns-else-lacked-gt0-2-clause-entries
returns-else-lacked-gt0-2-clause-entries g c =
    let entries = g.Q.Inside.entries c.args.self.now.inside in (λ shuts. refl, length entries, sym (take-length entries))
