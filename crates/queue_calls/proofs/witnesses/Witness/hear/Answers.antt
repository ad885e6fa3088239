use Rattle.std.proofs.Common.{rules, ◌≡◌, inl, inr, ℕ, ◌<◌, false, List, [], ◌∷◌, ◌++◌, map, length, refl, ap, ap₂, sym, subst, ◌∙◌, reverse, arith, append-nil, Err}
use Rattle.queue_calls.proofs.Common.{Capacity, Counts, kept, OutgrowsLists, all_got, items_of, last_in, last_of, line_behind, offered_at, taken, taken_at, meant, reply_by, told, RefusesNext}
use Rattle.queue_calls.proofs.Common.{Remembers, mark_last, Witness, then_err, then_ok}
use Rattle.queue_calls.specs.Calls.{Event, PutEnd, TakeEnd, Reply, Shut, passed, is_shut}
use Rattle.queue_calls.specs.Insides.{Moves}
use Rattle.queue_calls.proofs.Hears.{audits, counted_so, first_line, heard, kept_same, line_is, mark_items, next_remembers, put_after, refuses, still_remembers, stored_line, taken_all, taken_kept, told_so}
use Rattle.queue_calls.proofs.Remembering.{kept_of}
use Rattle.queue_calls.proofs.Decided.{decides_reads}
use Rattle.queue_calls.proofs.Replies.{shut_is, told_line_on}
use Rattle.queue_calls.proofs.witnesses.Witness.hear.Goals as goal

pub returns-in-PutBegins-clause-kept : goal.returns-in-PutBegins-clause-kept
returns-in-PutBegins-clause-kept g c capacity events r number =
    let e = c.in_ok-feed_at.ensures in
    heard r (ap told c.in-PutBegins.is) number (λ reply f. absurd cc) e.decides.0 e.decides.1 e.entries r.taken r.taken_last r.ended r.told (line_is r number) r.stored_at

pub returns-in-CloseEnds-clause-kept : goal.returns-in-CloseEnds-clause-kept
returns-in-CloseEnds-clause-kept g c capacity events r number =
    let e = c.in_ok-feed_at.ensures in
    heard r (ap told c.in-CloseEnds.is) number (λ reply f. absurd cc) e.decides.0 e.decides.1 e.entries r.taken r.taken_last
    (c.or-self.ensures ∙ first_line _ _ _ _ _ r.ended (line_is r number)) r.told r.put_at r.stored_at

pub returns-else-not-is_shut-clause-kept : goal.returns-else-not-is_shut-clause-kept
returns-else-not-is_shut-clause-kept g c capacity events r number =
    let e = c.in_ok-feed_at.ensures in
    let reply : Reply (List ℕ) = reply_by (λ items. items.now) c.in-TakeEnds.reply in
    let shuts : reply ≡ Shut = shut_is reply (sym (c.if-not-is_shut.ensures.take (λ items. items.now))) in
    heard r (ap told c.in-TakeEnds.is ∙ ap TakeEnd shuts) number (λ reply f. absurd cc) e.decides.0 e.decides.1 e.entries (r.taken ∙ ap (λ z. last_of c.args.self.now.limit z) (sym (append-nil (taken (reverse events)))))
    (r.taken_last ∙ ap last_in (sym (append-nil (taken (reverse events))))) r.ended (c.or-self-in-TakeEnds.ensures ∙ first_line _ _ _ _ _ r.told (line_is r number)) r.put_at r.stored_at

pub returns-in-PutEnds-clause-kept : goal.returns-in-PutEnds-clause-kept
returns-in-PutEnds-clause-kept g c capacity events r number =
    let s = c.args.self.now in
    let n = c.feed_at.new.self in
    let O = g.S.Offered.Fifo.items in
    let T = g.S.Taken.Fifo.items in
    let left = O n.inside.list in
    let after = kept (items_of left) n.put n.take n.shut in
    let e = c.in_ok-feed_at.ensures in
    let reply : Reply ℕ = reply_by (λ count. count) c.in-PutEnds.reply in
    let is : told c.args.event ≡ PutEnd reply = ap told c.in-PutEnds.is in
    let counts : Counts (meant s.auditor.capacity) (kept_of O s) (PutEnd reply) after = subst (λ z. Counts (meant s.auditor.capacity) (kept_of O s) z after) is e.decides.1 in
    let moves : Moves (offered_at c.args.line) s.auditor.shut (PutEnd reply) (O s.auditor.inside.list) left = subst (λ z. Moves (offered_at c.args.line) s.auditor.shut z (O s.auditor.inside.list) left) is e.entries in
    let x = c.stores.ensures in
    let m = c.stores.new.self in
    let same : after ≡ kept_of O m = kept_same (items_of left) (items_of (O m.auditor.inside.list)) n.put m.auditor.put n.take m.auditor.take n.shut m.auditor.shut
    (ap items_of x.inside ∙ mark_items c.args.line c.count.result left) x.auditor.1 x.auditor.2 x.auditor.3 in
    told_so O T _ capacity events _ (told c.args.event) is
    (next_remembers O T s _ capacity events (PutEnd reply) r (x.auditor.0 ∙ e.decides.0)
    (subst (λ z. Counts capacity (kept_of O s) (PutEnd reply) z) same (counted_so r (PutEnd reply) after counts))
    (x.inside ∙ ap (λ z. mark_last c.args.line z left) c.count.ensures ∙ put_after r reply c.args.line after left number refl counts moves) (taken_kept T s m (taken (reverse events)) x.taken r.taken)
    (x.taken.2 ∙ r.taken_last) (x.lines.0 ∙ r.ended) (x.lines.1 ∙ r.told) (x.lines.2 ∙ r.put_at)
    (stored_line r reply after number counts (λ l. x.stored.0 (omega (arith, l, c.count.ensures))) (λ none. x.stored.1 (omega (arith, none, c.count.ensures)))))

pub returns-then-not-is_shut : goal.returns-then-not-is_shut
returns-then-not-is_shut g c =
    let s = c.args.self.now in
    let m = c.takes.new.self in
    let O = g.S.Offered.Fifo.items in
    let T = g.S.Taken.Fifo.items in
    let e = c.in_ok-feed_at.ensures in
    let x = c.takes.ensures.others in
    let reply : Reply (List ℕ) = reply_by (λ items. items.now) c.in-TakeEnds.reply in
    let is : told c.args.event ≡ TakeEnd reply = ap told c.in-TakeEnds.is in
    let items : c.items.result.now ≡ passed [] reply = c.items.ensures in
    let open' : is_shut reply ≡ false = sym (c.if-not-is_shut.ensures.take (λ items. items.now)) in
    record {
      kept = then_ok c.takes.result c.takes.ensures.taken (λ took capacity events r number.
          let past = reverse events in
          let now = line_is r number in
          heard r is number (λ reply f. absurd cc) (ap (λ z. z.capacity) x.0 ∙ e.decides.0)
          (subst (λ z. Counts (meant s.auditor.capacity) (kept_of O s) (told c.args.event) (kept (items_of (O z.inside.list)) z.put z.take z.shut)) (sym x.0) e.decides.1)
          (subst (λ z. Moves (offered_at c.args.line) s.auditor.shut (told c.args.event) (O s.auditor.inside.list) (O z.inside.list)) (sym x.0) e.entries)
          (took (taken past) r.taken ∙ ap₂ (λ n z. last_of n (taken past ++ map (taken_at z) c.items.result.now)) (sym x.1) now ∙ ap (λ l. last_of m.limit (taken past ++ map (taken_at (line_behind past)) l)) items)
          (c.takes.ensures.last (taken past) r.taken_last ∙ ap₂ (λ z l. last_in (taken past ++ map (taken_at z) l)) now items) (x.2 ∙ r.ended) (x.3 ∙ r.told ∙ told_line_on reply past open') (x.4 ∙ r.put_at)
          (x.5 ∙ r.stored_at));
      refused = then_err c.takes.result c.takes.ensures.full (λ fault full capacity events r.
          let (short, many) = full.1 (taken (reverse events)) r.taken in
          let got : g.S.Taken.Fifo.room s.taken < length (all_got (events ++ TakeEnd reply ∷ [])) = omega (arith, many, ap length items, taken_all events (TakeEnd reply)) in
          let less : g.S.Taken.Fifo.room s.taken < m.limit = omega (arith, short, x.1) in
          let needs : OutgrowsLists m.limit (g.S.Offered.Fifo.room s.auditor.inside.list) (g.S.Taken.Fifo.room s.taken) capacity (events ++ told c.args.event ∷ []) =
          subst (λ z. OutgrowsLists m.limit (g.S.Offered.Fifo.room s.auditor.inside.list) (g.S.Taken.Fifo.room s.taken) capacity (events ++ z ∷ [])) (sym is) (inr (less, got)) in
          subst (λ z. RefusesNext O T (g.S.Offered.Fifo.room s.auditor.inside.list) (g.S.Taken.Fifo.room s.taken) m capacity events (told c.args.event) z) (sym full.0) needs);
      limit = search rules;
      rooms = search rules;
    }

pub returns-in-CloseBegins-clause-kept : goal.returns-in-CloseBegins-clause-kept
returns-in-CloseBegins-clause-kept g c capacity events r number =
    let e = c.in_ok-feed_at.ensures in
    elim c.in-CloseBegins.is [
      | inl b ↦ heard r (ap told b) number (λ reply f. absurd cc) e.decides.0 e.decides.1 e.entries r.taken r.taken_last r.ended r.told r.put_at r.stored_at
      | inr b ↦ heard r (ap told b.1) number (λ reply f. absurd cc) e.decides.0 e.decides.1 e.entries r.taken r.taken_last r.ended r.told r.put_at r.stored_at
    ]

pub returns-in_err-feed_at-clause-refused : goal.returns-in_err-feed_at-clause-refused
returns-in_err-feed_at-clause-refused g c =
    let s = c.args.self.now in
    let n = c.feed_at.new.self in
    let O = g.S.Offered.Fifo.items in
    let T = g.S.Taken.Fifo.items in
    let e = c.in_err-feed_at.ensures in
    let next : Witness g.row.S.Denot g.row.S-Offered.Denot g.row.S-Taken.Denot g.row.S-Numbers.Denot g.row.S-Bytes.Denot =
    record { auditor = n; taken = s.taken; limit = s.limit; last_taken = s.last_taken; ended_at = s.ended_at; told_at = s.told_at; put_at = s.put_at; stored_at = s.stored_at } in
    let o = g.S.Offered.Fifo.room s.auditor.inside.list in
    let t = g.S.Taken.Fifo.room s.taken in
    let refused : (capacity : Capacity) (events : List Event) → Remembers O g.S.Taken.Fifo.items s capacity events →
    RefusesNext O g.S.Taken.Fifo.items o t next capacity events (told c.args.event) c.in_err-feed_at.field-0.0 =
    λ capacity events r.
    refuses r next o t (told c.args.event) c.in_err-feed_at.field-0.0
    (still_remembers r O g.S.Taken.Fifo.items next e.decides.0 e.decides.1.0 e.entries refl refl refl refl refl refl refl)
    ((decides_reads (λ q. items_of (O q.list)) (λ q. g.S.Offered.Fifo.room q.list) s.auditor (told c.args.event) n (Err c.in_err-feed_at.field-0.0) e.decides).1 events
    (audits r)).1 in
    search (rules, refused)
