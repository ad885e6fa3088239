use Rattle.std.proofs.Common.{◌≡◌, ℕ, ◌-◌, if◌then◌else◌, None, Some, Option, List, refl, ap, sym, subst, ◌∙◌}
use Rattle.register_calls.proofs.Common.{OpenRead, ReaderState, MovesReader, reader_at, KeepsRead, IsGreater}
use Rattle.register_calls.proofs.Readers.{moves_set}
use Rattle.register_calls.proofs.Hearing.{keeps_same, read_begins}
use Rattle.register_calls.proofs.auditors.RegisterAuditor.read_begins.Goals as goal

pub returns-in-Err-clause-hears : goal.returns-in-Err-clause-hears
returns-in-Err-clause-hears g c =
    let s = c.args.self.now in
    let i = c.args.reader in
    let readers = g.R.Fifo.items s.readers in
    let free : (reader_at readers i).reading ≡ None = ap (λ (z : ReaderState). z.reading) (sym c.reader-state.ensures) ∙ c.in-None.is in (
      refl,
      λ h k. (
        keeps_same s.register h (g.W.Fifo.items s.window) s.base s.begun s.is_writing readers s.floor s.is_safe s.is_regular s.is_by_reader s.is_atomic (g.R.Fifo.items c.reach.new.readers) c.in-Err.ensures.states k,
        (tt, subst (λ (o : Option OpenRead). KeepsRead i h o) free (k.reads i), c.in-Err.ensures.full),
      ),
    )

pub returns-clause-hears : goal.returns-clause-hears
returns-clause-hears g c =
    let s = c.args.self.now in
    let i = c.args.reader in
    let readers = g.R.Fifo.items s.readers in
    let free : (reader_at readers i).reading ≡ None = ap (λ (z : ReaderState). z.reading) (sym c.reader-state.ensures) ∙ c.in-None.is in
    let read : OpenRead = record { before = c.ended-before.result; low = c.greater.result; own_low = c.greater-2.result } in
    let state : ReaderState = record { own = c.reader-state.result.own; reading = Some read } in
    let moves : MovesReader readers (g.R.Fifo.items c.set.new.self) i state =
    subst (λ (xs : List ReaderState). MovesReader readers xs i state) (sym c.set.ensures.items) (moves_set readers (g.R.Fifo.items c.reach.new.readers) i state c.in-Ok.ensures.within c.in-Ok.ensures.states) in (
      refl,
      λ h k. (
        read_begins s.register h (g.W.Fifo.items s.window) s.base s.begun readers s.floor s.is_safe s.is_regular s.is_by_reader s.is_atomic s.is_writing (g.R.Fifo.items c.set.new.self) i
            c.reader-state.result.own read free (ap (λ (z : ReaderState). z.own) c.reader-state.ensures) moves c.ended-before.ensures c.greater.ensures c.greater-2.ensures k,
        λ v wrong. absurd cc,
      ),
    )

pub returns-in-Err-clause-readers : goal.returns-in-Err-clause-readers
returns-in-Err-clause-readers g c = c.in-Err.ensures.states

pub returns-clause-readers : goal.returns-clause-readers
returns-clause-readers g c =
    let s = c.args.self.now in
    let i = c.args.reader in
    let readers = g.R.Fifo.items s.readers in
    let read : OpenRead = record { before = c.ended-before.result; low = c.greater.result; own_low = c.greater-2.result } in
    let state : ReaderState = record { own = c.reader-state.result.own; reading = Some read } in
    let moves : MovesReader readers (g.R.Fifo.items c.set.new.self) i state =
    subst (λ (xs : List ReaderState). MovesReader readers xs i state) (sym c.set.ensures.items) (moves_set readers (g.R.Fifo.items c.reach.new.readers) i state c.in-Ok.ensures.within c.in-Ok.ensures.states) in
    record {
      read = read;
      moves = subst (λ (z : ReaderState). MovesReader readers (g.R.Fifo.items c.set.new.self) i (record { own = z.own; reading = Some read })) c.reader-state.ensures moves;
      low = subst (λ (n : ℕ). IsGreater n s.floor c.greater.result) c.ended-before.ensures c.greater.ensures;
      own_low = subst (λ (z : ReaderState). IsGreater (if s.is_writing then s.begun - 1 else s.begun) z.own c.greater-2.result) c.reader-state.ensures
          (subst (λ (n : ℕ). IsGreater n c.reader-state.result.own c.greater-2.result) c.ended-before.ensures c.greater-2.ensures);
    }
