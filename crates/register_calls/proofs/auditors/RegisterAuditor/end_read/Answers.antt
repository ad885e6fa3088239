use Rattle.std.proofs.Common.{None, List, refl, sym, subst}
use Rattle.register_calls.proofs.Common.{ReaderState, IsRaised, MovesReader, reader_at}
use Rattle.register_calls.proofs.Readers.{moves_set, open_within}
use Rattle.register_calls.proofs.Hearing.{read_ends_as}
use Rattle.register_calls.proofs.auditors.RegisterAuditor.end_read.Goals as goal

pub set-requires : goal.set-requires
set-requires g c = open_within (g.R.Fifo.items c.args.self.now.readers) c.args.reader c.args.found.read c.requires.reading

pub returns-clause-audits : goal.returns-clause-audits
returns-clause-audits g c = λ h k.
    let s = c.args.self.now in
    let i = c.args.reader in
    let readers = g.R.Fifo.items s.readers in
    let state : ReaderState = record { own = c.raised.result; reading = None } in
    let moves : MovesReader readers (g.R.Fifo.items c.set.new.self) i state =
    subst (λ (xs : List ReaderState). MovesReader readers xs i state) (sym c.set.ensures.items) (moves_set readers readers i state (open_within readers i c.args.found.read c.requires.reading) (λ j. refl)) in
    let own_raised : IsRaised (reader_at readers i).own c.args.found.of_own c.raised.result =
    subst (λ (z : ReaderState). IsRaised z.own c.args.found.of_own c.raised.result) c.reader-state.ensures c.raised.ensures in
    read_ends_as s.register h (g.W.Fifo.items s.window) s.base s.begun s.is_writing readers s.floor s.is_safe s.is_regular s.is_by_reader s.is_atomic (g.R.Fifo.items c.set.new.self) i c.args.value
    c.raised-self.result c.raised.result c.args.found c.is_safe_still-self.result c.still-self.result c.still-self-2.result c.still-self-3.result
    c.requires.reading moves c.requires.found own_raised c.raised-self.ensures c.is_safe_still-self.ensures c.still-self.ensures c.still-self-2.ensures c.still-self-3.ensures k

pub returns-clause-ends : goal.returns-clause-ends
returns-clause-ends g c =
    let s = c.args.self.now in
    let i = c.args.reader in
    let readers = g.R.Fifo.items s.readers in
    let state : ReaderState = record { own = c.raised.result; reading = None } in
    record {
      own = c.raised.result;
      moves = subst (λ (xs : List ReaderState). MovesReader readers xs i state) (sym c.set.ensures.items) (moves_set readers readers i state (open_within readers i c.args.found.read c.requires.reading) (λ j. refl));
      own_raised = subst (λ (z : ReaderState). IsRaised z.own c.args.found.of_own c.raised.result) c.reader-state.ensures c.raised.ensures;
      raised = c.raised-self.ensures;
    }
