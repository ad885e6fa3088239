use Rattle.std.proofs.Common.{sym, subst, []}
use Rattle.queue_calls.proofs.Common.{capacity_told, IsSurelyInside, IsPerhapsInside, IsProper, Remembers}
use Rattle.queue_calls.proofs.HearingLemmas.{proper_told}
use Rattle.queue_calls.proofs.InsideMoments.{perhaps_none, surely_none}
use Rattle.queue_calls.proofs.hearings.Hearing.begins.Goals as goal

pub restart-requires : goal.restart-requires
restart-requires g c = subst IsProper (sym c.capacity_told.ensures) (proper_told c.args.numbers.now c.requires)

pub returns-clause-heard : goal.returns-clause-heard
returns-clause-heard g c =
    let capacity = capacity_told c.args.numbers.now in
    let proper = proper_told c.args.numbers.now c.requires in (
      subst (λ z. Remembers g.S.Offered.Fifo.items g.S.Taken.Fifo.items c.restart.new.self z []) c.capacity_told.ensures c.restart.ensures.kept,
      record {
        tallies = c.new-self.ensures.tallies;
        surely = subst (IsSurelyInside capacity []) (sym c.new-self.ensures.inside.0) (surely_none capacity proper);
        perhaps = subst (IsPerhapsInside capacity []) (sym c.new-self.ensures.inside.1) (perhaps_none capacity proper);
      },
    )
