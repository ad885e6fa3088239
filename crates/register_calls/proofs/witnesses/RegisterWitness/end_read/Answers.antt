use Rattle.std.proofs.Common.{◌≡◌, ℕ, suc, Bool, drop, ap, sym, subst, ◌∙◌, arith}
use Rattle.std.specs.Prelude.{if◌then◌else◌}
use Rattle.register_calls.proofs.Common.{ReaderState, Chain, reader_at, chain_at, fresh_chain, IsRaisingLink, begin_places, link_of}
use Rattle.register_calls.proofs.Bounds.{leaning_chain}
use Rattle.register_calls.proofs.Hearing.{first_writes}
use Rattle.register_calls.proofs.Remembering.{each_ends, all_ends}
use Rattle.register_calls.proofs.witnesses.RegisterWitness.end_read.Goals as goal

pub returns : goal.returns
returns g c =
    let s = c.args.self.now in
    let a = s.auditor in
    let b = c.end_read.new.self in
    let e = c.end_read.ensures in
    let i = c.args.reader in
    let v = c.args.value in
    let found = c.args.found in
    let xs = g.R.Fifo.items a.readers in
    let ys = g.R.Fifo.items b.readers in
    let os = g.C.Fifo.items s.own in
    let ps = g.C.Fifo.items c.raise_own.new.chains in
    let ts = g.C.Fifo.items s.low in
    let ls = g.C.Fifo.items s.own_low in
    let places = g.P.Fifo.items s.places in
    let own_leaning : Chain = if c.leans-by_own.result then chain_at ls i else fresh_chain in
    let leaning : Chain = if c.leans-by_all.result then chain_at ts i else fresh_chain in
    let by_own : own_leaning ≡ leaning_chain found.of_any found.read.own_low (chain_at ls i) = ap (λ (z : Bool). if z then chain_at ls i else fresh_chain) c.leans-by_own.ensures in
    let by_all : leaning ≡ leaning_chain found.of_any found.read.low (chain_at ts i) = ap (λ (z : Bool). if z then chain_at ts i else fresh_chain) c.leans-by_all.ensures in
    let own_link : IsRaisingLink (reader_at xs i).own found.of_own (link_of places a.base s.count i v) c.raising_link-own.result =
    subst (λ (z : ReaderState). IsRaisingLink z.own found.of_own (link_of places a.base s.count i v) c.raising_link-own.result) c.reader-state.ensures c.raising_link-own.ensures in (
      e.register,
      λ h k.
          let firsts = first_writes a.register h (g.W.Fifo.items a.window) a.base a.begun a.is_writing xs a.floor a.is_safe a.is_regular a.is_by_reader a.is_atomic i v found c.requires.reading c.requires.found k.audits in
          record {
            audits = e.audits h k.audits;
            count = c.requires.count ∙ ap suc k.count;
            places_kept = k.places_kept ∙ ap (λ (n : ℕ). drop n (begin_places h)) (sym e.base);
            last_ended = k.last_ended;
            of_each = each_ends a.register b.register h xs ys e.register i v a.floor b.floor found places a.base s.count c.requires.reading firsts e.ends k.count k.places_kept
                os ps ls own_leaning c.raising_link-own.result by_own c.raise_own.ensures own_link k.of_each;
            of_all = all_ends a.register b.register h xs ys e.register i v a.floor b.floor found places a.base s.count c.requires.reading firsts e.ends k.count k.places_kept
                ts leaning s.floor c.raise_floor.new.chain c.raising_link-all.result by_all c.raise_floor.ensures c.raising_link-all.ensures k.of_all;
            tallies = c.read_ends.ensures i h (let p = c.requires.count in let q = k.count in omega (arith, p, q)) firsts.began (c.end_read.ensures.begun ∙ k.audits.count) k.tallies;
          },
    )
