use Rattle.std.proofs.Common.{◌≡◌, ℕ, List, [], ◌∷◌, ◌++◌, drop, refl, ap, sym, ◌∙◌, arith}
use Rattle.register_calls.proofs.Remembering.{each_none, all_none}
use Rattle.register_calls.proofs.witnesses.RegisterWitness.restart.Goals as goal

pub returns-clause-remembers : goal.returns-clause-remembers
returns-clause-remembers g c =
    let a = c.restart.new.self in
    let k = c.in_ok-restart.ensures.audits in
    let xs = g.R.Fifo.items a.readers in
    let os = g.C.Fifo.items c.truncate-2.new.self in
    let ts = g.C.Fifo.items c.truncate-3.new.self in
    let ls = g.C.Fifo.items c.truncate-4.new.self in
    let zero_base : a.base ≡ 0 = let p = k.low in omega (arith, p) in
    record {
      audits = k;
      count = refl;
      places_kept = c.in_ok-push_back.ensures.items ∙ ap (λ (zs : List ℕ). zs ++ 0 ∷ []) c.truncate.ensures.items ∙ ap (λ (n : ℕ). drop n (0 ∷ [])) (sym zero_base);
      last_ended = refl;
      of_each = each_none a.register (g.W.Fifo.items a.window) a.base a.begun a.is_writing xs a.floor a.is_safe a.is_regular a.is_by_reader a.is_atomic k os ls c.truncate-2.ensures.items;
      of_all = all_none a.register (g.W.Fifo.items a.window) a.base a.begun a.is_writing xs a.floor a.is_safe a.is_regular a.is_by_reader a.is_atomic k ts c.new-self.result c.new-self.ensures.none;
      tallies = c.new-self-2.ensures;
    }
