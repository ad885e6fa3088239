use Rattle.std.proofs.Common.{List, ℕ, [], sym, ◌∙◌, subst}
use Rattle.atomic_table.specs.Table.{opening}
use Rattle.ring_seats.specs.Rule.{KeepsFlickerRule, joint}
use Rattle.ring_seats.proofs.Moves.{opens}
use Rattle.ring_seats.proofs.tables.flicker_table.Goals as goal

pub of_words-requires : goal.of_words-requires
of_words-requires g c =
    subst (λ (l : List ℕ). KeepsFlickerRule c.args.shape (opening {S = Unit {0}} l [] (joint [] [] [] []))) (sym (c.as_slice.ensures.value ∙ c.in_ok-words.ensures)) (opens c.args.shape)
