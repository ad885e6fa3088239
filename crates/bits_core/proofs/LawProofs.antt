-- The laws, proved.
use Rattle.std.proofs.Common.{◌++◌, length, take, ap, sym, subst, ◌∙◌, arith, []}
use Rattle.bits_core.proofs.Common.{take-length, open_access, held, IsHeld}
use Rattle.bits_core.specs.Laws.{EmptyIsLawful, BeginningIsLawful, LawfulByOneMore, OpenIsByInterval, HeldIsByInterval, OverlapIsByInterval}
use Rattle.bits_core.proofs.Statements.{HeldChanges}
use Rattle.bits_core.proofs.StepLemmas.{EachMayFollow-empty, EachMayFollow-append, EachMayFollow-push, EachMayFollow-last}
use Rattle.bits_core.proofs.Changes.{AllByDoer-lawful, held-push}
use Rattle.bits_core.proofs.IntervalLemmas.{open_access-from, IsOpenAt-from}
use Rattle.bits_core.proofs.HeldLemmas.{IsHeld-held, IsHeld-same}
use Rattle.bits_core.proofs.LawfulLemmas.{IsByDoers-lawful, IsLawful-from, IsLawful-to, read_overlap}

pub empty_is_lawful : EmptyIsLawful
empty_is_lawful shape = IsLawful-from shape [] (EachMayFollow-empty shape)

pub beginning_is_lawful : BeginningIsLawful
beginning_is_lawful shape h later lawful = IsLawful-from shape h (EachMayFollow-append shape h later (IsLawful-to shape (h ++ later) lawful))

pub lawful_by_one_more : LawfulByOneMore
lawful_by_one_more shape h e = grind (arith, beginning_is_lawful, EachMayFollow-last, IsLawful-to, IsLawful-from, EachMayFollow-push)

pub open_is_by_interval : OpenIsByInterval
open_is_by_interval h s access = (
  λ e. IsOpenAt-from h s access (length h) (omega arith) (ap (open_access s) (take-length h) ∙ e),
  λ o. sym (ap (open_access s) (take-length h)) ∙ open_access-from h s access (length h) o,
)

pub held_is_by_interval : HeldIsByInterval
held_is_by_interval shape h lawful b place within v =
    let is : IsHeld h b place (held b (take place h)) = IsHeld-held h b place (IsByDoers-lawful shape h place lawful) within in
    (λ x. IsHeld-same h b place v (held b (take place h)) x is, λ e. subst (λ w. IsHeld h b place w) (sym e) is)

pub overlap_is_by_interval : OverlapIsByInterval
overlap_is_by_interval shape h lawful s b start stop v read = read_overlap h s b start stop v (IsByDoers-lawful shape h stop lawful) read

pub held_changes : HeldChanges
held_changes shape b h e lawful = held-push b h e (AllByDoer-lawful shape h (IsLawful-to shape h lawful))
