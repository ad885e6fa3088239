use Rattle.std.proofs.Common.{◌≡◌, ◌∙◌, ◌⊎◌, inl, inr, sym, ap, ap₂, refl, List, [], ◌∷◌, Option, None}
use Rattle.clap.specs.Words.{HasKind, Kinds, Row, Text, fault_of, kind_of, subcommand_of}
use Rattle.clap.specs.declared.error.Error.{Error}
use Rattle.clap.specs.declared.error.kind.ErrorKind.TheVariants.{OutOfMemory}
use Rattle.ring_program.specs.CommandLine.{application, request_in, request_of, where_taken}
use Rattle.ring_program.specs.declared.command_line.Request.{Request}
use Rattle.ring_program.proofs.command_line.read_words.Goals as goal

asked_by : (words : List Text) (found : Option (Text × List Row)) (r : Option Request) → r ≡ request_in found
    → fault_of application words ≡ [] → found ≡ subcommand_of application words → r ≡ request_of words
unfolding request_of
asked_by words found r is taken same = is ∙ ap₂ where_taken (sym taken) (ap request_in same)

by_kinds : (kinds : Kinds) (e : Error) (r : Option Request) → HasKind kinds e → (kind_of e ≡ OutOfMemory) ⊎ (where_taken kinds r ≡ None)
by_kinds [] e r (inl h) = inl h
by_kinds [] e r (inr h) = absurd h
by_kinds (k ∷ ks) e r h = inr refl

refused_by : (words : List Text) (e : Error) → HasKind (fault_of application words) e → (kind_of e ≡ OutOfMemory) ⊎ (request_of words ≡ None)
unfolding request_of
refused_by words e h = by_kinds (fault_of application words) e (request_in (subcommand_of application words)) h

pub returns-in-Ok-clause-asked : goal.returns-in-Ok-clause-asked
returns-in-Ok-clause-asked c = asked_by _ _ _ c.request_found.ensures c.in-Ok.ensures.taken c.in-Ok.ensures.found

pub returns-in-Err-clause-refused : goal.returns-in-Err-clause-refused
returns-in-Err-clause-refused c = refused_by _ c.in-Err.error c.in-Err.ensures.kinds
