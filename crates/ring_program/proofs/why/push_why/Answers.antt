use Rattle.std.proofs.Common.{arith}
use Rattle.std.proofs.lemmas.List.{append-nil}
use Rattle.bits_core.specs.declared.faults.Kind.TheVariants.{WrongSide, OutOfTurn, NotPermitted, NotProgram}
use Rattle.ring_program.proofs.WhyLemmas.{fault_behind, fault_of_kind, fault_within, map_ok, not_following, why_there}
use Rattle.bits_core.proofs.LawLemmas.{fault_breaks}
use Rattle.ring_program.proofs.why.push_why.Goals as goal

pub push_fault-requires-clause-lawful : goal.push_fault-requires-clause-lawful
push_fault-requires-clause-lawful g c = (fault_breaks _ _ _ WrongSide (fault_of_kind c.args.shape.now c.args.events.now c.args.verdict c.in-Fault.place c.in-Fault.kind WrongSide c.in-Fault.is c.in-WrongSide.is c.requires.there)).0

pub push_fault-requires-clause-faulty : goal.push_fault-requires-clause-faulty
push_fault-requires-clause-faulty g c = not_following _ _ _ WrongSide _ (fault_of_kind c.args.shape.now c.args.events.now c.args.verdict c.in-Fault.place c.in-Fault.kind WrongSide c.in-Fault.is c.in-WrongSide.is c.requires.there)

pub push_fault-requires-in-OutOfTurn-clause-lawful : goal.push_fault-requires-in-OutOfTurn-clause-lawful
push_fault-requires-in-OutOfTurn-clause-lawful g c = (fault_breaks _ _ _ OutOfTurn (fault_of_kind c.args.shape.now c.args.events.now c.args.verdict c.in-Fault.place c.in-Fault.kind OutOfTurn c.in-Fault.is c.in-OutOfTurn.is c.requires.there)).0

pub push_fault-requires-in-OutOfTurn-clause-faulty : goal.push_fault-requires-in-OutOfTurn-clause-faulty
push_fault-requires-in-OutOfTurn-clause-faulty g c = not_following _ _ _ OutOfTurn _ (fault_of_kind c.args.shape.now c.args.events.now c.args.verdict c.in-Fault.place c.in-Fault.kind OutOfTurn c.in-Fault.is c.in-OutOfTurn.is c.requires.there)

pub push_fault-requires-in-NotPermitted-clause-lawful : goal.push_fault-requires-in-NotPermitted-clause-lawful
push_fault-requires-in-NotPermitted-clause-lawful g c = (fault_breaks _ _ _ NotPermitted (fault_of_kind c.args.shape.now c.args.events.now c.args.verdict c.in-Fault.place c.in-Fault.kind NotPermitted c.in-Fault.is c.in-NotPermitted.is c.requires.there)).0

pub push_fault-requires-in-NotPermitted-clause-faulty : goal.push_fault-requires-in-NotPermitted-clause-faulty
push_fault-requires-in-NotPermitted-clause-faulty g c = not_following _ _ _ NotPermitted _ (fault_of_kind c.args.shape.now c.args.events.now c.args.verdict c.in-Fault.place c.in-Fault.kind NotPermitted c.in-Fault.is c.in-NotPermitted.is c.requires.there)

pub returns-in-NotProgram-clause-told : goal.returns-in-NotProgram-clause-told
returns-in-NotProgram-clause-told g c =
    map_ok c.push_instead.result
    (λ t. (t.0, t.1, why_there c.args.shape.now c.args.events.now c.args.verdict c.in-Fault.place c.in-Fault.kind NotProgram _ t.0 c.in-Fault.is c.in-NotProgram.is c.requires.there (t.2, t.3, t.4)))
    c.push_instead.ensures.told

pub returns-in-WrongSide-clause-told : goal.returns-in-WrongSide-clause-told
returns-in-WrongSide-clause-told g c =
    map_ok c.push_fault.result
    (λ t. (t.0, t.1, why_there c.args.shape.now c.args.events.now c.args.verdict c.in-Fault.place c.in-Fault.kind WrongSide _ t.0 c.in-Fault.is c.in-WrongSide.is c.requires.there t.2))
    c.push_fault.ensures.told

pub returns-in-OutOfTurn-clause-told : goal.returns-in-OutOfTurn-clause-told
returns-in-OutOfTurn-clause-told g c =
    map_ok c.push_fault-in-OutOfTurn.result
    (λ t. (t.0, t.1, why_there c.args.shape.now c.args.events.now c.args.verdict c.in-Fault.place c.in-Fault.kind OutOfTurn _ t.0 c.in-Fault.is c.in-OutOfTurn.is c.requires.there t.2))
    c.push_fault-in-OutOfTurn.ensures.told

pub returns-in-NotPermitted-clause-told : goal.returns-in-NotPermitted-clause-told
returns-in-NotPermitted-clause-told g c =
    map_ok c.push_fault-in-NotPermitted.result
    (λ t. (t.0, t.1, why_there c.args.shape.now c.args.events.now c.args.verdict c.in-Fault.place c.in-Fault.kind NotPermitted _ t.0 c.in-Fault.is c.in-NotPermitted.is c.requires.there t.2))
    c.push_fault-in-NotPermitted.ensures.told

pub returns-in-NotProgram-clause-err : goal.returns-in-NotProgram-clause-err
returns-in-NotProgram-clause-err g c = c.push_instead.ensures.err

pub returns-in-WrongSide-clause-err : goal.returns-in-WrongSide-clause-err
returns-in-WrongSide-clause-err g c = c.push_fault.ensures.err

pub returns-in-OutOfTurn-clause-err : goal.returns-in-OutOfTurn-clause-err
returns-in-OutOfTurn-clause-err g c = c.push_fault-in-OutOfTurn.ensures.err

pub returns-in-NotPermitted-clause-err : goal.returns-in-NotPermitted-clause-err
returns-in-NotPermitted-clause-err g c = c.push_fault-in-NotPermitted.ensures.err

pub bounds-events-place : goal.bounds-events-place
bounds-events-place g c = fault_within c.args.shape.now c.args.events.now c.args.verdict c.in-Fault.place c.in-Fault.kind c.in-Fault.is c.requires.there

pub slice_bounds-push_instead-end : goal.slice_bounds-push_instead-end
slice_bounds-push_instead-end g c = fault_behind c.args.shape.now c.args.events.now c.args.verdict c.in-Fault.place c.in-Fault.kind c.in-Fault.is c.requires.there

pub slice_bounds-push_fault-end : goal.slice_bounds-push_fault-end
slice_bounds-push_fault-end g c = fault_behind c.args.shape.now c.args.events.now c.args.verdict c.in-Fault.place c.in-Fault.kind c.in-Fault.is c.requires.there

pub slice_bounds-push_fault-end-in-OutOfTurn : goal.slice_bounds-push_fault-end-in-OutOfTurn
slice_bounds-push_fault-end-in-OutOfTurn g c = fault_behind c.args.shape.now c.args.events.now c.args.verdict c.in-Fault.place c.in-Fault.kind c.in-Fault.is c.requires.there

pub slice_bounds-push_fault-end-in-NotPermitted : goal.slice_bounds-push_fault-end-in-NotPermitted
slice_bounds-push_fault-end-in-NotPermitted g c = fault_behind c.args.shape.now c.args.events.now c.args.verdict c.in-Fault.place c.in-Fault.kind c.in-Fault.is c.requires.there

pub returns-in-Lawful-clause-told : goal.returns-in-Lawful-clause-told
returns-in-Lawful-clause-told g c = grind (arith, append-nil, c.in-Lawful.is)
