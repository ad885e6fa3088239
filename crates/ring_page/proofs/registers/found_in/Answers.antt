use Rattle.std.proofs.Common.{◌≡◌, ◌++◌, List, [], ℕ, rules, subst, sym}
use Rattle.std.proofs.lemmas.List.{append-nil}
use Rattle.register_recordings.specs.Recordings.{IsRegisterFinding, RefusesRegisterText}
use Rattle.ring_page.proofs.registers.found_in.Goals as goal

pub returns-in_err-read-clause-refused : goal.returns-in_err-read-clause-refused
returns-in_err-read-clause-refused c =
    let refused : RefusesRegisterText c.in_err-read.field-0.0 c.args.text.now =
    subst (RefusesRegisterText c.in_err-read.field-0.0) (append-nil c.args.text.now) (c.in_err-read.ensures.refused [] [] c.in_ok-recording.ensures) in
    search (rules, refused)

pub returns-clause-found : goal.returns-clause-found
returns-clause-found c =
    let text : List ℕ = c.args.text.now in
    let whole : text ≡ text ++ [] = sym (append-nil text) in
    let read = c.in_ok-read.ensures.read [] c.in_ok-recording.ensures in
    let found : IsRegisterFinding text c.in_ok-finding.finding = c.in_ok-finding.ensures.found text read in
    (found.0, found.1, found.2, found.3, c.is_cut.ensures text read text [] whole found.0 found.1 found.2)
