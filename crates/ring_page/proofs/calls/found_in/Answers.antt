use Rattle.std.proofs.Common.{◌≡◌, length, [], rules, subst}
use Rattle.std.proofs.lemmas.List.{append-nil}
use Rattle.queue_calls.specs.Recordings.{IsFindingOf, RefusesText}
use Rattle.queue_calls.specs.Rooms.{AreTooShort, Rooms}
use Rattle.queue_calls.specs.declared.faults.RecordingFault.{RecordingFault}
use Rattle.queue_calls.specs.declared.faults.RecordingFault.TheVariants.{OutOfMemory}
use Rattle.lists.proofs.Results.{of_err}
use Rattle.ring_page.specs.Calls.{slots_for}
use Rattle.ring_page.proofs.calls.found_in.Goals as goal

pub returns-in_err-read-clause-refused : goal.returns-in_err-read-clause-refused
returns-in_err-read-clause-refused c =
    let refused : RefusesText c.in_err-read.field-0.0 c.args.text.now =
    subst (RefusesText c.in_err-read.field-0.0) (append-nil c.args.text.now) (c.in_err-read.ensures.refused [] [] c.within-recording.ensures.read) in
    search (rules, refused)

pub returns-in_err-finding-clause-refused : goal.returns-in_err-finding-clause-refused
returns-in_err-finding-clause-refused c =
    let refused : RefusesText c.in_err-finding.field-0.0 c.args.text.now =
    c.in_err-finding.ensures.refused c.args.text.now (c.in_ok-read.ensures.read [] c.within-recording.ensures.read) in
    search (rules, refused)

pub returns-clause-found : goal.returns-clause-found
returns-clause-found c =
    let read = c.in_ok-read.ensures.read [] c.within-recording.ensures.read in
    let found : IsFindingOf c.args.text.now c.in_ok-finding.finding = c.in_ok-finding.ensures.found c.args.text.now read in
    (found.0, found.1, found.2, found.3, c.is_cut.ensures c.args.text.now read found.0 found.1 found.2)

pub returns-in_err-read-clause-full : goal.returns-in_err-read-clause-full
returns-in_err-read-clause-full c =
    let lists = c.args.lists in
    let slots : Rooms = slots_for (length lists.offered.slots.now) (length lists.taken.slots.now) (length lists.numbers.slots.now) (length lists.bytes.slots.now) in
    let Short : RecordingFault → Type 0 = λ e. e ≡ OutOfMemory → AreTooShort slots c.args.text.now in
    let full : Short c.in_err-read.field-0.0 =
    λ short. subst (λ z. AreTooShort z c.args.text.now) c.within-recording.ensures.rooms (c.in_err-read.ensures.full short [] c.within-recording.ensures.read) in
    of_err Short c.from_residual.result c.in_err-read.field-0.0 (search rules) full

pub returns-in_err-finding-clause-full : goal.returns-in_err-finding-clause-full
returns-in_err-finding-clause-full c =
    let lists = c.args.lists in
    let slots : Rooms = slots_for (length lists.offered.slots.now) (length lists.taken.slots.now) (length lists.numbers.slots.now) (length lists.bytes.slots.now) in
    let Short : RecordingFault → Type 0 = λ e. e ≡ OutOfMemory → AreTooShort slots c.args.text.now in
    let full : Short c.in_err-finding.field-0.0 = λ short. absurd (c.in_err-finding.ensures.takes_no_memory short) in
    of_err Short c.from_residual-in_err-finding.result c.in_err-finding.field-0.0 (search rules) full
