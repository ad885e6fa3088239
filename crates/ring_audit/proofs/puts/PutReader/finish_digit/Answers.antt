use Rattle.std.proofs.Common.{◌≡◌, suc, ◌+◌, ◌-◌, ◌%◌, true, Some, None, ap, ◌∙◌, arith}
use Rattle.ring_audit.proofs.Common.{P, Access, width_of, answered, end_event, ReaderState, Choosing, Storing, the_view, PutReading}
use Rattle.ring_audit.specs.declared.puts.PutStep.TheVariants.{GoesOn, Stores}
use Rattle.ring_audit.proofs.PutReads.{read_at, fed_by_write, whole_word}
use Rattle.ring_audit.proofs.PutItems.{ends_digit, ends_word}
use Rattle.ring_audit.proofs.puts.PutReader.finish_digit.Goals as goal

pub returns-in-None-clause-read : goal.returns-in-None-clause-read
returns-in-None-clause-read c =
    let r : PutReading = the_view c.self.inside in
    let a : Access = c.args.access in
    read_at r c.args.self.now (record r { word = c.feed.new.self; open_access = None }) (end_event P (answered a c.args.answer)) GoesOn Storing (Some a) c.self.view_is c.self.invariant c.requires.at.0 c.requires.at.1
    (λ stage some at.
    let (w, writes) = at.6 a some in
    let (fed, goes) = fed_by_write r.word c.feed.new.self a c.args.answer c.told_by.result w writes at.3 c.told_by.ensures c.feed.ensures.state c.feed.ensures.stands in
    (λ es items stored st. ends_digit r.shape r es items stored c.feed.new.self a c.args.answer w st some writes at.2 stage fed goes))

pub returns-in-Some-clause-read : goal.returns-in-Some-clause-read
returns-in-Some-clause-read c =
    let r : PutReading = the_view c.self.inside in
    let a : Access = c.args.access in
    read_at r c.args.self.now (record r { word = c.feed.new.self; cell = (r.cell + 1) % c.capacity.result; next = (r.next + 1) % c.modulus.result; room = r.room - 1; some = true; stage = Choosing; open_access = None }) (end_event P (answered a c.args.answer)) (Stores c.in-Some.item) Storing (Some a) c.self.view_is c.self.invariant c.requires.at.0 c.requires.at.1
    (λ stage some at.
    let (w, writes) = at.6 a some in
    let (fed, goes) = fed_by_write r.word c.feed.new.self a c.args.answer c.told_by.result w writes at.3 c.told_by.ensures c.feed.ensures.state c.feed.ensures.stands in
    let whole = whole_word c.feed.new.self c.in-Some.item c.in-Some.ensures.state in
    let read_is : c.feed.new.self.read ≡ suc r.word.read = ap (λ (z : ReaderState). z.read) fed in
    let width_is : c.feed.new.self.width ≡ width_of r.shape = ap (λ (z : ReaderState). z.width) fed ∙ at.1 in
    let all : c.feed.new.self.read ≡ width_of r.shape = omega (arith, whole.1, read_is, width_is, at.1, at.3) in
    (λ es items stored st. ends_word r.shape r es items stored c.feed.new.self a c.args.answer w c.in-Some.item ((r.cell + 1) % c.capacity.result) ((r.next + 1) % c.modulus.result)
    st some writes at.2 stage fed goes all whole.0 at.4 (ap (λ m. (r.cell + 1) % m) c.capacity.ensures.value) (ap (λ m. (r.next + 1) % m) c.modulus.ensures.value)))
