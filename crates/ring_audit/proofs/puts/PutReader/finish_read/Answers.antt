use Rattle.std.proofs.Common.{◌≡◌, true, false, Some, None, [], ◌∷◌, ◌++◌, subst, sym, ◌∙◌}
use Rattle.ring_audit.proofs.Common.{P, Access, answered, end_event, Stops, GoesOn, the_view, AreOfPuts, PutReading}
use Rattle.ring_audit.specs.declared.puts.Stage.TheVariants.{Resting, Scanning, Choosing}
use Rattle.ring_audit.proofs.PutReads.{read_at, reads_next, zero_at_last, no_value}
use Rattle.ring_audit.proofs.PutSteps.{ends_zero, ends_with_room, ends_full}
use Rattle.ring_audit.proofs.puts.PutReader.finish_read.Goals as goal

pub returns-then-not-answer-clause-read : goal.returns-then-not-answer-clause-read
returns-then-not-answer-clause-read c =
    let r : PutReading = the_view c.self.inside in
    let a : Access = c.args.access in
    read_at r c.args.self.now r (end_event P (answered a c.args.answer)) Stops Scanning (Some a) c.self.view_is c.self.invariant c.requires.at.0 c.requires.at.1
    (λ stage some at es items stored st of_puts. zero_at_last r.shape r es items stored a st some at.1 (at.3 a some) (c.expects_one.ensures.0 c.if-expects_one.true)
    (subst (λ v. AreOfPuts r.shape (es ++ end_event P (answered a v) ∷ [])) c.if-not-answer.true of_puts))

pub returns-in-None-clause-read : goal.returns-in-None-clause-read
returns-in-None-clause-read c =
    let r : PutReading = the_view c.self.inside in
    let a : Access = c.args.access in
    read_at r c.args.self.now (record r { scan = c.feed.new.self; open_access = None }) (end_event P (answered a c.args.answer)) GoesOn Scanning (Some a) c.self.view_is c.self.invariant c.requires.at.0 c.requires.at.1
    (λ stage some at es items stored st. ends_zero r.shape r es items stored c.feed.new.self a c.args.answer st some (reads_next r a at some) stage c.feed.ensures.state (no_value c.feed.new.self c.in-None.ensures.state))

pub returns-then-has_room-clause-read : goal.returns-then-has_room-clause-read
returns-then-has_room-clause-read c =
    let r : PutReading = the_view c.self.inside in
    let a : Access = c.args.access in
    read_at r c.args.self.now (record r { stage = Choosing; scan = c.feed.new.self; room = c.most_items-self-inside.result; next = r.count; some = false; open_access = None }) (end_event P (answered a c.args.answer)) GoesOn Scanning (Some a) c.self.view_is c.self.invariant c.requires.at.0 c.requires.at.1
    (λ stage some at es items stored st. ends_with_room r.shape r es items stored c.feed.new.self a c.args.answer c.in-Some.seen c.most_items-self-inside.result st some (reads_next r a at some) stage at.1.not_found
    c.feed.ensures.state (sym c.in-Some.ensures.state) at.1.below c.most_items-self-inside.ensures.some c.most_items-self-inside.ensures.room c.most_items-self-inside.ensures.few c.most_items-self-inside.ensures.most)

pub returns-else-has_room-clause-read : goal.returns-else-has_room-clause-read
returns-else-has_room-clause-read c =
    let r : PutReading = the_view c.self.inside in
    let a : Access = c.args.access in
    read_at r c.args.self.now (record r { stage = Resting; scan = c.feed.new.self; open_access = None }) (end_event P (answered a c.args.answer)) GoesOn Scanning (Some a) c.self.view_is c.self.invariant c.requires.at.0 c.requires.at.1
    (λ stage some at es items stored st. ends_full r.shape r es items stored c.feed.new.self a c.args.answer c.in-Some.seen st some (reads_next r a at some) stage at.1.not_found
    c.feed.ensures.state (sym c.in-Some.ensures.state) at.1.below
    (λ room. (let clash : true ≡ false = sym (c.has_room.ensures.1 room) ∙ c.if-has_room.false in absurd (cc))))
