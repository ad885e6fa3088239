use Rattle.std.proofs.Common.{◌≡◌, ◌∙◌, ◌+◌, ◌≢◌, suc, List, [], ◌∷◌, ◌++◌, Ok, Err, None, false, length, take, get_or, refl, sym, ap, subst, arith, append-nil, length-append, append_assoc}
use Rattle.std.proofs.lemmas.Bool.{false≢true}
use Rattle.queue_calls.specs.Hearings.{FollowsLines}
use Rattle.queue_calls.specs.Recordings as recordings
use Rattle.queue_calls.specs.declared.faults.RecordingFault.TheVariants.{TooLong}
use Rattle.lists.specs.Rings.{ring_items}
use Rattle.queue_calls_c.specs.Heard.{TellLines, SaysOf, offered_room, taken_room}
use Rattle.queue_calls_c.proofs.ToldLines.{hears_all, hears_at, says_map, told_more, with_next}
use Rattle.queue_calls_c.proofs.hearings.hear_lines.Goals as goal

pub loop-heard-init : goal.loop-heard-init
loop-heard-init c = (
  omega arith,
  refl,
  refl,
  refl,
  λ earlier follows is. (
    [],
    refl,
    subst (FollowsLines ring_items ring_items c.args.hearing.now false) (sym (append-nil earlier)) follows,
    is ∙ ap length (sym (append-nil earlier)),
  ),
  λ none. none,
)

pub returns-in_default-clause-hears : goal.returns-in_default-clause-hears
returns-in_default-clause-hears c earlier follows is =
    let (heard, told, still, number) = c.loop-heard.invariant.4 earlier follows is in
    hears_at c.args.hearing.now.witness.limit (offered_room c.args.hearing.now) (taken_room c.args.hearing.now) (λ ls. FollowsLines ring_items ring_items c.loop-heard.hearing false ls × (c.loop-heard.number ≡ length ls)) earlier heard c.args.lines.now
    c.args.numbers.now c.loop-heard.heard (record { word = 0; count = 0 }) c.loop-heard.rest.now (Err TooLong) c.loop-heard-test.true told (λ e. cc) ((still, number), omega (arith, number, c.in_default.ensures))

pub returns-clause-hears : goal.returns-clause-hears
returns-clause-hears c earlier follows is =
    let (heard, told, still, number) = c.loop-heard.invariant.4 earlier follows is in
    hears_all c.args.hearing.now.witness.limit (offered_room c.args.hearing.now) (taken_room c.args.hearing.now) (λ ls. FollowsLines ring_items ring_items c.loop-heard.hearing false ls × (c.loop-heard.number ≡ length ls)) earlier heard c.args.lines.now
    c.args.numbers.now c.loop-heard.heard c.loop-heard.rest.now (omega (arith, c.loop-heard-test.false)) c.loop-heard.invariant.0 told (still, number)

pub returns-then-not-is_heard-clause-hears : goal.returns-then-not-is_heard-clause-hears
returns-then-not-is_heard-clause-hears c earlier follows is =
    let (few, o, t, m, inv, none) = c.loop-heard.invariant in
    let (heard, told, still, number) = inv earlier follows is in
    let n = c.hear_one-said.new.hearing in
    let G : List recordings.Line → Type 0 = λ ls. FollowsLines ring_items ring_items n false ls in
    let F : List recordings.Line → Type 0 = λ ls. FollowsLines ring_items ring_items n false ls × (c.loop-heard.number ≡ length ls) in
    let other : c.hear_one-said.result ≢ Ok None = λ e. absurd (false≢true (sym c.if-not-is_heard.true ∙ c.is_heard.ensures.1 e)) in
    let M = c.args.hearing.now.witness.limit in
    let O = offered_room c.args.hearing.now in
    let T = taken_room c.args.hearing.now in
    let next = get_or c.args.lines.now c.loop-heard.heard (record { word = 0; count = 0 }) in
    let says = c.hear_one-said.ensures.says (earlier ++ heard) still (omega (arith, number, c.in-Some.ensures)) in
    let here = subst (λ l. SaysOf l O T G (earlier ++ heard) next c.loop-heard.rest.now c.hear_one-said.result) m
    (subst (λ b. SaysOf c.loop-heard.hearing.witness.limit O b G (earlier ++ heard) next c.loop-heard.rest.now c.hear_one-said.result) t
    (subst (λ a. SaysOf c.loop-heard.hearing.witness.limit a (taken_room c.loop-heard.hearing) G (earlier ++ heard) next c.loop-heard.rest.now c.hear_one-said.result) o says)) in
    hears_at M O T F earlier heard c.args.lines.now c.args.numbers.now c.loop-heard.heard (record { word = 0; count = 0 }) c.loop-heard.rest.now c.hear_one-said.result c.loop-heard-test.true told other
    (says_map M O T G F (earlier ++ heard) next c.loop-heard.rest.now c.hear_one-said.result other (λ f. (f, number)) here)

pub loop-heard-preserved : goal.loop-heard-preserved
loop-heard-preserved c =
    let (few, o, t, m, inv, none) = c.loop-heard.invariant in
    let n = c.hear_one-said.new.hearing in
    let G : List recordings.Line → Type 0 = λ ls. FollowsLines ring_items ring_items n false ls in
    let said_none : c.hear_one-said.result ≡ Ok None = c.is_heard.ensures.0 c.if-not-is_heard.false in
    let next = get_or c.args.lines.now c.loop-heard.heard (record { word = 0; count = 0 }) in (
      omega (arith, c.loop-heard-test.true),
      c.hear_one-said.ensures.rooms.0 ∙ o,
      c.hear_one-said.ensures.rooms.1 ∙ t,
      c.hear_one-said.ensures.rooms.2 ∙ m,
      λ earlier follows is.
          let (heard, told, still, number) = inv earlier follows is in
          let says = c.hear_one-said.ensures.says (earlier ++ heard) still (omega (arith, number, c.in-Some.ensures)) in
          let here = subst (λ s. SaysOf c.loop-heard.hearing.witness.limit (offered_room c.loop-heard.hearing) (taken_room c.loop-heard.hearing) G (earlier ++ heard) next c.loop-heard.rest.now s) said_none says in
          let l : recordings.Line = here.0 in
          let one_more : suc c.loop-heard.heard ≡ c.loop-heard.heard + 1 = omega arith in
          let all = told_more (take c.loop-heard.heard c.args.lines.now) c.args.numbers.now heard c.loop-heard.rest.now next l told here.1 in
          let long : length ((earlier ++ heard) ++ l ∷ []) ≡ length (earlier ++ heard) + 1 = length-append (earlier ++ heard) (l ∷ []) in (
            heard ++ l ∷ [],
            subst (λ ls. TellLines ls c.args.numbers.now (heard ++ l ∷ []) c.other_numbers-rest.result.now) (with_next c.args.lines.now c.loop-heard.heard (record { word = 0; count = 0 }) c.loop-heard-test.true ∙ ap (λ k. take k c.args.lines.now) one_more)
                (subst (λ ns. TellLines (take c.loop-heard.heard c.args.lines.now ++ next ∷ []) c.args.numbers.now (heard ++ l ∷ []) ns) (sym c.other_numbers-rest.ensures) all),
            subst G (append_assoc earlier heard (l ∷ [])) here.2,
            omega (arith, number, c.in-Some.ensures, long, ap length (append_assoc earlier heard (l ∷ []))),
          ),
      λ begun. (c.hear_one-said.ensures.at_fault (none begun)).0,
    )
