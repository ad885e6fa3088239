use Rattle.std.proofs.Common.{◌≡◌, ◌∙◌, List, ap, false, length, refl, subst, sym}
use Rattle.queue_calls.specs.Hearings.{FollowsLines}
use Rattle.queue_calls.specs.Recordings as recordings
use Rattle.lists.specs.Rings.{ring_items}
use Rattle.queue_calls_c.specs.Heard.{HearsSome, taken_room}
use Rattle.queue_calls_c.proofs.ToldLines.{not_six, some_map}
use Rattle.queue_calls_c.specs.declared.found.HeardFound.{HeardFound}
use Rattle.queue_calls_c.proofs.audits.ring_audit_hear.Goals as goal

pub returns-in_default-clause-heard : goal.returns-in_default-clause-heard
returns-in_default-clause-heard c before has = absurd ((c.in_default.ensures.none refl).0 has.fit)

pub returns-clause-no_state : goal.returns-clause-no_state
returns-clause-no_state c = (
  λ six. absurd (not_six _ c.hear_lines-heard.result.2 (c.hear_lines-heard.ensures.at_fault c.in-Some.ensures.fit.1) (sym (ap (λ (f : HeardFound). f.verdict) c.found_of.ensures.found) ∙ six)),
  λ none. absurd (none c.in-Some.ensures.fit.0),
)

pub returns-clause-heard : goal.returns-clause-heard
returns-clause-heard c before has =
    let h = c.in-Some.hearing in
    let n = c.hear_lines-heard.new.hearing in
    let said = c.hear_lines-heard.result.2 in
    let follows = c.in-Some.ensures.goes_on before has.follows in
    let some = c.hear_lines-heard.ensures.hears before follows (c.resume.ensures.line ∙ has.count) in
    let F : List recordings.Line → Type 0 = λ ls. FollowsLines ring_items ring_items n false ls × (c.hear_lines-heard.result.1 ≡ length ls) in
    let m = c.args.audit.now.limit in
    let o = length c.args.audit.now.offered.now in
    let t = length c.args.audit.now.taken.now in
    let count = c.hear_lines-heard.result.0 in
    let here = subst (λ l. HearsSome l o t F before c.args.lines.now c.args.numbers.now count said) c.in-Some.ensures.rooms.2
    (subst (λ b. HearsSome h.witness.limit o b F before c.args.lines.now c.args.numbers.now count said) c.in-Some.ensures.rooms.1
    (subst (λ a. HearsSome h.witness.limit a (taken_room h) F before c.args.lines.now c.args.numbers.now count said) c.in-Some.ensures.rooms.0 some)) in (
      said,
      some_map m o t F _ before c.args.lines.now c.args.numbers.now count said (λ ls f. (record { follows = c.keep.ensures.follows ls f.0; count = f.1; fit = c.keep.ensures.fit }, c.keep.ensures.limit f.0.2 ∙ c.hear_lines-heard.ensures.limit ∙ c.in-Some.ensures.rooms.2)) here,
      c.found_of.ensures.found,
      c.found_of.ensures.words,
    )
