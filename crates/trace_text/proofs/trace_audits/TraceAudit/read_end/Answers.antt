use Rattle.std.proofs.Common.{◌≡◌, ◌≢◌, ◌∙◌, ◌++◌, ◌∷◌, [], List, ℕ, length, ap, sym, subst, append_assoc, length-append, arith, rules}
use Rattle.std.proofs.lemmas.List.{append-nil}
use Rattle.std.proofs.lemmas.List.Elements.{All-append, All-nil}
use Rattle.trace_text.proofs.Common.{RefusesTraceText, HasEnded, HasReadTrace, HasNoFeed}
use Rattle.trace_text.proofs.TraceTexts.{kept_refused, whole_line}
use Rattle.trace_text.proofs.trace_audits.TraceAudit.read_end.Goals as goal

-- a line's end and what is after it
end_parts : (end front more : List ℕ) → end ≡ front ++ 10 ∷ [] → front ++ 10 ∷ more ≡ end ++ more
end_parts end front more is = sym (ap (λ (t : List ℕ). t ++ more) is ∙ append_assoc front (10 ∷ []) more)

pub returns-then-not-push-clause-refused : goal.returns-then-not-push-clause-refused
returns-then-not-push-clause-refused c before more has =
    let long = c.push.ensures.refused c.if-not-push.true in
    let front = c.requires.front in
    subst (λ t. RefusesTraceText (before ++ t) c.next_fault.result) (end_parts c.args.end.now front more c.requires.text)
    (kept_refused c.next_fault.result c.args.self.now.hearing before has.ended c.args.self.now.cut front (10 ∷ more) has.text has.lines has.feedless c.requires.feedless
    (omega (arith, long, ap length c.requires.text, length-append front (10 ∷ []))) c.next_fault.ensures)

-- the line that was cut, and its end
line_joined : (before ended cut end more : List ℕ) → before ≡ ended ++ cut → ended ++ ((cut ++ end) ++ more) ≡ before ++ (end ++ more)
line_joined before ended cut end more text = grind (arith, append_assoc)

pub returns-in_err-read_line-clause-refused : goal.returns-in_err-read_line-clause-refused
returns-in_err-read_line-clause-refused c =
    let cut = c.args.self.now.cut in
    let end = c.args.end.now in
    let bytes : c.bytes.result.now ≡ cut ++ end = c.bytes.ensures ∙ c.push.ensures.pushed c.if-not-push.false in
    let refused : (before more : List ℕ) → HasReadTrace c.args.self.now before → RefusesTraceText (before ++ (end ++ more)) c.in_err-read_line.field-0.0 =
    λ before more has.
    subst (λ t. RefusesTraceText t c.in_err-read_line.field-0.0) (ap (λ (t : List ℕ). has.ended ++ (t ++ more)) bytes ∙ line_joined before has.ended cut end more has.text)
    (c.in_err-read_line.ensures.refused has.ended more has.lines) in
    search (rules, refused)

pub returns-clause-read : goal.returns-clause-read
returns-clause-read c before has =
    let cut = c.args.self.now.cut in
    let end = c.args.end.now in
    let bytes : c.bytes.result.now ≡ cut ++ end = c.bytes.ensures ∙ c.push.ensures.pushed c.if-not-push.false in
    let front : List ℕ = cut ++ c.requires.front in
    let whole : c.bytes.result.now ≡ front ++ 10 ∷ [] = bytes ∙ ap (λ (t : List ℕ). cut ++ t) c.requires.text ∙ sym (append_assoc cut c.requires.front (10 ∷ [])) in
    let free : HasNoFeed front = All-append (λ b. b ≢ 10) cut c.requires.front has.feedless c.requires.feedless in
    let ended = whole_line c.in_ok-read_line.field-0 (λ r. r.now) c.args.self.now.hearing c.read_line.new.hearing c.bytes.result.now front free whole c.in_ok-read_line.ensures.read has.ended has.lines in
    record {
      ended = has.ended ++ (cut ++ end);
      text = ap (λ (t : List ℕ). t ++ end) has.text ∙ append_assoc has.ended cut end ∙ sym (append-nil (has.ended ++ (cut ++ end))) ∙ ap (λ (t : List ℕ). (has.ended ++ (cut ++ end)) ++ t) (sym c.clear.ensures);
      feedless = subst HasNoFeed (sym c.clear.ensures) (All-nil (λ b. b ≢ 10));
      lines = subst (λ t. HasEnded c.read_line.new.hearing (has.ended ++ t)) bytes ended;
    }
