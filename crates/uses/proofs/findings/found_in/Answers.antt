use Rattle.std.proofs.Common.{◌≡◌, ◌<◌, ◌+◌, ◌++◌, ◌∷◌, [], ℕ, List, Bor, length, take, drop, slice_index_or, refl, ap, sym, rules, subst, ◌∙◌, arith}
use Rattle.std.specs.Prelude.{flat_map}
use Rattle.std.proofs.lemmas.Grind.{flat_map-append}
use Rattle.std.proofs.lemmas.List.{append-nil, append_assoc, take-append-drop, take_all, take_more}
use Rattle.queue_calls.specs.Recordings.{IsFindingOf, RefusesText}
use Rattle.queue_calls.specs.RecordingStates.{HasRead}
use Rattle.lists.proofs.Results.{then_value as if_ok}
use Rattle.uses.proofs.findings.found_in.Goals as goal
use Rattle.lists.proofs.Results.{then_err as if_err}

-- the bytes of one more piece
one_more : (pieces : List (Bor (List ℕ))) (index : ℕ) (d : Bor (List ℕ)) → index < length pieces
    → flat_map (λ piece. piece.now) (take index pieces) ++ (slice_index_or pieces index d).now ≡ flat_map (λ piece. piece.now) (take (index + 1) pieces)
one_more pieces index d less =
    let f : Bor (List ℕ) → List ℕ = λ piece. piece.now in
    sym (ap (flat_map f) (take_more pieces index d less) ∙ flat_map-append f (take index pieces) (slice_index_or pieces index d ∷ [])
    ∙ ap (λ (t : List ℕ). flat_map f (take index pieces) ++ t) (append-nil (slice_index_or pieces index d).now))

pub pieces-preserved : goal.pieces-preserved
pieces-preserved g c = (
  subst (λ t. HasRead (λ q. q.items) (λ q. q.items) (λ v. v.items) c.read.new.self t) (one_more c.args.pieces.now c.pieces.piece-index _ (omega (arith, c.pieces-test.true)))
      (c.in_ok-read.ensures.read _ c.pieces.invariant.0),
  refl,
)

-- the pieces before this one, this one, and those after it
all_pieces : (pieces : List (Bor (List ℕ))) (index : ℕ) (d : Bor (List ℕ)) → index < length pieces
    → flat_map (λ piece. piece.now) (take index pieces) ++ ((slice_index_or pieces index d).now ++ flat_map (λ piece. piece.now) (drop (index + 1) pieces))
    ≡ flat_map (λ piece. piece.now) pieces
all_pieces pieces index d less =
    let f : Bor (List ℕ) → List ℕ = λ piece. piece.now in
    sym (append_assoc (flat_map f (take index pieces)) (slice_index_or pieces index d).now (flat_map f (drop (index + 1) pieces)))
    ∙ ap (λ t. t ++ flat_map f (drop (index + 1) pieces)) (one_more pieces index d less)
    ∙ sym (flat_map-append f (take (index + 1) pieces) (drop (index + 1) pieces)) ∙ ap (flat_map f) (take-append-drop (index + 1) pieces)

pub returns-in_err-read-clause-refused : goal.returns-in_err-read-clause-refused
returns-in_err-read-clause-refused g c =
    let refused : RefusesText c.in_err-read.field-0.0 (flat_map (λ piece. piece.now) c.args.pieces.now) =
    subst (RefusesText c.in_err-read.field-0.0) (all_pieces c.args.pieces.now c.pieces.piece-index _ (omega (arith, c.pieces-test.true)))
    (c.in_err-read.ensures.refused _ (flat_map (λ piece. piece.now) (drop (c.pieces.piece-index + 1) c.args.pieces.now)) c.pieces.invariant.0) in
    search (rules, refused)

pub returns-clause-found : goal.returns-clause-found
returns-clause-found g c =
    let all : take c.pieces.piece-index c.args.pieces.now ≡ c.args.pieces.now = take_all c.pieces.piece-index c.args.pieces.now (omega (arith, c.pieces-test.false)) in
    if_ok c.finding.result c.finding.ensures.found (λ finding found. subst (λ t. IsFindingOf (flat_map (λ piece. piece.now) t) finding) all (found _ c.pieces.invariant.0))

pub returns-clause-refused : goal.returns-clause-refused
returns-clause-refused g c =
    let all : take c.pieces.piece-index c.args.pieces.now ≡ c.args.pieces.now = take_all c.pieces.piece-index c.args.pieces.now (omega (arith, c.pieces-test.false)) in
    if_err c.finding.result c.finding.ensures.refused (λ e refused. subst (λ t. RefusesText e (flat_map (λ piece. piece.now) t)) all (refused _ c.pieces.invariant.0))
