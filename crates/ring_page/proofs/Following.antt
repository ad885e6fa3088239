-- Marks that came one after the other.
use Rattle.std.proofs.Common.{◌≡◌, ◌∙◌, ◌+◌, ℕ, Option, None, Some, option_map, if◌then◌else◌, refl, List, [], ◌∷◌, ◌++◌, reverse, sym, ap, subst, arith, Bool, true, false, IsTrue}
use Rattle.std.proofs.lemmas.List.{reverse-append}
use Rattle.std.proofs.lemmas.Bool.{false≢true, true≢false}
use Rattle.queue_calls.specs.Queue.{Capacity, Operation}
use Rattle.queue_calls.specs.Calls.{Event, Mark, Happens, Effect, Point, Leads, LeadTo}
use Rattle.queue_points.specs.Points.{Accepts, PutsIn, point_of, puts_in}
use Rattle.queue_calls.specs.Recordings.{Line, line, begun_after, event_told}
use Rattle.queue_calls.specs.Told.{meant}
use Rattle.call_lines.specs.declared.lines.Word.{Word}
use Rattle.queue_points.specs.declared.points.LinearizationPoints.{LinearizationPoints}
use Rattle.ring_page.specs.declared.orders.Came.{Came}
use Rattle.queue_calls.specs.declared.hearings.Begun.{Begun}
use Rattle.queue_calls.specs.declared.hearings.Begun.TheVariants.{Nothing}
use Rattle.ring_page.specs.Order.{HaveCome, LeadsNowhere, TellMarks, TellsMark, begun_with, begun_last, count_put, does_in, line_in, mark_told}

-- one more is read
pub told_one : (b : Begun) (numbers : List ℕ) (came : List Came) (order : List Mark) (c : Came) (mark : Mark) →
    TellMarks b numbers came order → TellsMark (begun_last b numbers came) numbers c mark → TellMarks b numbers (came ++ c ∷ []) (order ++ mark ∷ [])
told_one b numbers [] [] c mark told one = (one, tt)
told_one b numbers [] (m ∷ order) c mark told one = absurd told
told_one b numbers (x ∷ came) [] c mark told one = absurd told
told_one b numbers (x ∷ came) (m ∷ order) c mark told one = (told.0, told_one (begun_with b (line_in numbers x)) numbers came order c mark told.1 one)

-- what the producer began last, after one more
pub begun_one : (b : Begun) (numbers : List ℕ) (came : List Came) (c : Came) → begun_last b numbers (came ++ c ∷ []) ≡ begun_with (begun_last b numbers came) (line_in numbers c)
begun_one b numbers [] c = refl
begun_one b numbers (x ∷ came) c = begun_one (begun_with b (line_in numbers x)) numbers came c

-- one more is counted
pub put_one : (order : List Mark) (mark : Mark) → count_put (order ++ mark ∷ []) ≡ count_put order + puts_in mark
put_one [] mark = omega arith
put_one (m ∷ order) mark = let rest = put_one order mark in omega (arith, rest)

-- one more came
pub came_one : (numbers items : List ℕ) (before : List Came) (c : Came) (capacity : Capacity) (mark : Mark) (old new : LinearizationPoints) (b after : Begun) →
    HaveCome numbers items before capacity old b → TellsMark b numbers c mark → after ≡ begun_with b (line_in numbers c) → Accepts old mark true new
    → HaveCome numbers items (before ++ c ∷ []) capacity new after
came_one numbers items before c capacity mark old new b after h one begun accepts =
    let same : meant new.capacity ≡ meant old.capacity = ap meant accepts.1 in
    let last : mark ∷ reverse h.order ≡ reverse (h.order ++ mark ∷ []) = sym (reverse-append h.order (mark ∷ [])) in
    let led : LeadTo (meant old.capacity) (mark ∷ reverse h.order) (point_of new) = (point_of old, h.followed, accepts.0) in
    record {
      order = h.order ++ mark ∷ [];
      told = told_one Nothing numbers before h.order c mark h.told (subst (λ (x : Begun). TellsMark x numbers c mark) h.begun_is one);
      begun_is = begun ∙ ap (λ (x : Begun). begun_with x (line_in numbers c)) h.begun_is ∙ sym (begun_one Nothing numbers before c);
      followed = subst (λ k. LeadTo k (reverse (h.order ++ mark ∷ [])) (point_of new)) (sym same)
          (subst (λ (marks : List Mark). LeadTo (meant old.capacity) marks (point_of new)) last led);
      capacity_is = same ∙ h.capacity_is;
      row_is = accepts.2 ∙ h.row_is;
      place_is = accepts.3 ∙ ap (λ n. n + puts_in mark) h.place_is ∙ sym (put_one h.order mark);
    }

-- if it was accepted
pub came_so : (numbers items : List ℕ) (before : List Came) (c : Came) (capacity : Capacity) (mark : Mark) (result : Bool) (old new : LinearizationPoints) (b after : Begun) →
    HaveCome numbers items before capacity old b → TellsMark b numbers c mark → after ≡ begun_with b (line_in numbers c) → Accepts old mark result new → IsTrue result
    → HaveCome numbers items (before ++ c ∷ []) capacity new after
came_so numbers items before c capacity mark true old new b after h one begun accepts is = came_one numbers items before c capacity mark old new b after h one begun accepts
came_so numbers items before c capacity mark false old new b after h one begun accepts is = absurd (false≢true is)

told_is_one : {mark other : Mark} → Some mark ≡ Some other → mark ≡ other
told_is_one same = cc

-- if it was refused, no mark of these numbers leads on
pub refused_so : (b : Begun) (numbers : List ℕ) (c : Came) (mark : Mark) (result : Bool) (old new : LinearizationPoints) → TellsMark b numbers c mark → Accepts old mark result new →
    result ≡ false → LeadsNowhere b numbers old.row.now c (meant old.capacity) (point_of old) old.tail
refused_so b numbers c mark true old new one accepts is = absurd (true≢false is)
refused_so b numbers c mark false old new one accepts is =
    λ other told. subst (λ m. PutsIn old.row.now old.tail m → (t : Point) → ¬ Leads (meant old.capacity) (point_of old) m t)
    (told_is_one (sym one ∙ told)) accepts.1

-- ---- the event of a line, or an operation

module _ (numbers : List ℕ) (c : Came) (b : Begun) (word : Word) (told : List ℕ) (is_line : line_in numbers c ≡ Some (line word told)) where
  -- one that came
  pub line_came : (items : List ℕ) (before : List Came) (capacity : Capacity) (result : Bool) (old new : LinearizationPoints) (after : Begun) →
      (IsTrue result → (event : Event) × (event_told b word told ≡ Some event) × Accepts old (Happens event) true new) →
      after ≡ (if result then begun_after b word told else b) → HaveCome numbers items before capacity old b → IsTrue result
      → HaveCome numbers items (before ++ c ∷ []) capacity new after
  line_came items before capacity false old new after followed begun h is = absurd (false≢true is)
  line_came items before capacity true old new after followed begun h is =
      let (event, told_is, accepts) = followed is in
      came_one numbers items before c capacity (Happens event) old new b after h
      (ap (λ (l : Option Line). mark_told b l (does_in c)) is_line ∙ ap (λ (e : Option Event). option_map (λ x. Happens x) e) told_is)
      (begun ∙ ap (begun_with b) (sym is_line)) accepts

  happens_one : (o : Option Event) (mark : Mark) → option_map (λ x. Happens x) o ≡ Some mark → (event : Event) × (o ≡ Some event) × (Happens event ≡ mark)
  happens_one None mark is = absurd (cc)
  happens_one (Some event) mark is = (event, refl, told_is_one is)

  -- one that was refused
  pub line_refused : (old new : LinearizationPoints) → ((event : Event) → event_told b word told ≡ Some event → Accepts old (Happens event) false new)
      → LeadsNowhere b numbers old.row.now c (meant old.capacity) (point_of old) old.tail
  line_refused old new refused =
      λ mark tells. (let (event, told_is, same) = happens_one (event_told b word told) mark (sym (ap (λ (l : Option Line). mark_told b l (does_in c)) is_line) ∙ tells) in
      subst (λ (m : Mark). PutsIn old.row.now old.tail m → (t : Point) → ¬ Leads (meant old.capacity) (point_of old) m t) same (refused event told_is).1)

-- numbers that are not of a line are those of an operation's mark
pub tells_effect : (numbers : List ℕ) (c : Came) (b : Begun) (does : Operation) → line_in numbers c ≡ None → does_in c ≡ Some does → TellsMark b numbers c (Effect does)
tells_effect numbers c b does none is =
    ap (λ (l : Option Line). mark_told b l (does_in c)) none ∙ ap (λ (x : Option Operation). option_map (λ d. Effect d) x) is

-- and if they are of none, nothing leads on
pub tells_nothing : (numbers : List ℕ) (c : Came) (b : Begun) (old : LinearizationPoints) → line_in numbers c ≡ None → does_in c ≡ None
    → LeadsNowhere b numbers old.row.now c (meant old.capacity) (point_of old) old.tail
tells_nothing numbers c b old none is =
    λ mark tells. (let clash : None ≡ Some mark =
    sym (ap (λ (l : Option Line). mark_told b l (does_in c)) none ∙ ap (λ (x : Option Operation). option_map (λ d. Effect d) x) is) ∙ tells in absurd (cc))

-- the same for what has come
pub nowhere_behind : (numbers items : List ℕ) (before : List Came) (c next : Came) (capacity : Capacity) (m : LinearizationPoints) (b : Begun) (h : HaveCome numbers items before capacity m b) → c ≡ next →
    LeadsNowhere b numbers m.row.now c (meant m.capacity) (point_of m) m.tail
    → LeadsNowhere (begun_last Nothing numbers before) numbers items next capacity (point_of m) (count_put h.order)
nowhere_behind numbers items before c next capacity m b h same nowhere =
    subst (λ (x : Begun). LeadsNowhere x numbers items next capacity (point_of m) (count_put h.order)) h.begun_is
    (subst (λ (x : Came). LeadsNowhere b numbers items x capacity (point_of m) (count_put h.order)) same
    (subst (λ (k : Capacity). LeadsNowhere b numbers items c k (point_of m) (count_put h.order)) h.capacity_is
    (subst (λ (row : List ℕ). LeadsNowhere b numbers row c (meant m.capacity) (point_of m) (count_put h.order)) h.row_is
    (subst (λ (n : ℕ). LeadsNowhere b numbers m.row.now c (meant m.capacity) (point_of m) n) h.place_is nowhere))))
