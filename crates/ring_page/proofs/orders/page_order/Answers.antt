use Rattle.std.proofs.Common.{◌≡◌, ◌∙◌, List, None, Some, get_or, length, reverse, subst, sym, take, arith}
use Rattle.std.proofs.lemmas.List.{take_all, take_more}
use Rattle.std.proofs.lemmas.Option.{slice_get-get_or, slice_get_past}
use Rattle.queue_calls.specs.Calls.{LeadTo}
use Rattle.queue_points.specs.Points.{point_of}
use Rattle.queue_calls.specs.declared.hearings.Begun.TheVariants.{Nothing}
use Rattle.ring_page.specs.declared.orders.Came.{Came}
use Rattle.ring_page.specs.Order.{HaveCome, TellMarks, capacity_in}
use Rattle.ring_page.proofs.Following.{nowhere_behind}
use Rattle.ring_page.proofs.orders.page_order.Goals as goal

pub returns-then-not-follow : goal.returns-then-not-follow
returns-then-not-follow c =
    let i = c.loop-place.invariant in
    let m = c.loop-place.points in
    let marks = c.args.marks.now in
    let k = c.loop-place.place in
    let here : Came = get_or marks k (record { kind = 0; value = 0; count = 0 }) in
    record {
      few = omega arith;
      order = i.order;
      told = i.told;
      point = point_of m;
      leads = subst (λ q. LeadTo q (reverse i.order) (point_of m)) i.capacity_is i.followed;
      all = λ next is.
          (let both : Some here ≡ Some next = sym (slice_get-get_or marks k (record { kind = 0; value = 0; count = 0 }) c.loop-place-test.true) ∙ is in
          let same : here ≡ next = cc in
          nowhere_behind c.args.numbers.now c.args.items.now (take k marks) here next (capacity_in c.args.holds.now) m c.loop-place.begun i same (c.follow.ensures.not c.if-not-follow.true));
    }

pub loop-place-preserved : goal.loop-place-preserved
loop-place-preserved c =
    let marks = c.args.marks.now in
    let k = c.loop-place.place in
    subst (λ (l : List Came). HaveCome c.args.numbers.now c.args.items.now l (capacity_in c.args.holds.now) c.follow.new.points c.follow.new.begun)
    (sym (take_more marks k (record { kind = 0; value = 0; count = 0 }) c.loop-place-test.true))
    (c.follow.ensures.came c.args.items.now (take k marks) (capacity_in c.args.holds.now) c.loop-place.invariant c.if-not-follow.false)

pub returns : goal.returns
returns c =
    let i = c.loop-place.invariant in
    let m = c.loop-place.points in
    let marks = c.args.marks.now in
    let all : take c.loop-place.place marks ≡ marks = take_all c.loop-place.place marks c.loop-place-test.false in
    let whole : take (length marks) marks ≡ marks = take_all (length marks) marks (omega arith) in
    record {
      few = omega arith;
      order = i.order;
      told = subst (λ (l : List Came). TellMarks Nothing c.args.numbers.now l i.order) (all ∙ sym whole) i.told;
      point = point_of m;
      leads = subst (λ q. LeadTo q (reverse i.order) (point_of m)) i.capacity_is i.followed;
      all = λ next is. (let clash : None ≡ Some next = sym (slice_get_past marks (length marks) (omega arith)) ∙ is in absurd (cc));
    }
