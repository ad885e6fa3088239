-- A program with one more call.
use Rattle.std.proofs.Common.{◌≡◌, ℕ, ◌≤◌, true, [], ◌∷◌, ◌++◌, List, length, refl, arith, sym, ap, subst, ◌∙◌}
use Rattle.ring_core.proofs.Common.{X, Made, Write, first_count, put_phrase, count_of, Item, ItemAfterClose, Empty, Closed, take_phrase, end_phrase, AreTakes}
use Rattle.ring_core.specs.ConsumerCalls as takes
use Rattle.ring_core.specs.ConsumerCalls.{items_reply, reply_items}
use Rattle.ring_core.specs.OneCallMore.{PutsByOneMore, ClosesByOneMore, TakesByOneMore, EndsByOneMore, TakesOfOne}
use Rattle.ring_core.proofs.Machines.PutCalls as put
use Rattle.ring_core.proofs.Machines.TakeCalls as take
use Rattle.ring_core.proofs.Readings.ByCalls.{takes_go_by_calls, puts_open, takes_open, state-push}

pub puts-by_one : PutsByOneMore
puts-by_one shape calls x are opened is = record {
  are = put.are-push shape first_count calls.puts x are is;
  count_is = put.stored-push shape first_count calls.puts x;
  program_is = put.program-push shape calls x ∙ ap (λ (l : List Made). l ++ put_phrase shape (count_of shape calls) x) (sym (puts_open shape calls opened));
}

pub closes-by_one : ClosesByOneMore
closes-by_one shape calls opened = ap (λ (l : List Made). l ++ Write X true ∷ []) (sym (puts_open shape calls opened))

pub takes-by_one : TakesByOneMore
takes-by_one shape calls x are opened is = record {
  are = take.are-push shape first_count calls.takes x (subst (AreTakes shape 0 calls.takes) opened are) is;
  count_is = state-push (takes_go_by_calls shape) first_count calls.takes x;
  reply_is = take.reply-push _ calls.takes x;
  items_are = take.items-push _ calls.takes x;
  program_is = take.program-push shape calls x ∙ ap (λ (l : List Made). l ++ take_phrase shape (takes.count_taken shape calls) x) (sym (takes_open shape calls opened));
}

pub ends-by_one : EndsByOneMore
ends-by_one shape calls seen again are opened none none' = record {
  are = take.are-end shape first_count calls.takes seen again (subst (AreTakes shape 0 calls.takes) opened are) none none';
  program_is = ap (λ (l : List Made). l ++ end_phrase (Closed seen again)) (sym (takes_open shape calls opened));
}

-- a take of some items, and of at most one, is a take of one item
one_item :
    (items : List ℕ) → 1 ≤ length items → length items ≤ 1 → items ≡ reply_items (items_reply items)
one_item [] some few = absurd (omega (arith, some))
one_item (item ∷ []) some few = refl
one_item (item ∷ next ∷ items) some few = absurd (omega (arith, few))

pub takes-of_one : TakesOfOne
takes-of_one shape calls (Item seen items) are of = search (arith, one_item items ((take.are-last shape first_count calls.takes (Item seen items) are).1).some of.0)
takes-of_one shape calls (ItemAfterClose seen again items) are of =
    grind (arith, one_item items ((take.are-last shape first_count calls.takes (ItemAfterClose seen again items) are).2).some of.0)
takes-of_one shape calls (Empty seen) are of = refl
