-- A program of puts with one more put.
use Rattle.std.proofs.Common.{◌≡◌, ℕ, ◌%◌, Option, Some, List, [], ◌∷◌, ◌++◌, refl, ap, ◌∙◌, append-nil, sym, append_assoc, arith}
use Rattle.ring_core.proofs.Common.{Shape, modulus_of, unary_writes, row_writes, number_past, Count, first_count, IsCount, all_put}
use Rattle.register_core.specs.Row.{bits_after}
use Rattle.ring_core.specs.declared.replies.BatchReply.{BatchReply}
use Rattle.ring_core.specs.Puts.{Put, Puts, Stored, Full, stored_after, stored_count, put_values, put_phrase, put_phrases, put_program, IsPut, ArePuts}
use Rattle.ring_core.specs.ProducerCalls.{count_of, and_put, put_reply_to, last_put_reply}
use Rattle.ring_core.proofs.CountRow.{value_held, first_is_count, counted_is_count}
use Rattle.ring_core.proofs.Readings.ByCalls.{puts_go_by_calls, calls-push, state-push}

-- the accesses of puts and one more
pub phrases-push :
    (shape : Shape) (c : Count) (xs : List Put) (x : Put) →
    put_phrases shape c (xs ++ x ∷ []) ≡ put_phrases shape c xs ++ put_phrase shape (stored_count shape c xs) x
phrases-push shape = calls-push (puts_go_by_calls shape)

-- their count
pub stored-push : (shape : Shape) (c : Count) (xs : List Put) (x : Put) → stored_count shape c (xs ++ x ∷ []) ≡ stored_after shape (stored_count shape c xs) x
stored-push shape = state-push (puts_go_by_calls shape)

pub are-push :
    (shape : Shape) (c : Count) (xs : List Put) (x : Put) → ArePuts shape c.number xs → IsPut shape (stored_count shape c xs).number x →
    ArePuts shape c.number (xs ++ x ∷ [])
are-push shape c [] x are is = (is, tt)
are-push shape c (y ∷ xs) x (here, are) is = (here, are-push shape (stored_after shape c y) xs x are is)

pub are-last : (shape : Shape) (c : Count) (xs : List Put) (x : Put) → ArePuts shape c.number (xs ++ x ∷ []) → IsPut shape (stored_count shape c xs).number x
are-last shape c [] x (is, nothing) = is
are-last shape c (y ∷ xs) x (here, are) = are-last shape (stored_after shape c y) xs x are

-- the bits after puts are those of a count
pub stored_is_count : (shape : Shape) (c : Count) (xs : List Put) → IsCount shape c → IsCount shape (stored_count shape c xs)
stored_is_count shape c [] is = is
stored_is_count shape c (Stored seen items ∷ xs) is = stored_is_count shape (stored_after shape c (Stored seen items)) xs (counted_is_count shape c items)
stored_is_count shape c (Full seen ∷ xs) is = stored_is_count shape c xs is

pub calls_are_count : (shape : Shape) (calls : Puts) → IsCount shape (count_of shape calls)
calls_are_count shape calls = stored_is_count shape first_count calls.puts (first_is_count shape)

-- and those that result from the writes of the values
pub values_hold :
    (shape : Shape) (c : Count) (xs : List Put) →
    bits_after c.bits (row_writes (unary_writes c.bits (put_values shape c.number xs))) ≡ (stored_count shape c xs).bits
values_hold shape c [] = refl
values_hold shape c (Stored seen items ∷ xs) = value_held shape c items _ _ (values_hold shape (stored_after shape c (Stored seen items)) xs)
values_hold shape c (Full seen ∷ xs) = values_hold shape c xs

pub values-push :
    (shape : Shape) (c : Count) (xs : List Put) (seen : ℕ) (items : List ℕ) →
    put_values shape c.number (xs ++ Stored seen items ∷ []) ≡ put_values shape c.number xs ++ number_past (stored_count shape c xs).number items % modulus_of shape ∷ []
values-push shape c [] seen items = refl
values-push shape c (Stored u i ∷ xs) seen items = grind (arith, values-push shape (stored_after shape c (Stored u i)) xs seen items)
values-push shape c (Full u ∷ xs) seen items = values-push shape c xs seen items

pub values-full : (shape : Shape) (c : Count) (xs : List Put) (seen : ℕ) → put_values shape c.number (xs ++ Full seen ∷ []) ≡ put_values shape c.number xs
values-full shape c [] seen = refl
values-full shape c (Stored u i ∷ xs) seen = grind (arith, values-full shape (stored_after shape c (Stored u i)) xs seen)
values-full shape c (Full u ∷ xs) seen = values-full shape c xs seen

pub reply-push : (first : Option BatchReply) (xs : List Put) (x : Put) → last_put_reply first (xs ++ x ∷ []) ≡ Some (put_reply_to x)
reply-push first [] x = refl
reply-push first (y ∷ xs) x = reply-push (Some (put_reply_to y)) xs x

-- the items that puts have put, and one more put
pub all_put-push : (xs : List Put) (seen : ℕ) (items : List ℕ) → all_put (xs ++ Stored seen items ∷ []) ≡ all_put xs ++ items
all_put-push [] seen items = append-nil items
all_put-push (Stored u i ∷ xs) seen items = ap (λ l. i ++ l) (all_put-push xs seen items) ∙ sym (append_assoc i (all_put xs) items)
all_put-push (Full u ∷ xs) seen items = all_put-push xs seen items

pub all_put-full : (xs : List Put) (seen : ℕ) → all_put (xs ++ Full seen ∷ []) ≡ all_put xs
all_put-full [] seen = refl
all_put-full (Stored u i ∷ xs) seen = ap (λ l. i ++ l) (all_put-full xs seen)
all_put-full (Full u ∷ xs) seen = all_put-full xs seen

-- the accesses of the calls and one more put
pub program-push :
    (shape : Shape) (calls : Puts) (x : Put) →
    put_program shape (and_put calls x) ≡ put_phrases shape first_count calls.puts ++ put_phrase shape (count_of shape calls) x
program-push shape calls x = append-nil (put_phrases shape first_count (calls.puts ++ x ∷ [])) ∙ phrases-push shape first_count calls.puts x
