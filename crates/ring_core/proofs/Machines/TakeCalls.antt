-- A program of takes with one more take, or with the take that returns Closed.
use Rattle.std.proofs.Common.{Bool, true, ◌≡◌, ℕ, zero, suc, ◌+◌, ◌-◌, ◌%◌, Option, Some, List, [], ◌∷◌, ◌++◌, length, refl, sym, ap, ◌∙◌, arith, append_assoc, append-nil, length-append}
use Rattle.std.proofs.lemmas.Nat.{pow_pos}
use Rattle.ring_core.proofs.Common.{Shape, AllFit, capacity_of, modulus_of, width_of, Access, unary_writes, row_writes, number_past, Count, first_count, IsCount, Tells, all_taken, taken_of}
use Rattle.ring_core.proofs.Common.{ConsumerState, consumer_due_at, takes_at}
use Rattle.register_core.specs.Row.{bits_after}
use Rattle.register_core.specs.Phrases.{word_read}
use Rattle.ring_core.specs.declared.replies.TakeReply.{TakeReply}
use Rattle.ring_core.specs.Takes.{Take, Takes, Item, ItemAfterClose, Empty, Open, Closed, count_after, taken_count, words_read, items_phrase, take_phrase, take_phrases, take_program, IsTake, SeesNone, IsTakeBatch, AreTakes, End}
use Rattle.ring_core.proofs.Machines.OneWordMore.{WordsGoOn}
use Rattle.ring_core.specs.ConsumerCalls.{Finding, Once, Twice, finding_phrase, Finds, IsTakeOf, count_taken, take_values, and_take, items_reply, take_reply_to, last_take_reply, last_items, take_batch_reply, IsReplyToTake, AreItemsOfTake, IsBatchReplyToTake, ends_closed}
use Rattle.ring_core.specs.declared.consumers.Stage.{Stage}
use Rattle.ring_core.proofs.CountRow.{value_held, first_is_count, counted_is_count}
use Rattle.ring_core.proofs.Readings.ByCalls.{takes_go_by_calls, calls-push}

-- the accesses of takes and one more
pub phrases-push :
    (shape : Shape) (c : Count) (xs : List Take) (x : Take) →
    take_phrases shape c (xs ++ x ∷ []) ≡ take_phrases shape c xs ++ take_phrase shape (taken_count shape c xs) x
phrases-push shape = calls-push (takes_go_by_calls shape)

-- these are takes if the last one is
pub are-push :
    (shape : Shape) (c : Count) (xs : List Take) (x : Take) → AreTakes shape c.number xs Open → IsTake shape (taken_count shape c xs).number x →
    AreTakes shape c.number (xs ++ x ∷ []) Open
are-push shape c [] x are is = (is, record {})
are-push shape c (y ∷ xs) x (here, are) is = (here, are-push shape (count_after shape c y) xs x are is)

-- and then the last one is
pub are-last : (shape : Shape) (c : Count) (xs : List Take) (x : Take) → AreTakes shape c.number (xs ++ x ∷ []) Open → IsTake shape (taken_count shape c xs).number x
are-last shape c [] x (is, end) = is
are-last shape c (y ∷ xs) x (here, are) = are-last shape (count_after shape c y) xs x are

-- takes, and then one that returns Closed
pub are-end :
    (shape : Shape) (c : Count) (xs : List Take) (seen again : ℕ) → AreTakes shape c.number xs Open → SeesNone shape (taken_count shape c xs).number seen →
    SeesNone shape (taken_count shape c xs).number again → AreTakes shape c.number xs (Closed seen again)
are-end shape c [] seen again are none none' = (none, none')
are-end shape c (y ∷ xs) seen again (here, are) none none' = (here, are-end shape (count_after shape c y) xs seen again are none none')

-- the take that returns Closed saw no item
pub end-sees_none :
    (shape : Shape) (c : Count) (xs : List Take) (seen again : ℕ) → AreTakes shape c.number xs (Closed seen again) →
    SeesNone shape (taken_count shape c xs).number seen × SeesNone shape (taken_count shape c xs).number again
end-sees_none shape c [] seen again are = are
end-sees_none shape c (y ∷ xs) seen again (here, are) = end-sees_none shape (count_after shape c y) xs seen again are

-- the last reply is that to the last take, and the last items are its items
pub reply-push : (first : Option TakeReply) (xs : List Take) (x : Take) → last_take_reply first (xs ++ x ∷ []) ≡ Some (take_reply_to x)
reply-push first [] x = refl
reply-push first (y ∷ xs) x = reply-push (Some (take_reply_to y)) xs x

pub items-push : (first : List ℕ) (xs : List Take) (x : Take) → last_items first (xs ++ x ∷ []) ≡ taken_of x
items-push first [] x = refl
items-push first (y ∷ xs) x = items-push (taken_of y) xs x

pub all_taken-push : (xs : List Take) (x : Take) → all_taken (xs ++ x ∷ []) ≡ all_taken xs ++ taken_of x
all_taken-push [] x = append-nil (taken_of x)
all_taken-push (y ∷ xs) x = ap (λ l. taken_of y ++ l) (all_taken-push xs x) ∙ sym (append_assoc (taken_of y) (all_taken xs) (taken_of x))

-- the last take returned Closed
pub closed_tells : (end : End) → ends_closed end ≡ true → Tells end
closed_tells end e = grind arith

-- a take is under way while an access is due
pub due_at-takes : (st : Stage) (p : ConsumerState) (a : Access) → consumer_due_at st p ≡ Some a → takes_at st ≡ true
due_at-takes st p a e = grind arith

-- ---- the count's writes

-- the bits after takes are those that result from the writes of the values
pub values_hold :
    (shape : Shape) (c : Count) (xs : List Take) →
    bits_after c.bits (row_writes (unary_writes c.bits (take_values shape c.number xs))) ≡ (taken_count shape c xs).bits
values_hold shape c [] = refl
values_hold shape c (Item seen items ∷ xs) = value_held shape c items _ _ (values_hold shape (count_after shape c (Item seen items)) xs)
values_hold shape c (ItemAfterClose seen again items ∷ xs) = value_held shape c items _ _ (values_hold shape (count_after shape c (ItemAfterClose seen again items)) xs)
values_hold shape c (Empty seen ∷ xs) = values_hold shape c xs

pub values-empty : (shape : Shape) (c : Count) (xs : List Take) (seen : ℕ) → take_values shape c.number (xs ++ Empty seen ∷ []) ≡ take_values shape c.number xs
values-empty shape c [] seen = refl
values-empty shape c (Item u i ∷ xs) seen = grind (arith, values-empty shape (count_after shape c (Item u i)) xs seen)
values-empty shape c (ItemAfterClose u v i ∷ xs) seen = grind (arith, values-empty shape (count_after shape c (ItemAfterClose u v i)) xs seen)
values-empty shape c (Empty u ∷ xs) seen = values-empty shape c xs seen

-- the bits after takes are those of a count
taken_is_count : (shape : Shape) (c : Count) (xs : List Take) → IsCount shape c → IsCount shape (taken_count shape c xs)
taken_is_count shape c [] is = is
taken_is_count shape c (Item seen items ∷ xs) is = taken_is_count shape (count_after shape c (Item seen items)) xs (counted_is_count shape c items)
taken_is_count shape c (ItemAfterClose seen again items ∷ xs) is =
    taken_is_count shape (count_after shape c (ItemAfterClose seen again items)) xs (counted_is_count shape c items)
taken_is_count shape c (Empty seen ∷ xs) is = taken_is_count shape (count_after shape c (Empty seen)) xs is

pub calls_are_count : (shape : Shape) (calls : Takes) → IsCount shape (count_taken shape calls)
calls_are_count shape calls = taken_is_count shape first_count calls.takes (first_is_count shape)

-- the accesses of the calls and one more take
pub program-push :
    (shape : Shape) (calls : Takes) (x : Take) →
    take_program shape (and_take calls x) ≡ take_phrases shape first_count calls.takes ++ take_phrase shape (count_taken shape calls) x
program-push shape calls x = append-nil (take_phrases shape first_count (calls.takes ++ x ∷ [])) ∙ phrases-push shape first_count calls.takes x

-- ---- a take that found items

-- the take that found items with these scans
abbrev pub take_of : Finding → List ℕ → Take
take_of (Once seen) items = Item seen items
take_of (Twice seen again) items = ItemAfterClose seen again items

pub take_of-is : (shape : Shape) (k wanted : ℕ) (look : Finding) (items : List ℕ) → Finds shape k wanted look (length items) → IsTakeBatch shape items → IsTake shape k (take_of look items) × IsTakeOf shape k wanted (take_of look items)
take_of-is shape k wanted look items h1 batch = grind arith

-- its items, its reply and its count
pub take_of-items : (look : Finding) (items : List ℕ) → taken_of (take_of look items) ≡ items
take_of-items look items = grind arith

pub take_of-replies : (look : Finding) (items : List ℕ) → take_reply_to (take_of look items) ≡ items_reply items
take_of-replies look items = grind arith

pub take_of-takes : (shape : Shape) (c : Count) (look : Finding) (items : List ℕ) → (count_after shape c (take_of look items)).number ≡ number_past c.number items
take_of-takes shape c look items = grind arith

-- the reply of a take by how many items it took
pub batched-reply :
    (calls : Takes) (taking : Bool) (reply : Option TakeReply) (items : List ℕ) → IsReplyToTake calls taking reply → AreItemsOfTake calls taking items →
    IsBatchReplyToTake calls taking (take_batch_reply reply items)
batched-reply calls taking reply items none any = grind arith

-- the values of the count with this take
pub values-push :
    (shape : Shape) (c : Count) (xs : List Take) (look : Finding) (items : List ℕ) →
    take_values shape c.number (xs ++ take_of look items ∷ []) ≡ take_values shape c.number xs ++ number_past (taken_count shape c xs).number items % modulus_of shape ∷ []
values-push shape c [] look items = grind arith
values-push shape c (Item u i ∷ xs) look items = grind (arith, values-push shape (count_after shape c (Item u i)) xs look items)
values-push shape c (ItemAfterClose u v i ∷ xs) look items = grind (arith, values-push shape (count_after shape c (ItemAfterClose u v i)) xs look items)
values-push shape c (Empty u ∷ xs) look items = values-push shape c xs look items

-- its accesses are those by which it found the items, and then those that take them
pub take_of-phrase : (shape : Shape) (c : Count) (look : Finding) (items : List ℕ) → take_phrase shape c (take_of look items) ≡ finding_phrase look ++ items_phrase shape c items
take_of-phrase shape c look items = grind arith

-- the words of items and one more
pub words_read-push :
    (shape : Shape) (n : ℕ) (items : List ℕ) (item : ℕ) →
    words_read shape n (items ++ item ∷ []) ≡ words_read shape n items ++ word_read (width_of shape) ((n + length items) % capacity_of shape) item
words_read-push shape n [] item = grind (arith, append-nil)
words_read-push shape n (x ∷ xs) item = grind (arith, append_assoc, words_read-push shape (suc n) xs item)

-- the words of two lists of items
pub words_read-append :
    (shape : Shape) (n : ℕ) (xs ys : List ℕ) → words_read shape n (xs ++ ys) ≡ words_read shape n xs ++ words_read shape (n + length xs) ys
words_read-append shape n [] ys = let none : n ≡ n + 0 = omega arith in ap (λ k. words_read shape k ys) none
words_read-append shape n (x ∷ xs) ys = grind (arith, append_assoc, words_read-append shape (suc n) xs ys)

-- items of 0
abbrev pub zeros : ℕ → List ℕ
zeros zero = []
zeros (suc n) = 0 ∷ zeros n

pub zeros-long : (n : ℕ) → length (zeros n) ≡ n
zeros-long zero = refl
zeros-long (suc n) = ap suc (zeros-long n)

pub zeros-fit : (shape : Shape) (n : ℕ) → AllFit shape (zeros n)
zeros-fit shape zero = tt
zeros-fit shape (suc n) = (pow_pos (width_of shape), zeros-fit shape n)

pub fit-append : (shape : Shape) (xs ys : List ℕ) → AllFit shape xs → AllFit shape ys → AllFit shape (xs ++ ys)
fit-append shape [] ys fit last = last
fit-append shape (x ∷ xs) ys (here, fit) last = (here, fit-append shape xs ys fit last)

-- items that fit, and one more
pub fit-push : (shape : Shape) (items : List ℕ) (item : ℕ) → AllFit shape items → AllFit shape (item ∷ []) → AllFit shape (items ++ item ∷ [])
fit-push shape [] item fit last = last
fit-push shape (x ∷ xs) item (here, fit) last = (here, fit-push shape xs item fit last)

-- so their words are a prefix of those of any greater number
pub words-go_on : WordsGoOn
words-go_on shape n many items few fit =
    let rest : List ℕ = zeros (many - length items) in (
      items ++ rest,
      omega (arith, few, length-append items rest, zeros-long (many - length items)),
      fit-append shape items rest fit (zeros-fit shape (many - length items)),
      (words_read shape (n + length items) rest, sym (words_read-append shape n items rest)),
    )
