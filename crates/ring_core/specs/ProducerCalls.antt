-- The producer's machine together with the accesses that it has made and the calls that these are.
use Rattle.std.specs.Prelude.{◌≡◌, ◌⊎◌, ℕ, ◌<◌, ◌%◌, Bool, true, false, Option, Some, None, List, [], ◌∷◌, ◌++◌, length, take}
use Rattle.bits_core.specs.declared.events.Side.TheVariants.{P}
use Rattle.bits_core.specs.declared.events.Access.{Access}
use Rattle.bits_core.specs.declared.shapes.Shape.{Shape}
use Rattle.bits_core.specs.Shape.{capacity_of, modulus_of, width_of}
use Rattle.bits_core.specs.Made.{Made, answered, IsPrefix}
use Rattle.register_core.specs.WordState.{WriterStands}
use Rattle.register_core.specs.ScanState.{scan_phrase, new_scan, row_read_by, ScanStands}
use Rattle.register_core.specs.Unary.{count_writes}
use Rattle.register_core.specs.UnaryState.{new_row, UnaryStands}
use Rattle.ring_core.specs.declared.replies.BatchReply as replies
use Rattle.ring_core.specs.declared.replies.BatchReply.TheVariants as reply
use Rattle.ring_core.specs.declared.producers.Stage.{Stage}
use Rattle.ring_core.specs.declared.producers.Stage.TheVariants.{Idle, Scanning, Storing, Counting, Closing}
use Rattle.ring_core.specs.Counts.{LeavesRoomFor, number_past, Count, first_count}
use Rattle.ring_core.specs.Puts as puts
use Rattle.ring_core.specs.Puts.{Puts, Stored, Full, stored_count, put_values, words_phrase, put_phrases, put_program, ArePuts}
use Rattle.ring_core.specs.Calls.{LastBitIsDue}
use Rattle.ring_core.specs.Lengths.{longest_put, longest_batch}
use Rattle.ring_core.specs.ProducerState.{ProducerState, Call, Put, Close, call_of, due_put}
pub use Rattle.ring_core.specs.Puts.{room_in, IsPutOf}

-- no calls
abbrev pub no_puts : Puts
no_puts = record { puts = []; closes = false }

-- a producer that has made no access
abbrev pub new_producer : Shape → ProducerState
new_producer shape = record {
  shape = shape;
  count = 0;
  cell = 0;
  stage = Idle;
  scan = new_scan P (modulus_of shape);
  word = record { width = width_of shape; cell = 0; item = 0; written = 0 };
  row = new_row P (modulus_of shape);
  closed = false;
  items = [];
  most = 0;
  index = 0;
  batched = false;
  reply = None;
}

-- ---- one more call

-- the count that these calls result in
abbrev pub count_of : Shape → Puts → Count
count_of shape calls = stored_count shape first_count calls.puts

-- the values that they write to the count
abbrev pub values_of : Shape → Puts → List ℕ
values_of shape calls = put_values shape 0 calls.puts

-- the calls of a program and one more put
abbrev pub and_put : Puts → puts.Put → Puts
and_put calls x = record { puts = calls.puts ++ x ∷ []; closes = false }

-- and the close
abbrev pub and_close : Puts → Puts
and_close calls = record { puts = calls.puts; closes = true }

-- the second calls are a program: the first ones and the call that was started
abbrev pub HasCallMore : Shape → Call → Puts → Puts → Type 0
HasCallMore shape (Put items) calls more =
    (x : puts.Put) × IsPutOf shape (count_of shape calls).number items x × (more ≡ and_put calls x) × ArePuts shape 0 more.puts × (calls.closes ≡ false)
HasCallMore shape Close calls more = (more ≡ and_close calls) × ArePuts shape 0 more.puts × (calls.closes ≡ false)

-- the most accesses of a put of these items
abbrev pub longest_of : Shape → List ℕ → ℕ
longest_of shape [] = longest_put shape
longest_of shape (item ∷ []) = longest_put shape
longest_of shape (item ∷ next ∷ items) = longest_batch shape (length (item ∷ next ∷ items))

-- the most accesses of a call
abbrev pub longest : Shape → Call → ℕ
longest shape (Put items) = longest_of shape items
longest shape Close = 1

-- the accesses are those of the calls and a prefix of the call that was started
abbrev pub BeginsCall : Shape → Call → Puts → List Made → Type 0
BeginsCall shape c calls made = (more : Puts) × HasCallMore shape c calls more × IsPrefix made (put_program shape more)

-- After these calls, with these accesses made, the call under way continues with the access: whatever it returns, except
-- for a 0 of the last bit of the count, the accesses made followed by it are a prefix of those of the calls and the one
-- under way.
abbrev pub PutGoesOn : Shape → Puts → Call → List Made → Access → Type 0
PutGoesOn shape calls c made access = (answer : Bool) → (LastBitIsDue shape P (Some access) → answer ≡ true) → BeginsCall shape c calls (made ++ answered access answer ∷ [])

-- ---- replies

-- the reply of a put
abbrev pub put_reply_to : puts.Put → replies.BatchReply
put_reply_to (Stored seen items) = reply.Stored (length items)
put_reply_to (Full seen) = reply.Full

-- the reply of the last of these puts
abbrev pub last_put_reply : Option replies.BatchReply → List puts.Put → Option replies.BatchReply
last_put_reply first [] = first
last_put_reply first (x ∷ puts) = last_put_reply (Some (put_reply_to x)) puts

-- the reply while no call is under way: after a close there is none, and each put is refused
abbrev pub IsReplyAtRest : Bool → List puts.Put → Option replies.BatchReply → Type 0
IsReplyAtRest false puts answer = answer ≡ last_put_reply None puts
IsReplyAtRest true puts answer = (answer ≡ None) ⊎ (answer ≡ Some reply.Closed)

-- There is no reply before the first put, during a call, and after a close; otherwise it is that of the last put. A put
-- that starts after a close returns at once.
abbrev pub IsReplyToCall : Puts → Option Call → Option replies.BatchReply → Type 0
IsReplyToCall calls (Some c) answer = answer ≡ None
IsReplyToCall calls None answer = IsReplyAtRest calls.closes calls.puts answer

-- whether a close is among the calls or under way
abbrev pub closes_with : Puts → Option Call → Bool
closes_with calls None = calls.closes
closes_with calls (Some (Put items)) = false
closes_with calls (Some Close) = true

-- ---- standing

-- the row has made the writes of the calls
abbrev pub ProducerRowRests : ProducerState → Puts → Type 0
ProducerRowRests p calls = UnaryStands p.row (values_of p.shape calls) (count_writes P (values_of p.shape calls))

-- the scan of the put under way returned this value, which leaves room for the items that it stores, and for no more of
-- those offered
pub record HasSeen (shape : Shape) (items : List ℕ) (most n seen : ℕ) : Type 0 where
  pub below : seen < modulus_of shape
  pub room : LeavesRoomFor shape (n % modulus_of shape) seen most
  pub kept : take most items ≡ take (room_in shape (n % modulus_of shape) seen) items

-- the accesses made, by the stage: those of the calls, and what was made of the one under way, starting at the count of the calls
abbrev pub ProducerMadeAt : Stage → ProducerState → Puts → List Made → Type 0
ProducerMadeAt Idle p calls made = ProducerRowRests p calls × (made ≡ put_program p.shape calls)
ProducerMadeAt Scanning p calls made =
    ProducerRowRests p calls × (reads : List Made) × ScanStands p.scan reads × (made ≡ put_phrases p.shape first_count calls.puts ++ reads)
ProducerMadeAt Storing p calls made =
    ProducerRowRests p calls × (seen : ℕ) × HasSeen p.shape p.items p.most (count_of p.shape calls).number seen ×
    (writes : List Made) × WriterStands p.word writes ×
    (made ≡
    put_phrases p.shape first_count calls.puts ++
    (scan_phrase (row_read_by P) seen ++ words_phrase p.shape (count_of p.shape calls).number (take p.index p.items) ++ writes))
ProducerMadeAt Counting p calls made =
    (seen : ℕ) × HasSeen p.shape p.items p.most (count_of p.shape calls).number seen ×
    (writes : List Made) ×
    UnaryStands p.row (values_of p.shape calls ++ number_past (count_of p.shape calls).number (take p.most p.items) % modulus_of p.shape ∷ [])
    (count_writes P (values_of p.shape calls) ++ writes) ×
    (made ≡
    put_phrases p.shape first_count calls.puts ++
    (scan_phrase (row_read_by P) seen ++ words_phrase p.shape (count_of p.shape calls).number (take p.most p.items) ++ writes))
ProducerMadeAt Closing p calls made = ProducerRowRests p calls × (made ≡ put_phrases p.shape first_count calls.puts)

-- if a call is under way, no close was made
abbrev pub IsOpenForCall : Option Call → Puts → Type 0
IsOpenForCall None calls = Unit {0}
IsOpenForCall (Some c) calls = calls.closes ≡ false

-- the producer stands after these accesses: those of the calls, and then of the one under way
pub record ProducerStands (p : ProducerState) (calls : Puts) (made : List Made) : Type 0 where
  pub are : ArePuts p.shape 0 calls.puts
  pub count_is : p.count ≡ (count_of p.shape calls).number % modulus_of p.shape
  pub cell_is : p.cell ≡ (count_of p.shape calls).number % capacity_of p.shape
  pub closed_is : p.closed ≡ closes_with calls (call_of p)
  pub not_over : IsOpenForCall (call_of p) calls
  pub reply_is : IsReplyToCall calls (call_of p) p.reply
  pub made_is : ProducerMadeAt p.stage p calls made

-- ---- after an access

-- The call under way continues and the calls are the same, or it is over and is the last of the calls. After a close
-- there is no reply.
abbrev pub IsAfterCall : Shape → Option Call → Option Call → Puts → Puts → Option replies.BatchReply → Type 0
IsAfterCall shape None now calls more answer = ⊥
IsAfterCall shape (Some c) (Some d) calls more answer = (d ≡ c) × (more ≡ calls)
IsAfterCall shape (Some c) None calls more answer = HasCallMore shape c calls more × (c ≡ Close → answer ≡ None)

-- once the due access has been made, the producer stands after the accesses made, with the same calls or one more
abbrev pub ProducerHasMoved : ProducerState → ProducerState → Puts → List Made → Type 0
ProducerHasMoved old new calls made = (more : Puts) × ProducerStands new more made × IsAfterCall old.shape (call_of old) (call_of new) calls more new.reply

-- whatever calls the accesses made were of, they are still of these
abbrev pub ProducerStays : ProducerState → ProducerState → Type 0
ProducerStays old new = (calls : Puts) (made : List Made) → ProducerStands old calls made → ProducerStands new calls made

-- the due access was made with this answer
abbrev pub ProducerMoves : ProducerState → (answer : Bool) → ProducerState → Type 0
ProducerMoves old answer new =
    (calls : Puts) (made : List Made) (access : Access) → ProducerStands old calls made → due_put old ≡ Some access → ProducerHasMoved old new calls (made ++ answered access answer ∷ [])
