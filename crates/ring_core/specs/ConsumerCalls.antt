-- The consumer's machine together with the accesses that it has made and the calls that these are.
use Rattle.std.specs.Prelude.{◌≡◌, ◌⊎◌, ℕ, ◌≤◌, ◌%◌, Bool, true, false, Option, Some, None, List, [], ◌∷◌, ◌++◌, length}
use Rattle.bits_core.specs.declared.events.Side.TheVariants.{C}
use Rattle.bits_core.specs.declared.events.Bit.TheVariants.{X}
use Rattle.bits_core.specs.declared.events.Access.{Access}
use Rattle.bits_core.specs.declared.shapes.Shape.{Shape}
use Rattle.bits_core.specs.Shape.{AllFit, capacity_of, modulus_of, width_of}
use Rattle.bits_core.specs.Made.{Made, Read, answered, IsPrefix}
use Rattle.register_core.specs.WordState.{ReaderStands}
use Rattle.register_core.specs.ScanState.{scan_phrase, new_scan, row_read_by, ScanStands}
use Rattle.register_core.specs.Unary.{count_writes}
use Rattle.register_core.specs.UnaryState.{new_row, UnaryStands}
use Rattle.ring_core.specs.declared.replies.TakeReply as replies
use Rattle.ring_core.specs.declared.replies.TakeReply.TheVariants as reply
use Rattle.ring_core.specs.declared.replies.TakeBatchReply as batch_replies
use Rattle.ring_core.specs.declared.replies.TakeBatchReply.TheVariants as batch_replied
use Rattle.ring_core.specs.declared.consumers.Stage.{Stage}
use Rattle.ring_core.specs.declared.consumers.Stage.TheVariants.{Idle, Scanning, Checking, Rescanning, Loading, Counting}
use Rattle.ring_core.specs.Counts.{distance, Count, first_count, number_past}
use Rattle.ring_core.specs.Takes.{Take, Item, ItemAfterClose, Empty, End, Open, Closed, Takes, taken_count, words_read, take_phrases, take_program, SeesItems, SeesNone, AreTakes}
use Rattle.ring_core.specs.Items.{taken_of}
use Rattle.ring_core.specs.Calls.{LastBitIsDue}
use Rattle.ring_core.specs.ConsumerState.{ConsumerState, due_take, is_taking}

-- no calls
abbrev pub no_takes : Takes
no_takes = record { takes = []; end = Open }

-- a consumer that has made no access
abbrev pub new_consumer : Shape → ConsumerState
new_consumer shape = record {
  shape = shape;
  count = 0;
  cell = 0;
  stage = Idle;
  scan = new_scan C (modulus_of shape);
  word = record { width = width_of shape; cell = 0; read = 0; value = 0 };
  row = new_row C (modulus_of shape);
  told = false;
  items = [];
  wanted = 0;
  most = 0;
  reply = None;
}

-- ---- one more call

-- the count that these takes result in
abbrev pub count_taken : Shape → Takes → Count
count_taken shape calls = taken_count shape first_count calls.takes

-- the values that takes write to the count, after k taken items
abbrev pub take_values : Shape → ℕ → List Take → List ℕ
take_values shape k [] = []
take_values shape k (Item seen items ∷ takes) = number_past k items % modulus_of shape ∷ take_values shape (number_past k items) takes
take_values shape k (ItemAfterClose seen again items ∷ takes) = number_past k items % modulus_of shape ∷ take_values shape (number_past k items) takes
take_values shape k (Empty seen ∷ takes) = take_values shape k takes

-- the values that these calls write to the count
abbrev pub values_taken : Shape → Takes → List ℕ
values_taken shape calls = take_values shape 0 calls.takes

-- the calls of a program and one more take
abbrev pub and_take : Takes → Take → Takes
and_take calls x = record { takes = calls.takes ++ x ∷ []; end = Open }

-- and the take that returns Closed
abbrev pub and_end : Takes → ℕ → ℕ → Takes
and_end calls seen again = record { takes = calls.takes; end = Closed seen again }

-- after k taken items, a take of at most `wanted` takes m: all that it asks for, or all that the count `seen` shows
abbrev pub TakesAll : Shape → ℕ → (wanted seen m : ℕ) → Type 0
TakesAll shape k wanted seen m = (m ≤ wanted) × ((m ≡ wanted) ⊎ (m ≡ distance (modulus_of shape) seen (k % modulus_of shape)))

-- after k taken items, the take is one of at most `wanted` items
abbrev pub IsTakeOf : Shape → ℕ → (wanted : ℕ) → Take → Type 0
IsTakeOf shape k wanted (Item seen items) = TakesAll shape k wanted seen (length items)
IsTakeOf shape k wanted (ItemAfterClose seen again items) = TakesAll shape k wanted again (length items)
IsTakeOf shape k wanted (Empty seen) = Unit {0}

-- the second calls are a program: the first ones and one more take, of at most `wanted` items
pub record HasTakeMore (shape : Shape) (wanted : ℕ) (calls more : Takes) : Type 0 where
  pub is_one_more : ((x : Take) × IsTakeOf shape (count_taken shape calls).number wanted x × (more ≡ and_take calls x)) ⊎ ((seen again : ℕ) × (more ≡ and_end calls seen again))
  pub are : AreTakes shape 0 more.takes more.end
  pub not_over : calls.end ≡ Open

-- the accesses are those of the calls and a prefix of one more take
abbrev pub BeginsTake : Shape → ℕ → Takes → List Made → Type 0
BeginsTake shape wanted calls made = (more : Takes) × HasTakeMore shape wanted calls more × IsPrefix made (take_program shape more)

-- After these calls, with these accesses made, a take continues with the access: whatever it returns, except for a 0 of the
-- last bit of the count, the accesses made followed by it are a prefix of those of the calls and one more take.
abbrev pub TakeGoesOn : Shape → ℕ → Takes → List Made → Access → Type 0
TakeGoesOn shape wanted calls made access = (answer : Bool) → (LastBitIsDue shape C (Some access) → answer ≡ true) → BeginsTake shape wanted calls (made ++ answered access answer ∷ [])

-- ---- replies

-- the reply to a take of these items: the first of them (no take takes none)
abbrev pub items_reply : List ℕ → replies.TakeReply
items_reply [] = reply.Item 0
items_reply (item ∷ items) = reply.Item item

-- the items that a take of one takes, by its reply
abbrev pub reply_items : replies.TakeReply → List ℕ
reply_items (reply.Item item) = item ∷ []
reply_items reply.Empty = []
reply_items reply.Closed = []

-- the reply of a take
abbrev pub take_reply_to : Take → replies.TakeReply
take_reply_to (Item seen items) = items_reply items
take_reply_to (ItemAfterClose seen again items) = items_reply items
take_reply_to (Empty seen) = reply.Empty

-- the reply of the last of these takes
abbrev pub last_take_reply : Option replies.TakeReply → List Take → Option replies.TakeReply
last_take_reply first [] = first
last_take_reply first (x ∷ takes) = last_take_reply (Some (take_reply_to x)) takes

-- and its items
abbrev pub last_items : List ℕ → List Take → List ℕ
last_items first [] = first
last_items first (x ∷ takes) = last_items (taken_of x) takes

-- the reply of the last take, by the end of the takes
abbrev pub reply_at_end : End → List Take → Option replies.TakeReply
reply_at_end Open takes = last_take_reply None takes
reply_at_end (Closed seen again) takes = Some reply.Closed

-- and its items
abbrev pub items_at_end : End → List Take → List ℕ
items_at_end Open takes = last_items [] takes
items_at_end (Closed seen again) takes = []

-- There is no reply before the first take and during one; otherwise it is that of the last take. A take that starts after
-- one returned Closed returns Closed at once.
abbrev pub IsReplyToTake : Takes → Bool → Option replies.TakeReply → Type 0
IsReplyToTake calls true answer = answer ≡ None
IsReplyToTake calls false answer = answer ≡ reply_at_end calls.end calls.takes

-- while no take is under way, the items kept are those of the last one
abbrev pub AreItemsOfTake : Takes → Bool → List ℕ → Type 0
AreItemsOfTake calls true items = Unit {0}
AreItemsOfTake calls false items = items ≡ items_at_end calls.end calls.takes

-- the same, with the number of items taken
abbrev pub take_batch_reply : Option replies.TakeReply → List ℕ → Option batch_replies.TakeBatchReply
take_batch_reply None items = None
take_batch_reply (Some (reply.Item item)) items = Some (batch_replied.Taken (length items))
take_batch_reply (Some reply.Empty) items = Some batch_replied.Empty
take_batch_reply (Some reply.Closed) items = Some batch_replied.Closed

-- There is no such reply before the first take and during one; otherwise it is that of the last take.
abbrev pub IsBatchReplyToTake : Takes → Bool → Option batch_replies.TakeBatchReply → Type 0
IsBatchReplyToTake calls true answer = answer ≡ None
IsBatchReplyToTake calls false answer = answer ≡ take_batch_reply (reply_at_end calls.end calls.takes) (items_at_end calls.end calls.takes)

-- whether the last of the takes returned Closed
abbrev pub ends_closed : End → Bool
ends_closed Open = false
ends_closed (Closed seen again) = true

-- ---- standing

-- the row has made the writes of the calls
abbrev pub ConsumerRowRests : ConsumerState → Takes → Type 0
ConsumerRowRests p calls = UnaryStands p.row (values_taken p.shape calls) (count_writes C (values_taken p.shape calls))

-- the scans by which a take finds an item: one, or one before and one after a read of the close bit
pub data Finding : Type 0 where
  Once : (seen : ℕ) → Finding
  Twice : (seen again : ℕ) → Finding

-- the accesses of these scans
abbrev pub finding_phrase : Finding → List Made
finding_phrase (Once seen) = scan_phrase (row_read_by C) seen
finding_phrase (Twice seen again) = scan_phrase (row_read_by C) seen ++ Read X true ∷ scan_phrase (row_read_by C) again

-- after k taken items, the last scan shows m items, and the take takes these
abbrev pub Finds : Shape → ℕ → (wanted : ℕ) → Finding → ℕ → Type 0
Finds shape k wanted (Once seen) m = SeesItems shape k seen m × TakesAll shape k wanted seen m
Finds shape k wanted (Twice seen again) m = SeesNone shape k seen × SeesItems shape k again m × TakesAll shape k wanted again m

-- the accesses of a take of items up to the word that it reads next
abbrev pub made_of_take : Shape → ℕ → Finding → List ℕ → List Made
made_of_take shape k look items = finding_phrase look ++ words_read shape k items

-- the accesses made, by the stage: those of the calls, and what was made of the take under way, starting at the count of the calls
abbrev pub ConsumerMadeAt : Stage → ConsumerState → Takes → List Made → Type 0
ConsumerMadeAt Idle p calls made = ConsumerRowRests p calls × (made ≡ take_program p.shape calls)
ConsumerMadeAt Scanning p calls made =
    ConsumerRowRests p calls × (reads : List Made) × ScanStands p.scan reads × (made ≡ take_phrases p.shape first_count calls.takes ++ reads)
ConsumerMadeAt Checking p calls made =
    ConsumerRowRests p calls × (seen : ℕ) × SeesNone p.shape (count_taken p.shape calls).number seen ×
    (made ≡ take_phrases p.shape first_count calls.takes ++ scan_phrase (row_read_by C) seen)
ConsumerMadeAt Rescanning p calls made =
    ConsumerRowRests p calls × (seen : ℕ) × SeesNone p.shape (count_taken p.shape calls).number seen × (reads : List Made) × ScanStands p.scan reads ×
    (made ≡ take_phrases p.shape first_count calls.takes ++ ((scan_phrase (row_read_by C) seen ++ Read X true ∷ []) ++ reads))
ConsumerMadeAt Loading p calls made =
    ConsumerRowRests p calls × (look : Finding) × Finds p.shape (count_taken p.shape calls).number p.wanted look p.most × AllFit p.shape p.items ×
    (reads : List Made) × ReaderStands p.word reads ×
    (made ≡ take_phrases p.shape first_count calls.takes ++ (made_of_take p.shape (count_taken p.shape calls).number look p.items ++ reads))
ConsumerMadeAt Counting p calls made =
    (look : Finding) × Finds p.shape (count_taken p.shape calls).number p.wanted look p.most × AllFit p.shape p.items ×
    (writes : List Made) ×
    UnaryStands p.row (values_taken p.shape calls ++ number_past (count_taken p.shape calls).number p.items % modulus_of p.shape ∷ [])
    (count_writes C (values_taken p.shape calls) ++ writes) ×
    (made ≡ take_phrases p.shape first_count calls.takes ++ (made_of_take p.shape (count_taken p.shape calls).number look p.items ++ writes))

-- if a take is under way, none has returned Closed
abbrev pub IsOpenForTake : Bool → Takes → Type 0
IsOpenForTake false calls = Unit {0}
IsOpenForTake true calls = calls.end ≡ Open

-- the consumer stands after these accesses: those of the calls, and then of the take under way
pub record ConsumerStands (p : ConsumerState) (calls : Takes) (made : List Made) : Type 0 where
  pub are : AreTakes p.shape 0 calls.takes calls.end
  pub count_is : p.count ≡ (count_taken p.shape calls).number % modulus_of p.shape
  pub cell_is : p.cell ≡ (count_taken p.shape calls).number % capacity_of p.shape
  pub told_is : p.told ≡ ends_closed calls.end
  pub not_over : IsOpenForTake (is_taking p) calls
  pub reply_is : IsReplyToTake calls (is_taking p) p.reply
  pub items_are : AreItemsOfTake calls (is_taking p) p.items
  pub made_is : ConsumerMadeAt p.stage p calls made

-- ---- after an access

-- the take under way continues and the calls are the same, or it is over and is the last of the calls
abbrev pub IsAfterTake : Shape → ℕ → Bool → Bool → Takes → Takes → Type 0
IsAfterTake shape wanted false now calls more = ⊥
IsAfterTake shape wanted true true calls more = more ≡ calls
IsAfterTake shape wanted true false calls more = HasTakeMore shape wanted calls more

-- once the due access has been made, the consumer stands after the accesses made, with the same calls or one more
abbrev pub ConsumerHasMoved : ConsumerState → ConsumerState → Takes → List Made → Type 0
ConsumerHasMoved old new calls made = (more : Takes) × ConsumerStands new more made × IsAfterTake old.shape old.wanted (is_taking old) (is_taking new) calls more

-- whatever calls the accesses made were of, they are still of these
abbrev pub ConsumerStays : ConsumerState → ConsumerState → Type 0
ConsumerStays old new = (calls : Takes) (made : List Made) → ConsumerStands old calls made → ConsumerStands new calls made

-- the due access was made with this answer
abbrev pub ConsumerMoves : ConsumerState → (answer : Bool) → ConsumerState → Type 0
ConsumerMoves old answer new =
    (calls : Takes) (made : List Made) (access : Access) → ConsumerStands old calls made → due_take old ≡ Some access → ConsumerHasMoved old new calls (made ++ answered access answer ∷ [])
