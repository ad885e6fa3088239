-- The kinds of the fields' values that are read, and those that the object has.
use Rattle.std.proofs.Common.{arith, rules, ◌≡◌, ◌∙◌, ℕ, Bool, List, [], ◌∷◌, Option, Some, None, Ok, Err, option_map, refl, sym, ap, ap₂, subst}
use Rattle.std.specs.Prelude.{option_and_then}
use Rattle.serde_json.specs.Data.{unsigned, Data, boolean, number, string, array, Items as ItemData, no_items, item, Members}
use Rattle.serde_json.specs.Find.{as_array, as_bool, as_str}
use Rattle.ring_script.proofs.FieldLemmas.{HasValues, IsOfFirst, Tells, and_then_ok, first_told, next_field, ok_is, ok_not_err}
use Rattle.ring_script.specs.Faults.{IsFirst, IsOfWrongKind}
use Rattle.ring_script.specs.FieldReading.{FieldValues, batch_in, of_kind, typed_of, whole_of, wholes_of}
use Rattle.ring_script.specs.Script.{HeldFields}
use Rattle.ring_script.specs.Fields.{HasBatchField, IsOfKind, IsText, IsWhole, held_as, wholes}
use Rattle.ring_script.specs.declared.faults.Field.{Field}
use Rattle.ring_script.specs.declared.faults.Field.TheVariants as field
use Rattle.ring_script.specs.declared.faults.ScriptFault.{ScriptFault}
use Rattle.ring_script.specs.declared.faults.ScriptFault.TheVariants.{WrongKind}

-- ---- the value of each kind

kind_is : {A : Type 0} (f : Field) (o : Option A) (v : A) → of_kind f o ≡ Ok v → o ≡ Some v
kind_is f o v h1 = grind arith

not_kind : {A : Type 0} (f : Field) (o : Option A) (x : ScriptFault) → of_kind f o ≡ Err x → (x ≡ WrongKind f) × (o ≡ None)
not_kind f o x h1 = search rules

whole_is : (v : Data) (n : ℕ) → whole_of v ≡ Some n → v ≡ number (unsigned n)
whole_is v n h1 = grind arith

bool_is : (v : Data) (b : Bool) → as_bool v ≡ Some b → v ≡ boolean b
bool_is v b h1 = grind arith

text_is : (v : Data) (t : List ℕ) → as_str v ≡ Some t → v ≡ string t
text_is v t h1 = grind arith

wholes_again : (ns : List ℕ) → wholes_of (wholes ns) ≡ Some ns
unfolding wholes_of
wholes_again [] = refl
wholes_again (n ∷ ns) = rw (wholes_again ns) refl

wholes_at : (w : Option ℕ) (o : Option (List ℕ)) (ns : List ℕ) → option_and_then (λ n. option_map (λ ms. n ∷ ms) o) w ≡ Some ns
    → (n : ℕ) × (ms : List ℕ) × (w ≡ Some n) × (o ≡ Some ms) × (ns ≡ n ∷ ms)
wholes_at w o ns h1 = grind arith

wholes_are : (ds : ItemData) (ns : List ℕ) → wholes_of ds ≡ Some ns → ds ≡ wholes ns
unfolding wholes_of
wholes_are no_items ns e = let same : [] ≡ ns = cc in ap wholes same
wholes_are (item d ds) ns e =
    let parts = wholes_at (whole_of d) (wholes_of ds) ns e in
    ap₂ (λ (v : Data) (vs : ItemData). item v vs) (whole_is d parts.0 parts.2) (wholes_are ds parts.1 parts.3) ∙ ap wholes (sym parts.4)

items_is : (v : Data) (ns : List ℕ) → option_and_then wholes_of (as_array v) ≡ Some ns → v ≡ array (wholes ns)
items_is v ns h1 = grind (arith, wholes_are)

-- a value is of the kind if something of the kind is read, and of another if nothing is
some_not_none : {A : Type 0} (o : Option A) (a : A) → o ≡ Some a → o ≡ None → ⊥
some_not_none o a s n = cc

whole_kind : (v : Data) (n : ℕ) → whole_of v ≡ Some n → IsWhole v
whole_kind v n e = (n, whole_is v n e)

no_whole : (v : Data) → whole_of v ≡ None → ¬ IsWhole v
no_whole v e k = some_not_none (whole_of v) k.0 (ap whole_of k.1) e

bool_kind : (v : Data) (b : Bool) → as_bool v ≡ Some b → IsOfKind field.Close v
bool_kind v b e = (b, bool_is v b e)

no_bool : (v : Data) → as_bool v ≡ None → ¬ IsOfKind field.Close v
no_bool v e k = some_not_none (as_bool v) k.0 (ap as_bool k.1) e

text_kind : (v : Data) (t : List ℕ) → as_str v ≡ Some t → IsText v
text_kind v t e = (t, text_is v t e)

no_text : (v : Data) → as_str v ≡ None → ¬ IsText v
no_text v e k = some_not_none (as_str v) k.0 (ap as_str k.1) e

list_kind : (v : Data) (ns : List ℕ) → option_and_then wholes_of (as_array v) ≡ Some ns → IsOfKind field.Items v
list_kind v ns e = (ns, items_is v ns e)

no_list : (v : Data) → option_and_then wholes_of (as_array v) ≡ None → ¬ IsOfKind field.Items v
no_list v e k = some_not_none (option_and_then wholes_of (as_array v)) k.0 (ap (λ (w : Data). option_and_then wholes_of (as_array w)) k.1 ∙ wholes_again k.0) e

-- ---- the batches

batch_at : (f : Field) (ms : Members) (o : Option Data) (n : ℕ) → held_as f ms ≡ o → batch_in f o ≡ Ok n → HasBatchField f ms n
batch_at f ms o n h1 h2 = grind arith

-- ---- the fields

-- the members have these values of the right kinds
pub record HasKinds (ms : Members) (ts : HeldFields) : Type 0 where
  pub capacity : held_as field.Capacity ms ≡ Some (number (unsigned ts.capacity))
  pub modulus : held_as field.Modulus ms ≡ Some (number (unsigned ts.modulus))
  pub width : held_as field.Width ms ≡ Some (number (unsigned ts.width))
  pub items : held_as field.Items ms ≡ Some (array (wholes ts.items))
  pub takes : held_as field.Takes ms ≡ Some (number (unsigned ts.takes))
  pub close : held_as field.Close ms ≡ Some (boolean ts.close)
  pub schedule : held_as field.Schedule ms ≡ Some (string ts.schedule)
  pub oracle : held_as field.Oracle ms ≡ Some (string ts.oracle)
  pub batch : HasBatchField field.Batch ms ts.batch
  pub take_batch : HasBatchField field.TakeBatch ms ts.take_batch

pub kinds_from : (ms : Members) (vs : FieldValues) (ts : HeldFields) → HasValues ms vs → typed_of vs ≡ Ok ts → HasKinds ms ts
unfolding typed_of
kinds_from ms vs ts h e =
    let p1 = and_then_ok (of_kind field.Capacity (whole_of vs.capacity)) _ ts e in
    let p2 = and_then_ok (of_kind field.Modulus (whole_of vs.modulus)) _ ts p1.2 in
    let p3 = and_then_ok (of_kind field.Width (whole_of vs.width)) _ ts p2.2 in
    let p4 = and_then_ok (of_kind field.Items (option_and_then wholes_of (as_array vs.items))) _ ts p3.2 in
    let p5 = and_then_ok (of_kind field.Takes (whole_of vs.takes)) _ ts p4.2 in
    let p6 = and_then_ok (of_kind field.Close (as_bool vs.close)) _ ts p5.2 in
    let p7 = and_then_ok (of_kind field.Schedule (as_str vs.schedule)) _ ts p6.2 in
    let p8 = and_then_ok (of_kind field.Oracle (as_str vs.oracle)) _ ts p7.2 in
    let p9 = and_then_ok (batch_in field.Batch vs.batch) _ ts p8.2 in
    let p10 = and_then_ok (batch_in field.TakeBatch vs.take_batch) _ ts p9.2 in
    let same = ok_is _ ts p10.2 in
    record {
      capacity = h.capacity ∙ ap Some (whole_is _ _ (kind_is _ _ _ p1.1)) ∙ ap (λ (r : HeldFields). Some (number (unsigned r.capacity))) same;
      modulus = h.modulus ∙ ap Some (whole_is _ _ (kind_is _ _ _ p2.1)) ∙ ap (λ (r : HeldFields). Some (number (unsigned r.modulus))) same;
      width = h.width ∙ ap Some (whole_is _ _ (kind_is _ _ _ p3.1)) ∙ ap (λ (r : HeldFields). Some (number (unsigned r.width))) same;
      items = h.items ∙ ap Some (items_is _ _ (kind_is _ _ _ p4.1)) ∙ ap (λ (r : HeldFields). Some (array (wholes r.items))) same;
      takes = h.takes ∙ ap Some (whole_is _ _ (kind_is _ _ _ p5.1)) ∙ ap (λ (r : HeldFields). Some (number (unsigned r.takes))) same;
      close = h.close ∙ ap Some (bool_is _ _ (kind_is _ _ _ p6.1)) ∙ ap (λ (r : HeldFields). Some (boolean r.close)) same;
      schedule = h.schedule ∙ ap Some (text_is _ _ (kind_is _ _ _ p7.1)) ∙ ap (λ (r : HeldFields). Some (string r.schedule)) same;
      oracle = h.oracle ∙ ap Some (text_is _ _ (kind_is _ _ _ p8.1)) ∙ ap (λ (r : HeldFields). Some (string r.oracle)) same;
      batch = subst (λ (r : HeldFields). HasBatchField field.Batch ms r.batch) same (batch_at field.Batch ms vs.batch _ h.batch p9.1);
      take_batch = subst (λ (r : HeldFields). HasBatchField field.TakeBatch ms r.take_batch) same (batch_at field.TakeBatch ms vs.take_batch _ h.take_batch p10.1);
    }

same_some : {A : Type 0} (o : Option A) (a b : A) → o ≡ Some a → o ≡ Some b → a ≡ b
same_some o a b s t = cc

pub kinds_to : (ms : Members) (vs : FieldValues) (ts : HeldFields) → HasValues ms vs → HasKinds ms ts → typed_of vs ≡ Ok ts
unfolding typed_of
kinds_to ms vs ts h k = grind (arith, same_some, wholes_again)

right_kind : (ms : Members) (f : Field) (v : Data) → held_as f ms ≡ Some v → IsOfKind f v → ¬ IsOfWrongKind ms f
right_kind ms f v held kind w = w.2 (subst (IsOfKind f) (same_some _ _ _ held w.1) kind)

right_batch : (ms : Members) (f : Field) (n : ℕ) → ((n : ℕ) → IsOfKind f (number (unsigned n))) → HasBatchField f ms n → ¬ IsOfWrongKind ms f
right_batch ms f n h1 h2 = grind arith

-- if something is read only from values of the field's kind, the result says whether the field is of the wrong kind
reads : {A : Type 0} (ms : Members) (f : Field) (v : Data) (o : Option A) → held_as f ms ≡ Some v → (o ≡ None → ¬ IsOfKind f v) → ((a : A) → o ≡ Some a → IsOfKind f v)
    → Tells (IsOfWrongKind ms) WrongKind f (of_kind f o)
reads ms f v o held never kind = record {
  so = λ x e. let n = not_kind f o x e in (n.0, (v, held, never n.1));
  not_so = λ a e. right_kind ms f v held (kind a (kind_is f o a e));
}

-- and likewise for a batch, which may be left out
reads_batch : (ms : Members) (f : Field) (o : Option Data) → held_as f ms ≡ o → ((v : Data) → whole_of v ≡ None → ¬ IsOfKind f v) → ((n : ℕ) → IsOfKind f (number (unsigned n)))
    → Tells (IsOfWrongKind ms) WrongKind f (batch_in f o)
reads_batch ms f None held never kind = record { so = λ x e. absurd (ok_not_err _ x e); not_so = λ n e. right_batch ms f n kind (batch_at f ms None n held e) }
reads_batch ms f (Some v) held never kind = reads ms f v (whole_of v) held (never v) (λ n e. subst (IsOfKind f) (sym (whole_is v n e)) (kind n))

pub kinds_wrong : (ms : Members) (vs : FieldValues) (x : ScriptFault) → HasValues ms vs → typed_of vs ≡ Err x → IsOfFirst (IsOfWrongKind ms) WrongKind x
unfolding typed_of
kinds_wrong ms vs x h e =
    next_field _ _ field.Capacity _ _ x (reads ms field.Capacity vs.capacity _ h.capacity (no_whole _) (whole_kind _)) tt e (λ _ b1 e1.
    next_field _ _ field.Modulus _ _ x (reads ms field.Modulus vs.modulus _ h.modulus (no_whole _) (whole_kind _)) b1 e1 (λ _ b2 e2.
    next_field _ _ field.Width _ _ x (reads ms field.Width vs.width _ h.width (no_whole _) (whole_kind _)) b2 e2 (λ _ b3 e3.
    next_field _ _ field.Items _ _ x (reads ms field.Items vs.items _ h.items (no_list _) (list_kind _)) b3 e3 (λ _ b4 e4.
    next_field _ _ field.Takes _ _ x (reads ms field.Takes vs.takes _ h.takes (no_whole _) (whole_kind _)) b4 e4 (λ _ b5 e5.
    next_field _ _ field.Close _ _ x (reads ms field.Close vs.close _ h.close (no_bool _) (bool_kind _)) b5 e5 (λ _ b6 e6.
    next_field _ _ field.Schedule _ _ x (reads ms field.Schedule vs.schedule _ h.schedule (no_text _) (text_kind _)) b6 e6 (λ _ b7 e7.
    next_field _ _ field.Oracle _ _ x (reads ms field.Oracle vs.oracle _ h.oracle (no_text _) (text_kind _)) b7 e7 (λ _ b8 e8.
    next_field _ _ field.Batch _ _ x (reads_batch ms field.Batch vs.batch h.batch no_whole (λ n. (n, refl))) b8 e8 (λ _ b9 e9.
    next_field _ _ field.TakeBatch _ _ x (reads_batch ms field.TakeBatch vs.take_batch h.take_batch no_whole (λ n. (n, refl))) b9 e9 (λ _ b10 e10.
    absurd (ok_not_err _ x e10)))))))))))

all_right : (ms : Members) (ts : HeldFields) → HasKinds ms ts → (f : Field) → ¬ IsOfWrongKind ms f
all_right ms ts h1 f = grind arith

pub wrong_told : (ms : Members) (vs : FieldValues) (f : Field) → HasValues ms vs → IsFirst (IsOfWrongKind ms) f → typed_of vs ≡ Err (WrongKind f)
wrong_told ms vs f h first = elim (typed_of vs) as (λ r. typed_of vs ≡ r → r ≡ Err (WrongKind f)) [
  | Ok ts ↦ λ e. absurd (all_right ms ts (kinds_from ms vs ts h e) f first.so)
  | Err x ↦ λ e. ap Err (first_told (IsOfWrongKind ms) WrongKind x f (kinds_wrong ms vs x h e) first)
] refl
