-- What is read from bytes is their script or their fault.
use Rattle.std.proofs.Common.{rules, ◌≡◌, ◌⊎◌, ◌∙◌, ◌≤◌, ℕ, Bool, List, length, Result, Ok, Err, refl, sym, ap, subst, arith, inl, inr}
use Rattle.std.specs.Prelude.{IfOk, IfErr, MatchResult}
use Rattle.serde_json.specs.Data.{Data, unsigned, boolean, number, string, array, object, Members}
use Rattle.serde_json.specs.Read.{read}
use Rattle.serde_json.specs.Find.{as_object}
use Rattle.bits_core.specs.Shape.{width_of}
use Rattle.bits_core.specs.declared.events.Side.{Side}
use Rattle.bits_core.specs.declared.shapes.Shape.{Shape}
use Rattle.bits_core.proofs.ShapeLemmas.{same_shape}
use Rattle.ring_script.proofs.ShapeLemmas.{shape_accepted, shape_made, shape_refused, shape_why}
use Rattle.ring_script.proofs.GrammarLemmas.{schedule_spells}
use Rattle.ring_script.proofs.FieldLemmas.{HasValues, all_there, and_then_at, and_then_err, and_then_fails, and_then_ok, missing_told, ok_is, ok_not_err, values_from, values_missing, values_there, values_to, known_to}
use Rattle.ring_script.proofs.KindLemmas.{HasKinds, kinds_from, kinds_to, kinds_wrong, wrong_told}
use Rattle.ring_script.proofs.PartLemmas.{same_err, json_from, json_to, json_why, no_json, json_told, names_from, names_why, no_object, unknown_told, items_from, items_to, items_why, many_told, wide_told, schedule_from, schedule_to, schedule_why, bad_told, long_told, oracle_from, oracle_to, oracle_why, oracle_told}
use Rattle.ring_script.specs.Results.{result_and_then}
use Rattle.ring_script.specs.Schedule.{IsSchedule}
use Rattle.ring_script.specs.FieldReading.{FieldValues, names_in, typed_of, field_values}
use Rattle.ring_script.specs.Content.{Content}
use Rattle.ring_script.specs.Script.{HeldFields, HoldsFields, HoldsItems, HoldsLetters, HoldsShape, IsContentOf, IsOracle, IsScript}
use Rattle.ring_script.specs.ScriptReading.{Given, given_by, given_in, given_of, items_within, json_of, oracle_of, schedule_of, script_of, shape_in}
use Rattle.ring_script.specs.Fields.{HasKnownNames, IsJson, IsObject, held_as, wholes}
use Rattle.ring_script.specs.Faults.{IsScriptFault}
use Rattle.ring_script.specs.Views.{IsKept}
use Rattle.ring_script.specs.declared.faults.Field.TheVariants as field
use Rattle.ring_script.specs.declared.faults.ScriptFault.{ScriptFault}
use Rattle.ring_script.specs.declared.faults.ScriptFault.TheVariants as fault
use Rattle.ring_script.specs.declared.schedules.TheConstants.{LETTER_LIMIT}

-- ---- what the fields hold

-- what is read if nothing is wrong
record IsGiven (bytes : List ℕ) (ts : HeldFields) (g : Given) : Type 0 where
  pub letters : List Side
  pub oracle : List Bool
  pub lettered : HoldsLetters bytes ts letters
  pub answers : IsOracle ts.oracle oracle
  pub is : g ≡ record { capacity = ts.capacity; modulus = ts.modulus; width = ts.width; batch = ts.batch; take_batch = ts.take_batch; items = ts.items; takes = ts.takes; closes = ts.close; letters = letters; oracle = oracle }

given_from : (bytes : List ℕ) (ts : HeldFields) (g : Given) → HoldsFields bytes ts → given_of ts ≡ Ok g → IsGiven bytes ts g
unfolding given_of
given_from bytes ts g h e =
    let p1 = and_then_ok (shape_in ts.capacity ts.modulus ts.width ts.batch ts.take_batch) _ g e in
    let p2 = and_then_ok (items_within ts.width ts.items) _ g p1.2 in
    let p3 = and_then_ok (schedule_of ts.schedule) _ g p2.2 in
    let p4 = and_then_ok (oracle_of ts.oracle) _ g p3.2 in
    let made = shape_made ts.capacity ts.modulus ts.width ts.batch ts.take_batch p1.1 in
    let fits = items_from ts.width ts.items p2.1 in
    let spelt = schedule_from ts.schedule p3.0 p3.1 in
    record {
      letters = p3.0;
      oracle = p4.0;
      lettered = record {
        stored = record { shaped = record { fields = h; shape = made.0; numbers = made.1 }; few = fits.0; fit = fits.1 };
        schedule = spelt.0;
        short = spelt.1;
      };
      answers = oracle_from ts.oracle p4.0 p4.1;
      is = sym (ok_is _ g p4.2);
    }

shaped_to : (bytes : List ℕ) (ts : HeldFields) → HoldsShape bytes ts → shape_in ts.capacity ts.modulus ts.width ts.batch ts.take_batch ≡ Ok tt
shaped_to bytes ts h = shape_accepted ts.capacity ts.modulus ts.width ts.batch ts.take_batch h.shape h.numbers

given_why : (bytes : List ℕ) (ts : HeldFields) (x : ScriptFault) → HoldsFields bytes ts → given_of ts ≡ Err x → IsScriptFault bytes x
unfolding given_of
given_why bytes ts x h e =
    elim (and_then_err (shape_in ts.capacity ts.modulus ts.width ts.batch ts.take_batch) _ x e) [
      | inl n ↦
          let w = shape_why ts.capacity ts.modulus ts.width ts.batch ts.take_batch x n in subst (IsScriptFault bytes) (sym w.1) (ts, h, w.2)
      | inr r1 ↦
          let made = shape_made ts.capacity ts.modulus ts.width ts.batch ts.take_batch r1.1 in
          let shaped : HoldsShape bytes ts = record { fields = h; shape = made.0; numbers = made.1 } in
          elim (and_then_err (items_within ts.width ts.items) _ x r1.2) [
            | inl n ↦
                elim (items_why ts.width ts.items x n) [
                  | inl many ↦ subst (IsScriptFault bytes) (sym many.0) (ts, shaped, many.1)
                  | inr wide ↦ subst (IsScriptFault bytes) (sym wide.1) (ts, shaped, wide.2, wide.3)
                ]
            | inr r2 ↦
                let fits = items_from ts.width ts.items r2.1 in
                let stored : HoldsItems bytes ts = record { shaped = shaped; few = fits.0; fit = fits.1 } in
                elim (and_then_err (schedule_of ts.schedule) _ x r2.2) [
                  | inl n ↦
                      elim (schedule_why ts.schedule x n) [
                        | inl bad ↦ subst (IsScriptFault bytes) (sym bad.1) (ts, stored, bad.2)
                        | inr long ↦ subst (IsScriptFault bytes) (sym long.1) (ts, long.0, stored, long.2, long.3)
                      ]
                  | inr r3 ↦
                      let spelt = schedule_from ts.schedule r3.0 r3.1 in
                      let lettered : HoldsLetters bytes ts r3.0 = record { stored = stored; schedule = spelt.0; short = spelt.1 } in
                      elim (and_then_err (oracle_of ts.oracle) _ x r3.2) [
                        | inl n ↦
                            let w = oracle_why ts.oracle x n in subst (IsScriptFault bytes) (sym w.1) (ts, r3.0, lettered, w.2)
                        | inr r4 ↦ absurd (ok_not_err _ x r4.2)
                      ]
                ]
          ]
    ]

-- ---- the object

kinds_of : (bytes : List ℕ) (ts : HeldFields) (h : HoldsFields bytes ts) → HasKinds h.members ts
kinds_of bytes ts h = record { capacity = h.capacity; modulus = h.modulus; width = h.width; items = h.items; takes = h.takes; close = h.close; schedule = h.schedule; oracle = h.oracle; batch = h.batch; take_batch = h.take_batch }

holds_from : (bytes : List ℕ) (ms : Members) (ts : HeldFields) → IsObject bytes ms → HasKinds ms ts → HoldsFields bytes ts
holds_from bytes ms ts o k = record { members = ms; is_object = o; capacity = k.capacity; modulus = k.modulus; width = k.width; items = k.items; takes = k.takes; close = k.close; schedule = k.schedule; oracle = k.oracle; batch = k.batch; take_batch = k.take_batch }

-- bytes that are an object of known names are read up to that point
object_to : (bytes : List ℕ) (ms : Members) (r : Result Given ScriptFault) → IsObject bytes ms
    → result_and_then (field_values (object ms)) (λ values. result_and_then (typed_of values) given_of) ≡ r → script_of bytes ≡ r
unfolding script_of given_in
object_to bytes ms r o e = search (rules, and_then_at, json_to, known_to)

-- and if its fields hold this, their values decide
holds_to : (bytes : List ℕ) (ts : HeldFields) (r : Result Given ScriptFault) → HoldsFields bytes ts → given_of ts ≡ r → script_of bytes ≡ r
holds_to bytes ts r h e =
    let k = kinds_of bytes ts h in
    let vs : FieldValues = record {
      capacity = number (unsigned ts.capacity);
      modulus = number (unsigned ts.modulus);
      width = number (unsigned ts.width);
      items = array (wholes ts.items);
      takes = number (unsigned ts.takes);
      close = boolean ts.close;
      schedule = string ts.schedule;
      oracle = string ts.oracle;
      batch = held_as field.Batch h.members;
      take_batch = held_as field.TakeBatch h.members;
    } in
    let has : HasValues h.members vs = record { capacity = h.capacity; modulus = h.modulus; width = h.width; items = h.items; takes = h.takes; close = h.close; schedule = h.schedule; oracle = h.oracle; batch = refl; take_batch = refl } in
    object_to bytes h.members r h.is_object
    (and_then_at (field_values (object h.members)) vs _ r (values_to h.members vs has)
    (and_then_at (typed_of vs) ts _ r (kinds_to h.members vs ts has k) e))

-- what bytes that are read up to that point hold
object_why : (bytes : List ℕ) (ms : Members) (x : ScriptFault) → IsObject bytes ms
    → result_and_then (field_values (object ms)) (λ values. result_and_then (typed_of values) given_of) ≡ Err x → IsScriptFault bytes x
object_why bytes ms x o e =
    elim (and_then_err (field_values (object ms)) _ x e) [
      | inl n ↦
          let w = values_missing ms x n in subst (IsScriptFault bytes) (sym w.1) (ms, o, w.2)
      | inr r1 ↦
          let has = values_from ms r1.0 r1.1 in
          elim (and_then_err (typed_of r1.0) _ x r1.2) [
            | inl n ↦
                let w = kinds_wrong ms r1.0 x has n in subst (IsScriptFault bytes) (sym w.1) (ms, o, all_there ms r1.0 has, w.2)
            | inr r2 ↦ given_why bytes r2.0 x (holds_from bytes ms r2.0 o (kinds_from ms r1.0 r2.0 has r2.1)) r2.2
          ]
    ]

object_from : (bytes : List ℕ) (ms : Members) (g : Given) → IsObject bytes ms
    → result_and_then (field_values (object ms)) (λ values. result_and_then (typed_of values) given_of) ≡ Ok g → (ts : HeldFields) × IsGiven bytes ts g
object_from bytes ms g o e =
    let p1 = and_then_ok (field_values (object ms)) _ g e in
    let p2 = and_then_ok (typed_of p1.0) _ g p1.2 in
    let has = values_from ms p1.0 p1.1 in
    (p2.0, given_from bytes p2.0 g (holds_from bytes ms p2.0 o (kinds_from ms p1.0 p2.0 has p2.1)) p2.2)

object_is : (bytes : List ℕ) (d : Data) (ms : Members) → json_of bytes ≡ Ok d → d ≡ object ms → HasKnownNames ms → IsObject bytes ms
object_is bytes d ms e is known = record { json = subst (IsJson bytes) is (json_from bytes d e); known = known }

-- ---- the whole

-- bytes that are not read have this fault
pub fault_from : (bytes : List ℕ) (x : ScriptFault) → script_of bytes ≡ Err x → IsScriptFault bytes x
unfolding script_of given_in
fault_from bytes x e =
    elim (and_then_err (json_of bytes) _ x e) [
      | inl n ↦ subst (IsScriptFault bytes) (sym (json_why bytes x n)) (no_json bytes x n)
      | inr r1 ↦
          elim (and_then_err (names_in (as_object r1.0)) _ x r1.2) [
            | inl n ↦
                elim (names_why r1.0 x n) [
                  | inl other ↦ subst (IsScriptFault bytes) (sym other.0) (r1.0, json_from bytes r1.0 r1.1, other.1)
                  | inr unknown ↦ subst (IsScriptFault bytes) (sym unknown.1) (unknown.0, subst (IsJson bytes) unknown.2 (json_from bytes r1.0 r1.1), unknown.3)
                ]
            | inr r2 ↦
                let ns = names_from r1.0 r2.1 in
                object_why bytes ns.0 x (object_is bytes r1.0 ns.0 r1.1 ns.1 ns.2)
                (subst (λ (d : Data). result_and_then (field_values d) (λ values. result_and_then (typed_of values) given_of) ≡ Err x) ns.1 r2.2)
          ]
    ]

given_at : (bytes : List ℕ) (g : Given) → script_of bytes ≡ Ok g → (ts : HeldFields) × IsGiven bytes ts g
unfolding script_of given_in
given_at bytes g e = grind (arith, and_then_ok, names_from, object_from, object_is)

-- bytes that are read are a script
script_at : (bytes : List ℕ) (ts : HeldFields) (c : Content) → IsGiven bytes ts (given_by c) → IsScript bytes c
script_at bytes ts c g = grind arith

pub script_from : (bytes : List ℕ) (c : Content) → script_of bytes ≡ Ok (given_by c) → IsScript bytes c
script_from bytes c e = let g = given_at bytes (given_by c) e in script_at bytes g.0 c g.1

-- values of fields that are read represent a script, which is that of the bytes that hold them
content_from : (ts : HeldFields) (c : Content) → given_of ts ≡ Ok (given_by c) → IsContentOf ts c
unfolding given_of
content_from ts c e = search (rules, and_then_ok, ok_is, oracle_from, schedule_from)

fields_read : (ts : HeldFields) (c : Content) → given_of ts ≡ Ok (given_by c) → (bytes : List ℕ) → HoldsFields bytes ts → IsScript bytes c
fields_read ts c e bytes h = script_at bytes ts c (given_from bytes ts (given_by c) h e)

-- and values that are refused have the fault of the bytes that hold them
fields_refused : (ts : HeldFields) (x : ScriptFault) → given_of ts ≡ Err x → (bytes : List ℕ) → HoldsFields bytes ts → IsScriptFault bytes x
fields_refused ts x e bytes h = given_why bytes ts x h e

pub script_to : (bytes : List ℕ) (c : Content) → IsScript bytes c → script_of bytes ≡ Ok (given_by c)
unfolding given_of
script_to bytes c s =
    let ts = s.held in
    let l = s.lettered in
    holds_to bytes ts (Ok (given_by c)) l.stored.shaped.fields
    (and_then_at _ tt _ _ (shaped_to bytes ts l.stored.shaped)
    (and_then_at _ tt _ _ (items_to ts.width ts.items l.stored.few l.stored.fit)
    (and_then_at _ c.letters _ _ (schedule_to ts.schedule c.letters l.schedule l.short)
    (and_then_at _ c.oracle _ _ (oracle_to ts.oracle c.oracle s.oracle)
    (ap Ok (same_given _ _ (sym s.shape.capacity_is) (sym s.shape.modulus_is) (sym s.shape.width_is) (sym s.shape.batch_is) (sym s.shape.take_batch_is) (sym s.items) (sym s.takes) (sym s.closes) refl refl))))))
  where
    same_given : (a b : Given) → a.capacity ≡ b.capacity → a.modulus ≡ b.modulus → a.width ≡ b.width → a.batch ≡ b.batch → a.take_batch ≡ b.take_batch → a.items ≡ b.items → a.takes ≡ b.takes
        → a.closes ≡ b.closes → a.letters ≡ b.letters → a.oracle ≡ b.oracle → a ≡ b
    same_given a b c m w g h is ts cl ls os = λ i. record { capacity = c i; modulus = m i; width = w i; batch = g i; take_batch = h i; items = is i; takes = ts i; closes = cl i; letters = ls i; oracle = os i }

-- a fault is reported
pub fault_told : (bytes : List ℕ) (x : ScriptFault) → IsScriptFault bytes x → script_of bytes ≡ Err x
unfolding script_of given_in given_of
fault_told bytes fault.NotJson f = and_then_fails (json_of bytes) _ _ (json_told bytes f)
fault_told bytes fault.NotObject f = and_then_at (json_of bytes) f.0 _ _ (json_to bytes f.0 f.1) (and_then_fails _ _ _ (no_object f.0 f.2))
fault_told bytes fault.UnknownField f = and_then_at (json_of bytes) (object f.0) _ _ (json_to bytes (object f.0) f.1) (and_then_fails _ _ _ (unknown_told f.0 f.2))
fault_told bytes (fault.MissingField g) f = object_to bytes f.0 _ f.1 (and_then_fails _ _ _ (missing_told f.0 g f.2))
fault_told bytes (fault.WrongKind g) f =
    let vs = values_there f.0 f.2 in
    object_to bytes f.0 _ f.1 (and_then_at _ vs.0 _ _ (values_to f.0 vs.0 vs.1) (and_then_fails _ _ _ (wrong_told f.0 vs.0 g vs.1 f.3)))
fault_told bytes (fault.Shape r) f = search (rules, and_then_fails, holds_to, shape_refused)
fault_told bytes fault.TooManyItems f =
    let ts : HeldFields = f.0 in
    holds_to bytes ts _ f.1.fields (and_then_at _ tt _ _ (shaped_to bytes ts f.1) (and_then_fails _ _ _ (many_told ts.width ts.items f.2)))
fault_told bytes (fault.ItemTooWide p) f =
    let ts : HeldFields = f.0 in
    holds_to bytes ts _ f.1.fields (and_then_at _ tt _ _ (shaped_to bytes ts f.1) (and_then_fails _ _ _ (wide_told ts.width ts.items p f.2 f.3)))
fault_told bytes (fault.BadSchedule p) f =
    let ts : HeldFields = f.0 in
    holds_to bytes ts _ f.1.shaped.fields (and_then_at _ tt _ _ (shaped_to bytes ts f.1.shaped)
    (and_then_at _ tt _ _ (items_to ts.width ts.items f.1.few f.1.fit) (and_then_fails _ _ _ (bad_told ts.schedule p f.2))))
fault_told bytes fault.ScheduleTooLong f =
    let ts : HeldFields = f.0 in
    holds_to bytes ts _ f.2.shaped.fields (and_then_at _ tt _ _ (shaped_to bytes ts f.2.shaped)
    (and_then_at _ tt _ _ (items_to ts.width ts.items f.2.few f.2.fit) (and_then_fails _ _ _ (long_told ts.schedule f.1 f.3 f.4))))
fault_told bytes (fault.BadOracle p) f =
    let ts : HeldFields = f.0 in
    let l : HoldsLetters bytes ts f.1 = f.2 in
    holds_to bytes ts _ l.stored.shaped.fields (and_then_at _ tt _ _ (shaped_to bytes ts l.stored.shaped)
    (and_then_at _ tt _ _ (items_to ts.width ts.items l.stored.few l.stored.fit)
    (and_then_at _ f.1 _ _ (schedule_to ts.schedule f.1 l.schedule l.short) (and_then_fails _ _ _ (oracle_told ts.oracle p f.3)))))
fault_told bytes fault.OutOfMemory f = absurd f

-- ---- the laws

-- bytes are a script or have a fault
abbrev pub Either : List ℕ → Type 0
Either bytes = ((c : Content) × IsScript bytes c) ⊎ ((x : ScriptFault) × IsScriptFault bytes x)

content_of : (bytes : List ℕ) (ts : HeldFields) (g : Given) → IsGiven bytes ts g → (c : Content) × IsScript bytes c
content_of bytes ts g h = (
  record { shape = h.lettered.stored.shaped.shape; items = ts.items; takes = ts.takes; closes = ts.close; letters = h.letters; oracle = h.oracle },
  record { held = ts; lettered = h.lettered; shape = h.lettered.stored.shaped.numbers; items = refl; takes = refl; closes = refl; oracle = h.answers },
)

either_at : (bytes : List ℕ) (r : Result Given ScriptFault) → script_of bytes ≡ r → Either bytes
either_at bytes (Ok g) e = let h = given_at bytes g e in inl (content_of bytes h.0 g h.1)
either_at bytes (Err x) e = inr (x, fault_from bytes x e)

pub script_or_fault : (bytes : List ℕ) → ((c : Content) × IsScript bytes c) ⊎ ((x : ScriptFault) × IsScriptFault bytes x)
script_or_fault bytes = either_at bytes (script_of bytes) refl

pub faulty_is_no_script : (bytes : List ℕ) (x : ScriptFault) (c : Content) → IsScriptFault bytes x → ¬ IsScript bytes c
faulty_is_no_script bytes x c f s = ok_not_err (given_by c) x (sym (script_to bytes c s) ∙ fault_told bytes x f)

pub one_fault : (bytes : List ℕ) (x y : ScriptFault) → IsScriptFault bytes x → IsScriptFault bytes y → x ≡ y
one_fault bytes x y f g = same_err x y (sym (fault_told bytes x f) ∙ fault_told bytes y g)

same_content : (a b : Content) → given_by a ≡ given_by b → a ≡ b
same_content a b e =
    let shapes : a.shape ≡ b.shape = same_shape a.shape b.shape (ap (λ (r : Given). r.capacity) e) (ap (λ (r : Given). r.modulus) e) (ap (λ (r : Given). r.width) e) (ap (λ (r : Given). r.batch) e) (ap (λ (r : Given). r.take_batch) e) in
    λ i. record { shape = shapes i; items = (e i).items; takes = (e i).takes; closes = (e i).closes; letters = (e i).letters; oracle = (e i).oracle }

pub one_reading : (bytes : List ℕ) (a b : Content) → IsScript bytes a → IsScript bytes b → a ≡ b
one_reading bytes a b s t = same_content a b (ok_is (given_by a) (given_by b) (sym (script_to bytes a s) ∙ script_to bytes b t))

pub one_spelling : (text : List ℕ) (a b : List Side) → IsSchedule text a → IsSchedule text b → a ≡ b
one_spelling text a b s t = schedule_spells text a s ∙ sym (schedule_spells text b t)

-- ---- a call that reports them

pub read_is_script : {A : Type 0} (bytes : List ℕ) (content : A → Content) (r : Result A ScriptFault)
    → IfOk r (λ s. script_of bytes ≡ Ok (given_by (content s))) → IfOk r (λ s. IsScript bytes (content s))
read_is_script bytes content r h1 = grind (arith, script_from)

pub refused_is_fault : {A : Type 0} (bytes : List ℕ) (r : Result A ScriptFault)
    → IfErr r (λ x. (x ≡ fault.OutOfMemory) ⊎ (script_of bytes ≡ Err x)) → IfErr r (λ x. (x ≡ fault.OutOfMemory) ⊎ IsScriptFault bytes x)
refused_is_fault bytes r h1 = grind (arith, fault_from)

pub reads_each_script : {A : Type 0} (bytes : List ℕ) (content : A → Content) (r : Result A ScriptFault)
    → IfOk r (λ s. script_of bytes ≡ Ok (given_by (content s))) → IfErr r (λ x. (x ≡ fault.OutOfMemory) ⊎ (script_of bytes ≡ Err x))
    → (c : Content) → IsScript bytes c → MatchResult r (λ s. content s ≡ c) (λ x. x ≡ fault.OutOfMemory)
reads_each_script bytes content (Ok s) read refused c is = same_content (content s) c (ok_is _ _ (sym read ∙ script_to bytes c is))
reads_each_script bytes content (Err x) read (inl short) c is = short
reads_each_script bytes content (Err x) read (inr told) c is = absurd (ok_not_err (given_by c) x (sym (script_to bytes c is) ∙ told))

-- ---- a call that reads the values of fields

pub fields_are_content : {A : Type 0} (ts : HeldFields) (content : A → Content) (r : Result A ScriptFault)
    → IfOk r (λ s. given_of ts ≡ Ok (given_by (content s))) → IfOk r (λ s. IsContentOf ts (content s))
fields_are_content ts content r h1 = grind (arith, content_from)

pub fields_are_script : {A : Type 0} (ts : HeldFields) (content : A → Content) (r : Result A ScriptFault)
    → IfOk r (λ s. given_of ts ≡ Ok (given_by (content s))) → IfOk r (λ s. (bytes : List ℕ) → HoldsFields bytes ts → IsScript bytes (content s))
fields_are_script ts content r h1 = grind (arith, fields_read)

pub fields_have_fault : {A : Type 0} (ts : HeldFields) (Short : Type 0) (r : Result A ScriptFault)
    → IfErr r (λ x. ((x ≡ fault.OutOfMemory) × Short) ⊎ (given_of ts ≡ Err x)) → IfErr r (λ x. ((x ≡ fault.OutOfMemory) × Short) ⊎ ((bytes : List ℕ) → HoldsFields bytes ts → IsScriptFault bytes x))
fields_have_fault ts Short r h1 = grind (arith, fields_refused)

-- ---- the bounds of a script

pub is_kept : (shape : Shape) (items : List ℕ) (count : ℕ) (letters : List Side) → items_within (width_of shape) items ≡ Ok tt → count ≡ length letters → length letters ≤ LETTER_LIMIT
    → IsKept shape items count letters
is_kept shape items count letters e counted short = grind (arith, items_from)
