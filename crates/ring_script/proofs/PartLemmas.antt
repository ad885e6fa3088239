-- What is read from the parts of a script, its JSON value, names, items, schedule and oracle, is their value or their fault.
use Rattle.std.proofs.Common.{rules, ◌≡◌, ◌≢◌, ◌⊎◌, ◌∙◌, ◌≤◌, ◌<◌, ℕ, Bool, true, false, List, length, Option, Some, None, Result, Ok, Err, refl, sym, ap, arith, true≢false, inl, inr}
use Rattle.std.specs.Prelude.{position, nat_lt, if◌then◌else◌, ⊤}
use Rattle.std.specs.Str.{is_utf8}
use Rattle.std.proofs.lemmas.Str.{IsUtf8-from_is_utf8}
use Rattle.std.proofs.lemmas.Bool.{ltb-true, ltb-false, lt-ltb, le-ltb}
use Rattle.serde_json.specs.Data.{Data, object, Members}
use Rattle.serde_json.specs.Read.{read}
use Rattle.serde_json.specs.Find.{as_object}
use Rattle.bits_core.specs.declared.events.Side.{Side}
use Rattle.ring_script.proofs.JsonLemmas.{json_read, json_refused}
use Rattle.ring_script.proofs.GrammarLemmas.{clean_schedule, schedule_clean, schedule_spells, stray_found, stray_is}
use Rattle.ring_script.proofs.FirstLemmas.{answers_from, first_position, fit_tested, none_position, oracle_answers, oracle_clean, oracle_tested, position_first, position_none}
use Rattle.ring_script.proofs.FieldLemmas.{known_from, known_to, ok_is, ok_not_err}
use Rattle.ring_script.specs.Schedule.{IsSchedule, IsScheduleText}
use Rattle.ring_script.specs.ScheduleReading.{letters_of, stray_in}
use Rattle.ring_script.specs.FieldReading.{has_known_names, names_in}
use Rattle.ring_script.specs.Script.{Fit, IsOracle, IsOracleText}
use Rattle.ring_script.specs.ScriptReading.{if_answers, if_fits, if_read, if_stands, is_no_answer, is_too_wide, items_within, json_of, oracle_of, schedule_of}
use Rattle.ring_script.specs.Fields.{HasKnownNames, IsJson}
use Rattle.ring_script.specs.Faults.{IsFirstStray}
use Rattle.ring_script.specs.declared.faults.ScriptFault.{ScriptFault}
use Rattle.ring_script.specs.declared.faults.ScriptFault.TheVariants as fault
use Rattle.ring_script.specs.declared.schedules.TheConstants.{LETTER_LIMIT}
use Rattle.ring_script.specs.declared.scripts.TheConstants.{ITEM_LIMIT}

pub same_err : {A : Type 0} (x y : ScriptFault) → (let r : Result A ScriptFault = Err x in r ≡ Err y) → x ≡ y
same_err x y e = cc

-- ---- the JSON value

read_is : (o : Option Data) (d : Data) → if_read o ≡ Ok d → o ≡ Some d
read_is o d h1 = grind arith

json_at : (bytes : List ℕ) (t : Bool) (d : Data) → is_utf8 bytes ≡ t → (if t then if_read (read bytes) else Err fault.NotJson) ≡ Ok d → IsJson bytes d
json_at bytes true d is e = record { text = IsUtf8-from_is_utf8 bytes is; reads = read_is (read bytes) d e }
json_at bytes false d is e = cc

pub json_from : (bytes : List ℕ) (d : Data) → json_of bytes ≡ Ok d → IsJson bytes d
unfolding json_of
json_from bytes d e = json_at bytes (is_utf8 bytes) d refl e

pub json_to : (bytes : List ℕ) (d : Data) → IsJson bytes d → json_of bytes ≡ Ok d
json_to bytes d j = json_read bytes d j.text j.reads

json_why_at : (bytes : List ℕ) (t : Bool) (x : ScriptFault) → (if t then if_read (read bytes) else Err fault.NotJson) ≡ Err x → x ≡ fault.NotJson
json_why_at bytes t x h1 = search (rules, same_err)

pub json_why : (bytes : List ℕ) (x : ScriptFault) → json_of bytes ≡ Err x → x ≡ fault.NotJson
unfolding json_of
json_why bytes x e = json_why_at bytes (is_utf8 bytes) x e

pub no_json : (bytes : List ℕ) (x : ScriptFault) → json_of bytes ≡ Err x → (d : Data) → ¬ IsJson bytes d
no_json bytes x e d j = ok_not_err d x (sym (json_to bytes d j) ∙ e)

none_read : (o : Option Data) → ((d : Data) → ¬ (o ≡ Some d)) → o ≡ None
none_read o h1 = grind arith

pub json_told : (bytes : List ℕ) → ((d : Data) → ¬ IsJson bytes d) → json_of bytes ≡ Err fault.NotJson
json_told bytes never = json_refused bytes (λ u. none_read (read bytes) (λ d e. never d (record { text = u; reads = e })))

-- ---- the names

names_test : (t : Bool) → (let passed : Result ⊤ ScriptFault = Ok tt in (if t then passed else Err fault.UnknownField) ≡ passed) → t ≡ true
names_test true e = refl
names_test false e = cc

pub names_from : (d : Data) → names_in (as_object d) ≡ Ok tt → (ms : Members) × (d ≡ object ms) × HasKnownNames ms
names_from d h1 = grind (arith, known_from, names_test)

-- the two faults of a value that is not an object of known names
abbrev pub NamesFault : Data → ScriptFault → Type 0
NamesFault d x = ((x ≡ fault.NotObject) × ((ms : Members) → d ≢ object ms)) ⊎ ((ms : Members) × (x ≡ fault.UnknownField) × (d ≡ object ms) × ¬ HasKnownNames ms)

unknown_at : (ms : Members) (t : Bool) (x : ScriptFault) → has_known_names ms ≡ t → (let passed : Result ⊤ ScriptFault = Ok tt in (if t then passed else Err fault.UnknownField) ≡ Err x) → NamesFault (object ms) x
unknown_at ms true x is e = cc
unknown_at ms false x is e = inr (ms, sym (same_err _ x e), refl, λ h. true≢false (sym (known_to ms h) ∙ is))

pub names_why : (d : Data) (x : ScriptFault) → names_in (as_object d) ≡ Err x → NamesFault d x
names_why d x h1 = grind (arith, same_err, unknown_at)

pub no_object : (d : Data) → ((ms : Members) → d ≢ object ms) → names_in (as_object d) ≡ Err fault.NotObject
no_object d h1 = grind arith

unknown_told_at : (ms : Members) (t : Bool) → has_known_names ms ≡ t → ¬ HasKnownNames ms → (let passed : Result ⊤ ScriptFault = Ok tt in (if t then passed else Err fault.UnknownField) ≡ Err fault.UnknownField)
unknown_told_at ms true is never = absurd (never (known_from ms is))
unknown_told_at ms false is never = refl

pub unknown_told : (ms : Members) → ¬ HasKnownNames ms → names_in (Some ms) ≡ Err fault.UnknownField
unknown_told ms never = unknown_told_at ms (has_known_names ms) refl never

-- ---- the items

abbrev pub ItemsFault : ℕ → List ℕ → ScriptFault → Type 0
ItemsFault w items x = ((x ≡ fault.TooManyItems) × (ITEM_LIMIT < length items)) ⊎ ((p : ℕ) × (x ≡ fault.ItemTooWide p) × (length items ≤ ITEM_LIMIT) × IsFirstStray (Fit w) items p)

fits_at : (most : ℕ) (w : ℕ) (items : List ℕ) (o : Option ℕ) → position (is_too_wide w) items ≡ o → if_fits o ≡ Ok tt → Fit w items
fits_at most w items None is e = (fit_tested w).from items (position_none (is_too_wide w) items is)
fits_at most w items (Some p) is e = cc

few_at : (most w : ℕ) (t : Bool) (items : List ℕ) → nat_lt most (length items) ≡ t → (if t then Err fault.TooManyItems else if_fits (position (is_too_wide w) items)) ≡ Ok tt → (length items ≤ most) × Fit w items
few_at most w t items h1 h2 = grind (arith, fits_at, ltb-false)

pub items_from : (w : ℕ) (items : List ℕ) → items_within w items ≡ Ok tt → (length items ≤ ITEM_LIMIT) × Fit w items
unfolding items_within
items_from w items e = few_at ITEM_LIMIT w (nat_lt ITEM_LIMIT (length items)) items refl e

pub items_to : (w : ℕ) (items : List ℕ) → length items ≤ ITEM_LIMIT → Fit w items → items_within w items ≡ Ok tt
unfolding items_within
items_to w items few fit = rw (le-ltb ITEM_LIMIT (length items) few) (ap if_fits (none_position (is_too_wide w) items ((fit_tested w).to items fit)))

wide_at : (w : ℕ) (items : List ℕ) (o : Option ℕ) (x : ScriptFault) → position (is_too_wide w) items ≡ o → if_fits o ≡ Err x → (p : ℕ) × (x ≡ fault.ItemTooWide p) × IsFirstStray (Fit w) items p
wide_at w items None x is e = cc
wide_at w items (Some p) x is e = (p, sym (same_err _ x e), position_first (Fit w) (is_too_wide w) (fit_tested w) items p is)

pub items_why : (w : ℕ) (items : List ℕ) (x : ScriptFault) → items_within w items ≡ Err x → ItemsFault w items x
unfolding items_within
items_why w items x e = grind (arith, ltb-false, ltb-true, same_err, wide_at)

pub many_told : (w : ℕ) (items : List ℕ) → ITEM_LIMIT < length items → items_within w items ≡ Err fault.TooManyItems
unfolding items_within
many_told w items h = rw (lt-ltb ITEM_LIMIT (length items) h)

pub wide_told : (w : ℕ) (items : List ℕ) (p : ℕ) → length items ≤ ITEM_LIMIT → IsFirstStray (Fit w) items p → items_within w items ≡ Err (fault.ItemTooWide p)
unfolding items_within
wide_told w items p few first = rw (le-ltb ITEM_LIMIT (length items) few) (ap if_fits (first_position (Fit w) (is_too_wide w) (fit_tested w) items p first))

-- ---- the schedule

pub schedule_from : (text : List ℕ) (letters : List Side) → schedule_of text ≡ Ok letters → IsSchedule text letters × (length letters ≤ LETTER_LIMIT)
unfolding schedule_of
schedule_from text letters e = grind (arith, clean_schedule)

pub schedule_to : (text : List ℕ) (letters : List Side) → IsSchedule text letters → length letters ≤ LETTER_LIMIT → schedule_of text ≡ Ok letters
unfolding schedule_of
schedule_to text letters s short = grind (arith, (schedule_clean text letters s), (schedule_spells text letters s), le-ltb)

abbrev pub ScheduleFault : List ℕ → ScriptFault → Type 0
ScheduleFault text x =
    ((p : ℕ) × (x ≡ fault.BadSchedule p) × IsFirstStray IsScheduleText text p)
    ⊎ ((letters : List Side) × (x ≡ fault.ScheduleTooLong) × IsSchedule text letters × (LETTER_LIMIT < length letters))

bad_at : (text : List ℕ) (o : Option ℕ) (x : ScriptFault) → stray_in text ≡ o → if_stands o (letters_of text) ≡ Err x → ScheduleFault text x
bad_at text (Some p) x is e = inl (p, sym (same_err _ x e), stray_is text p is)
bad_at text None x is e = grind (arith, clean_schedule, ltb-true, same_err)

pub schedule_why : (text : List ℕ) (x : ScriptFault) → schedule_of text ≡ Err x → ScheduleFault text x
unfolding schedule_of
schedule_why text x e = bad_at text (stray_in text) x refl e

pub bad_told : (text : List ℕ) (p : ℕ) → IsFirstStray IsScheduleText text p → schedule_of text ≡ Err (fault.BadSchedule p)
unfolding schedule_of
bad_told text p first = ap (λ o. if_stands o (letters_of text)) (stray_found text p first)

pub long_told : (text : List ℕ) (letters : List Side) → IsSchedule text letters → LETTER_LIMIT < length letters → schedule_of text ≡ Err fault.ScheduleTooLong
unfolding schedule_of
long_told text letters s long = grind (arith, (schedule_clean text letters s), (schedule_spells text letters s), lt-ltb)

-- ---- the oracle

pub oracle_from : (text : List ℕ) (bits : List Bool) → oracle_of text ≡ Ok bits → IsOracle text bits
unfolding oracle_of
oracle_from text bits e = grind (arith, answers_from, ok_is, position_none)

pub oracle_to : (text : List ℕ) (bits : List Bool) → IsOracle text bits → oracle_of text ≡ Ok bits
unfolding oracle_of
oracle_to text bits o = grind (arith, none_position, oracle_answers, oracle_clean)

abbrev pub OracleFault : List ℕ → ScriptFault → Type 0
OracleFault text x = (p : ℕ) × (x ≡ fault.BadOracle p) × IsFirstStray IsOracleText text p

wrong_at : (text : List ℕ) (o : Option ℕ) (x : ScriptFault) → position is_no_answer text ≡ o → if_answers o text ≡ Err x → OracleFault text x
wrong_at text (Some p) x is e = (p, sym (same_err _ x e), position_first IsOracleText is_no_answer oracle_tested text p is)
wrong_at text None x is e = cc

pub oracle_why : (text : List ℕ) (x : ScriptFault) → oracle_of text ≡ Err x → OracleFault text x
unfolding oracle_of
oracle_why text x e = wrong_at text (position is_no_answer text) x refl e

pub oracle_told : (text : List ℕ) (p : ℕ) → IsFirstStray IsOracleText text p → oracle_of text ≡ Err (fault.BadOracle p)
unfolding oracle_of
oracle_told text p first = ap (λ o. if_answers o text) (first_position IsOracleText is_no_answer oracle_tested text p first)
