-- What the words of the command line ask for.
use Rattle.std.specs.Prelude.{◌≡◌, ℕ, Bool, true, false, List, [], ◌∷◌, Option, Some, None, codes, if◌then◌else◌, nat_eq, option_and_then, option_map}
use Rattle.std.specs.Option.{option_map_or, unwrap_or}
use Rattle.std.specs.Str.{bytes_eq}
use Rattle.clap.specs.Words.{App, Kinds, Row, Rule, Text, app_of, fault_of, first_of, new_app, new_rule, subcommand_of, with_rule, with_subcommand}
use Rattle.clap.specs.declared.builder.command.Command.{Command}
use Rattle.clap.specs.declared.builder.command.Command.TheViews.{out-Command}
use Rattle.clap.specs.declared.builder.action.ArgAction.TheVariants.{Set, SetTrue}
use Rattle.clap.specs.ValueTests.{is_unsigned_in}
use Rattle.clap.specs.declared.builder.value_parser.ValueParser.TheVariants.{Unsigned}
use Rattle.std.specs.Str.Parse.{digits_value, without_leading_plus}
use Rattle.near_misses.specs.Misses.{miss_named}
use Rattle.near_misses.specs.declared.misses.NearMiss.{NearMiss}
use Rattle.register_calls.specs.declared.events.Class.{Class}
use Rattle.register_calls.specs.declared.events.Class.TheVariants.{Safe, Regular, AtomicByReader, Atomic}
use Rattle.ring_program.specs.declared.command_line.Audited.TheVariants.{Programs, Bits}
use Rattle.ring_program.specs.declared.command_line.PlayText.TheVariants.{Trace, Calls}
use Rattle.ring_program.specs.declared.command_line.PlayText.TheVariants as play
use Rattle.ring_program.specs.declared.command_line.Question.TheVariants.{Audit, Play}
use Rattle.ring_program.specs.declared.command_line.Request.{Request}
use Rattle.ring_program.specs.declared.command_line.Request.TheVariants.{OnInput}
use Rattle.ring_program.specs.declared.command_line.Request.TheVariants as request
use Rattle.ring_program.specs.declared.run_line.RingKind.{RingKind}
use Rattle.ring_program.specs.declared.run_line.RingKind.TheVariants.{Flicker, Counter}
use Rattle.ring_program.specs.declared.run_line.Run.{Run}
use Rattle.ring_program.specs.declared.run_line.RunText.{RunText}
use Rattle.ring_program.specs.declared.run_line.RunText.TheVariants.{Totals, Report, Recording}
use Rattle.ring_program.specs.declared.run_line.TheConstants.{ITEM_LIMIT}

-- a command of this application, with no option that its subcommands also have
abbrev pub IsCommand : Command → App → Type 0
IsCommand command app = (app_of command ≡ app) × ((out-Command command).has_globals ≡ false)

-- the command with one more option
abbrev pub HasOption : Rule → Command → Command → Type 0
HasOption rule old new = (app : App) → IsCommand old app → IsCommand new (with_rule app rule)

-- an option that is given or not
abbrev pub flag_rule : Text → Rule
flag_rule id = record (new_rule id) { long = Some id; action = Some SetTrue }

-- an option with a value
abbrev pub value_rule : Text → Rule
value_rule id = record (new_rule id) { long = Some id; action = Some Set; value_names = 1 }

-- `--at-least`
abbrev pub at_least_rule : Rule
at_least_rule = value_rule (codes "at-least")

-- `audit [--bits] [--why]`, `audit --bits --long`, `audit --calls [--stop]` and `audit --register [--at-least CLASS] [--report] [--stop]`
abbrev pub audit_command : App
audit_command =
    with_rule (with_rule (with_rule (with_rule (with_rule (with_rule (with_rule (with_rule (new_app (codes "audit"))
    (flag_rule (codes "bits"))) (flag_rule (codes "long"))) (flag_rule (codes "calls"))) (flag_rule (codes "register"))) at_least_rule)
    (flag_rule (codes "report"))) (flag_rule (codes "stop"))) (flag_rule (codes "why"))

-- `--wrong`
abbrev pub wrong_rule : Rule
wrong_rule = value_rule (codes "wrong")

-- `play [--trace | --calls]`, and `play --wrong NAME` with one of the two
abbrev pub play_command : App
play_command = with_rule (with_rule (with_rule (new_app (codes "play")) (flag_rule (codes "trace"))) (flag_rule (codes "calls"))) wrong_rule

-- an option whose value is a number up to a maximum
abbrev pub number_rule : Text → ℕ → Rule
number_rule id most = record (value_rule id) { parser = Some (Unsigned 0 most) }

-- one that is required
abbrev pub required_rule : Text → ℕ → Rule
required_rule id most = record (number_rule id most) { required = true }

-- the largest number of 64 bits
abbrev pub largest : ℕ
largest = 18446744073709551615

-- `--batch`, which is 1 if left out
abbrev pub batch_rule : Rule
batch_rule = record (number_rule (codes "batch") largest) { defaults = codes "1" ∷ [] }

-- `--take-batch`, in the same way
abbrev pub take_batch_rule : Rule
take_batch_rule = record (number_rule (codes "take-batch") largest) { defaults = codes "1" ∷ [] }

-- `--ring`, which is `flicker` if left out
abbrev pub ring_rule : Rule
ring_rule = record (value_rule (codes "ring")) { defaults = codes "flicker" ∷ [] }

-- `run`, with the five required options
abbrev pub run_required : App
run_required =
    with_rule (with_rule (with_rule (with_rule (with_rule (new_app (codes "run"))
    (required_rule (codes "capacity") largest)) (required_rule (codes "modulus") largest)) (required_rule (codes "width") largest))
    (required_rule (codes "count") ITEM_LIMIT)) (required_rule (codes "limit") largest)

-- `run`, with these, four that may be left out, and two flags
abbrev pub run_application : App
run_application =
    with_rule (with_rule (with_rule (with_rule (with_rule (with_rule run_required
    (number_rule (codes "takes") largest)) batch_rule) take_batch_rule) ring_rule) (flag_rule (codes "report"))) (flag_rule (codes "record"))

-- the program with no commands: it has a version, and one command has to be named
abbrev pub program_alone : App
program_alone =
    let named = new_app (codes "lamport_ring") in
    record named { top = record named.top { subcommand_required = true; has_version = true } }

-- the program
unfoldable pub application : App
application = with_subcommand (with_subcommand (with_subcommand program_alone audit_command.top) play_command.top) run_application.top

-- the flag of this id was given
abbrev pub is_flag_given : Text → List Row → Bool
is_flag_given id rows = option_map_or (λ t. bytes_eq t (codes "true")) (first_of id rows) false

-- an audit of a trace or of calls is of bits or of calls, not of both; one of bits alone may be long, and one of calls may stop at the
-- first fault; one that keeps the trace may report why
abbrev pub audit_request : (bits long calls stop why : Bool) → Option Request
audit_request true true false false false = Some request.LongBits
audit_request false false true stop false = Some (request.Calls stop)
audit_request true false false false why = Some (OnInput (Audit Bits why))
audit_request false false false false why = Some (OnInput (Audit Programs why))
audit_request _ _ _ _ _ = None

-- the class of this name
abbrev pub class_in : Text → Option Class
class_in name =
    if bytes_eq name (codes "safe") then Some Safe
    else (if bytes_eq name (codes "regular") then Some Regular
    else (if bytes_eq name (codes "atomic-by-reader") then Some AtomicByReader else (if bytes_eq name (codes "atomic") then Some Atomic else None)))

-- the class that a register should have: atomic, if none is named
abbrev pub class_asked : Option Text → Option Class
class_asked None = Some Atomic
class_asked (Some name) = class_in name

-- a request to audit a register
abbrev pub register_asked : Class → (report stop : Bool) → Request
register_asked class report stop = request.Register (record { at_least = class; report = report; stop = stop })

-- an audit of a register goes with no other audit
abbrev pub register_request : (bits long calls why : Bool) → Option Text → (report stop : Bool) → Option Request
register_request false false false false name report stop =
    option_map (λ class. register_asked class report stop) (class_asked name)
register_request _ _ _ _ name report stop = None

-- a class and a report are requested for a register only
abbrev pub audit_asked : (register : Bool) → Option Text → (report bits long calls stop why : Bool) → Option Request
audit_asked true name report bits long calls stop why = register_request bits long calls why name report stop
audit_asked false (Some name) report bits long calls stop why = None
audit_asked false None true bits long calls stop why = None
audit_asked false None false bits long calls stop why = audit_request bits long calls stop why

-- what the flags of `audit` ask for
abbrev pub audit_request_of : List Row → Option Request
audit_request_of rows =
    audit_asked (is_flag_given (codes "register") rows) (first_of (codes "at-least") rows) (is_flag_given (codes "report") rows)
    (is_flag_given (codes "bits") rows) (is_flag_given (codes "long") rows) (is_flag_given (codes "calls") rows)
    (is_flag_given (codes "stop") rows) (is_flag_given (codes "why") rows)

-- a play prints a trace or its calls, and not both; a play by a near miss prints one of the two
abbrev pub play_asked : (trace calls : Bool) → Option NearMiss → Option Request
play_asked true false miss = Some (OnInput (Play (Trace miss)))
play_asked false true miss = Some (OnInput (Play (Calls miss)))
play_asked false false None = Some (OnInput (Play play.Report))
play_asked _ _ _ = None

-- by the name of a near miss, if one is given
abbrev pub play_by : Option Text → Bool → Bool → Option Request
play_by None trace calls = play_asked trace calls None
play_by (Some name) trace calls = option_and_then (λ miss. play_asked trace calls (Some miss)) (miss_named name)

-- what the flags of `play` ask for
abbrev pub play_request_of : List Row → Option Request
play_request_of rows = play_by (first_of (codes "wrong") rows) (is_flag_given (codes "trace") rows) (is_flag_given (codes "calls") rows)

-- the number that a text writes in decimal, if it is one of 64 bits
abbrev pub number_in : Text → Option ℕ
number_in text = if is_unsigned_in 0 largest text then Some (digits_value 10 (without_leading_plus text)) else None

-- the number that the option of this id was given
abbrev pub number_given : Text → List Row → Option ℕ
number_given id rows = option_and_then number_in (first_of id rows)

-- the ring of this name
abbrev pub ring_in : Text → Option RingKind
ring_in name = if bytes_eq name (codes "flicker") then Some Flicker else (if bytes_eq name (codes "counter") then Some Counter else None)

-- the requested ring
abbrev pub ring_given : List Row → Option RingKind
ring_given rows = option_and_then ring_in (first_of (codes "ring") rows)

-- the requested text, by whether a report and a recording were requested: not both
abbrev pub text_asked : Bool → Bool → Option RunText
text_asked true true = None
text_asked true false = Some Report
text_asked false true = Some Recording
text_asked false false = Some Totals

-- the requested text
abbrev pub text_given : List Row → Option RunText
text_given rows = text_asked (is_flag_given (codes "report") rows) (is_flag_given (codes "record") rows)

-- the run with these numbers
abbrev pub run_of_numbers : RingKind → ℕ → ℕ → ℕ → ℕ → ℕ → ℕ → ℕ → ℕ → RunText → Run
run_of_numbers ring capacity modulus width batch take_batch count puts takes text =
    record { ring = ring; capacity = capacity; modulus = modulus; width = width; batch = batch; take_batch = take_batch; count = count; limits = record { puts = puts; takes = takes }; text = text }

-- what the options of `run` ask for: as many takes as puts, if nothing else is given
abbrev pub run_in : List Row → Option Run
run_in rows =
    option_and_then (λ text. option_and_then (λ ring. option_and_then (λ capacity. option_and_then (λ modulus. option_and_then (λ width. option_and_then (λ batch. option_and_then (λ take_batch. option_and_then (λ count.
    option_map (λ puts. run_of_numbers ring capacity modulus width batch take_batch count puts (unwrap_or (number_given (codes "takes") rows) puts) text)
    (number_given (codes "limit") rows)) (number_given (codes "count") rows)) (number_given (codes "take-batch") rows)) (number_given (codes "batch") rows))
    (number_given (codes "width") rows)) (number_given (codes "modulus") rows)) (number_given (codes "capacity") rows)) (ring_given rows)) (text_given rows)

-- what the named command asks for
abbrev pub request_in : Option (Text × List Row) → Option Request
request_in None = None
request_in (Some found) =
    if bytes_eq found.0 (codes "audit") then audit_request_of found.1
    else (if bytes_eq found.0 (codes "play") then play_request_of found.1
    else (if bytes_eq found.0 (codes "run") then option_map request.Run (run_in found.1) else None))

-- there is a request only if the words have no fault
abbrev pub where_taken : Kinds → Option Request → Option Request
where_taken [] request = request
where_taken (kind ∷ kinds) request = None

-- what the words ask for, the program's name first; nothing if they are not a command line of this program
unfoldable pub request_of : List Text → Option Request
request_of words = where_taken (fault_of application words) (request_in (subcommand_of application words))

-- ---- a line of words

-- a letter before these words
abbrev pub letter_before : ℕ → List Text → List Text
letter_before letter [] = (letter ∷ []) ∷ []
letter_before letter (word ∷ words) = (letter ∷ word) ∷ words

-- the words of a line, separated by spaces
abbrev pub split_words : List ℕ → List Text
split_words [] = [] ∷ []
split_words (letter ∷ more) = if nat_eq letter 32 then [] ∷ split_words more else letter_before letter (split_words more)

-- the words of this line, after the program's name, ask for this, or for nothing
abbrev pub Asks : List ℕ → Option Request → Type 0
Asks line request = (name : Text) → request_of (name ∷ split_words line) ≡ request
