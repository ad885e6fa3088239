-- The public laws of scripts.
use Rattle.std.specs.Prelude.{◌≡◌, ◌⊎◌, ◌<◌, ◌^◌, ℕ, List, decimal}
use Rattle.bits_core.specs.declared.events.Side.{Side}
use Rattle.ring_script.specs.Schedule.{IsLetterCount, IsSchedule, letters_counted}
use Rattle.ring_script.specs.Content.{Content}
use Rattle.ring_script.specs.Script.{IsScript}
use Rattle.ring_script.specs.Faults.{IsScriptFault}
use Rattle.ring_script.specs.declared.faults.ScriptFault.{ScriptFault}

-- bytes are a script, or have a fault
abbrev pub ScriptOrFault : Type 0
ScriptOrFault = (bytes : List ℕ) → ((content : Content) × IsScript bytes content) ⊎ ((fault : ScriptFault) × IsScriptFault bytes fault)

-- and not both
abbrev pub FaultyIsNoScript : Type 0
FaultyIsNoScript = (bytes : List ℕ) (fault : ScriptFault) (content : Content) → IsScriptFault bytes fault → ¬ IsScript bytes content

-- bytes have one fault
abbrev pub OneScriptFault : Type 0
OneScriptFault = (bytes : List ℕ) (f g : ScriptFault) → IsScriptFault bytes f → IsScriptFault bytes g → f ≡ g

-- bytes have at most one content
abbrev pub OneScriptReading : Type 0
OneScriptReading = (bytes : List ℕ) (a b : Content) → IsScript bytes a → IsScript bytes b → a ≡ b

-- a schedule's text represents one list of letters
abbrev pub OneSpelling : Type 0
OneSpelling = (text : List ℕ) (a b : List Side) → IsSchedule text a → IsSchedule text b → a ≡ b

-- what `{}` writes for a number from 1 on is a count of that many letters
abbrev pub DecimalIsCount : Type 0
DecimalIsCount = (n : ℕ) → 0 < n → n < 2 ^ 64 → IsLetterCount (decimal n) × (letters_counted (decimal n) ≡ n)
