-- What `read_words` returns.
use Rattle.std.specs.Prelude.{◌≡◌, ◌⊎◌, ℕ, List, Bool, true, false, Option, None, Some, Result, Ok, Err, string_bytes}
use Rattle.clap.specs.Kinds.{IsAmong}
use Rattle.clap.specs.Faults.{fault_of}
use Rattle.clap.specs.declared.error.kind.ErrorKind.{ErrorKind}
use Rattle.clap.specs.declared.error.kind.ErrorKind.TheVariants.{DisplayHelp, DisplayVersion, OutOfMemory}
use Rattle.command_line.specs.Clap.{stepmin_app}
use Rattle.command_line.specs.Commands.{AsksPlain, AsksCheck, AsksShrink, AsksVerify, AsksPresets, AsksClashing}
use Rattle.command_line.specs.steps.Options.{check_options, shrink_options, verify_options}
use Rattle.command_line.specs.declared.command_words.Refusal.{Refusal}
use Rattle.command_line.specs.declared.command_words.Refusal.TheVariants.{Shown, Usage, Memory}
use Rattle.command_line.specs.declared.command_words.Request.{Request}
use Rattle.command_line.specs.declared.command_words.Request.TheVariants.{Plain, Check, Shrink, Verify, Presets}

-- The arguments request this.
abbrev pub AskFor : List (List ℕ) → Request → Type 0
AskFor words (Plain path) = AsksPlain words path.now
AskFor words (Check asked) = AsksCheck words asked.schema.now asked.file.now (check_options asked)
AskFor words (Shrink asked) = AsksShrink words asked.schema.now asked.file.now asked.output.now asked.certificate.now
    (shrink_options asked)
AskFor words (Verify asked) = AsksVerify words asked.schema.now asked.file.now asked.output.now asked.certificate.now
    (verify_options asked)
AskFor words Presets = AsksPresets words

-- clap's error isn't a mistake, but a request for a text: help or the version
abbrev pub is_shown : ErrorKind → Bool
is_shown DisplayHelp = true
is_shown DisplayVersion = true
is_shown _ = false

-- By the rules of clap, the first thing that ends the parsing of the arguments is a request for a text.
abbrev pub AsksText : List (List ℕ) → Type 0
AsksText words = (kind : ErrorKind) × IsAmong kind (fault_of stepmin_app words) × (is_shown kind ≡ true)

-- By the rules of clap, the first thing that ends the parsing of the arguments is a fault.
abbrev pub AsksWrongly : List (List ℕ) → Type 0
AsksWrongly words = (kind : ErrorKind) × IsAmong kind (fault_of stepmin_app words) × (is_shown kind ≡ false)

-- The arguments have this refusal: clap finds a fault in them, or the program itself does and says so. Memory may
-- run out for any arguments.
abbrev pub CallFor : List (List ℕ) → Refusal → Type 0
CallFor words (Shown text) = AsksText words
CallFor words (Usage text) = AsksWrongly words ⊎ AsksClashing words (string_bytes text)
CallFor words Memory = Unit {0}

-- The kind of clap's error has this refusal.
abbrev pub CallsFor : ErrorKind → Refusal → Type 0
CallsFor kind (Shown text) = is_shown kind ≡ true
CallsFor kind (Usage text) = (is_shown kind ≡ false) × (kind ≡ OutOfMemory → ⊥)
CallsFor kind Memory = Unit {0}

-- The refusal has this message, or memory ran out.
abbrev pub SaysUsage : List ℕ → Refusal → Type 0
SaysUsage said (Usage text) = string_bytes text ≡ said
SaysUsage said Memory = Unit {0}
SaysUsage said (Shown text) = ⊥

-- The result is the refusal with the program's own message, if any, otherwise what was requested.
abbrev pub Settles : {X : Type 0} → Option (List ℕ) → X → Result X Refusal → Type 0
Settles said asked (Ok answer) = (said ≡ None) × (answer ≡ asked)
Settles said asked (Err refusal) = (text : List ℕ) × (said ≡ Some text) × SaysUsage text refusal
