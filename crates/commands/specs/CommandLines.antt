-- The outcome of a run of the command line.
use Rattle.std.specs.Prelude.{◌≡◌, ◌⊎◌, ⊤, ℕ, List, [], ◌∷◌, Option, Some, true, false, Err}
use Rattle.command_line.specs.Commands.{Asks, AsksNothing, AsksShrink, Command, Given, Options, plain_command, check_command, shrink_command, verify_command, presets_command}
use Rattle.command_line.specs.Requests.{CallFor}
use Rattle.command_line.specs.declared.command_words.Refusal.{Refusal}
use Rattle.files.specs.Stores.{Access, Opens, Stored, to_keep, to_read, to_write}
use Rattle.files.specs.declared.fault.FileFault.TheVariants.{Memory}
use Rattle.shrinking.specs.Shrinking.{Written}
use Rattle.commands.specs.Endings.{Ends, Exit, Output}
use Rattle.commands.specs.Merges.{MakesSmaller, Writers, asked_choice, asked_other_names}
use Rattle.commands.specs.PresetLists.{ListsPresets}
use Rattle.commands.specs.Runs.{Refuses, RunsCheck, RunsPlain}
use Rattle.commands.specs.Verifies.{RunsVerify}

-- what the file at a path held before a run, and what it holds after it
abbrev pub written_at : (List ℕ → Stored) → (List ℕ → Option (List ℕ)) → List ℕ → Written
written_at files holds path = record { before = (files path).contents; after = holds path }

-- The command was carried out on the files at these paths, with these options. After the run, `holds` gives the
-- content at each path.
module _ (writers : Writers) (files : List ℕ → Stored) (holds : List ℕ → Option (List ℕ)) (exit : Exit) where
  abbrev pub IsCarriedOut : Command → List (List ℕ) → Options → Type 0
  IsCarriedOut plain_command (path ∷ []) options = RunsPlain (files path) exit
  IsCarriedOut check_command (schema ∷ file ∷ []) options =
      RunsCheck (asked_other_names options.schema_alias) (files schema) (files file) exit
  IsCarriedOut shrink_command (schema ∷ file ∷ output ∷ certificate ∷ []) options =
      MakesSmaller writers (asked_choice options) options.strict (files schema) (files file)
      (written_at files holds output) (written_at files holds certificate) exit
  IsCarriedOut verify_command (schema ∷ file ∷ output ∷ certificate ∷ []) options =
      RunsVerify (asked_choice options) (files schema) (files file) (files output) (files certificate) exit
  IsCarriedOut presets_command [] options = ListsPresets exit
  IsCarriedOut command paths options = ⊥

-- Nothing was done, and the refusal that the arguments have was printed.
abbrev pub RunsNothing : List (List ℕ) → Exit → Type 0
RunsNothing words exit = (refusal : Refusal) × CallFor words refusal × Refuses refusal exit

-- The arguments request a command, which was carried out, or memory ran out before; or they request nothing.
abbrev pub Runs : Writers → List (List ℕ) → (List ℕ → Stored) → (List ℕ → Option (List ℕ)) → Exit → Type 0
Runs writers words files holds exit =
    ((command : Command) × (all : Given) × Asks words command all
    × IsCarriedOut writers files holds exit command all.operands all.options)
    ⊎ (AsksNothing words × RunsNothing words exit)

-- A file can fail: it isn't known that none of its reads does.
abbrev pub CanFail : Stored → Type 0
CanFail file = file.fails ≡ Some false → ⊥

-- One of these writers has failed.
abbrev pub HasFailedWriter : Writers → Type 0
HasFailedWriter writers = (writer : writers.Writer) × (writers.has_failed writer ≡ true)

-- The command reads a file at these paths that can fail, or it writes files and a writer has failed.
abbrev pub CanFailFor : Writers → (List ℕ → Stored) → Command → List (List ℕ) → Type 0
CanFailFor writers files plain_command (path ∷ []) = CanFail (files path)
CanFailFor writers files check_command (schema ∷ file ∷ []) = CanFail (files schema) ⊎ CanFail (files file)
CanFailFor writers files shrink_command (schema ∷ file ∷ output ∷ certificate ∷ []) =
    CanFail (files schema) ⊎ CanFail (files file) ⊎ HasFailedWriter writers
CanFailFor writers files verify_command (schema ∷ file ∷ output ∷ certificate ∷ []) =
    CanFail (files schema) ⊎ CanFail (files file) ⊎ CanFail (files output) ⊎ CanFail (files certificate)
CanFailFor writers files command paths = ⊥

-- The arguments request a command for which a file can fail, or a writer has failed.
abbrev pub AsksFailing : Writers → List (List ℕ) → (List ℕ → Stored) → Type 0
AsksFailing writers words files =
    (command : Command) × (all : Given) × Asks words command all × CanFailFor writers files command all.operands

-- If no output had failed before the run, one of these holds: an output has failed in the run, or the arguments
-- request a command for which a file can fail, or a writer has failed.
abbrev pub IsDevices : Writers → List (List ℕ) → (List ℕ → Stored) → Exit → Type 0
IsDevices writers words files exit = exit.out.before.has_failed ≡ false → exit.err.before.has_failed ≡ false
    → (exit.out.after.has_failed ≡ true) ⊎ (exit.err.after.has_failed ≡ true) ⊎ AsksFailing writers words files

-- The arguments request a smaller file or a certificate at this path.
abbrev pub AsksToWrite : List (List ℕ) → List ℕ → Type 0
AsksToWrite words path = (schema : List ℕ) × (file : List ℕ) × (output : List ℕ) × (certificate : List ℕ)
    × (options : Options) × AsksShrink words schema file output certificate options
    × ((path ≡ output) ⊎ (path ≡ certificate))

-- the accesses that a command makes to the files at these paths, in order
abbrev pub accesses : Command → List (List ℕ) → List Access
accesses plain_command (path ∷ []) = to_read path ∷ []
accesses check_command (schema ∷ file ∷ []) = to_read schema ∷ to_read file ∷ []
accesses shrink_command (schema ∷ file ∷ output ∷ certificate ∷ []) =
    to_read schema ∷ to_read file ∷ to_write output ∷ to_write certificate ∷ to_keep output ∷ to_keep certificate ∷ []
accesses verify_command (schema ∷ file ∷ output ∷ certificate ∷ []) =
    to_read schema ∷ to_read file ∷ to_read output ∷ to_read certificate ∷ []
accesses command paths = []

-- Memory ran out, and that was reported on the error output.
abbrev pub IsWantOfMemory : Output → ℕ → Type 0
IsWantOfMemory err status = Ends (Err Memory) err status

-- The files that the arguments name were opened, each once, in the order of the arguments. After that, those to be
-- written were taken back, the output first, whether or not anything was written. No file was opened if the
-- arguments request nothing, or if memory ran out before.
abbrev pub OpensAsked : List (List ℕ) → Option (List Access) → Option (List Access) → Output → ℕ → Type 0
OpensAsked words old new err status =
    ((command : Command) × (all : Given) × Asks words command all × Opens old new (accesses command all.operands))
    ⊎ ((new ≡ old) × (AsksNothing words ⊎ IsWantOfMemory err status))
