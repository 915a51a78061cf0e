-- Laws of runs of the command line, in stores with these writers.
use Rattle.std.specs.Prelude.{◌≡◌, ◌⊎◌, ℕ, List, Option, Some, true, false}
use Rattle.std.specs.Io.KnownBytes.{Keeps}
use Rattle.command_line.specs.Commands.{Asks, AsksCheck, AsksNothing, AsksPlain, Command, Given, Options}
use Rattle.files.specs.Stores.{Stored}
use Rattle.commands.specs.CommandLines.{IsCarriedOut, IsDevices, Runs, RunsNothing}
use Rattle.commands.specs.Endings.{Exit}
use Rattle.commands.specs.Merges.{Writers}
use Rattle.commands.specs.Statuses.{IsStatus}

-- a statement about arguments, the files before a run, what the paths hold after it, and how the run ended
abbrev pub Saying : Type 1
Saying = List (List ℕ) → (List ℕ → Stored) → (List ℕ → Option (List ℕ)) → Exit → Type 0

-- The statement holds of each run.
abbrev pub OfRuns : Writers → Saying → Type 0
OfRuns writers P = (words : List (List ℕ)) (files : List ℕ → Stored) (holds : List ℕ → Option (List ℕ)) (exit : Exit)
    → Runs writers words files holds exit → P words files holds exit

-- If the arguments request a command, it was carried out, with the files as they were before. The paths of `shrink`
-- hold what was written, or their former content if nothing was.
abbrev pub CommandIsRun : Writers → Type 0
CommandIsRun writers = OfRuns writers (λ words files holds exit. (command : Command) → (all : Given)
    → Asks words command all → IsCarriedOut writers files holds exit command all.operands all.options)

-- If the arguments request nothing, nothing was done but to print the refusal that they have.
abbrev pub NothingIsRun : Writers → Type 0
NothingIsRun writers = OfRuns writers (λ words files holds exit. AsksNothing words → RunsNothing words exit)

-- The status is one that the program has.
abbrev pub StatusIsKnown : Writers → Type 0
StatusIsKnown writers = OfRuns writers (λ words files holds exit. IsStatus exit.status)

-- Nothing is written to the output unless the status is 0, 1 or 4: everything was done, a file breaks its schema or
-- a strict choice refuses it, or a device failed.
abbrev pub NothingWritten : Writers → Type 0
NothingWritten writers = OfRuns writers (λ words files holds exit. (exit.status ≡ 0) ⊎ (exit.status ≡ 1)
    ⊎ (exit.status ≡ 4) ⊎ Keeps exit.out.before.held exit.out.after.held)

-- If the status is 4, an output failed, or a file that was requested can fail, or a smaller file was requested and
-- a writer has failed.
abbrev pub DeviceIsTold : Writers → Type 0
DeviceIsTold writers =
    OfRuns writers (λ words files holds exit. exit.status ≡ 4 → IsDevices writers words files exit)

-- If the output or the error output failed, the status is 4.
abbrev pub OutputIsTold : Writers → Type 0
OutputIsTold writers = OfRuns writers (λ words files holds exit. exit.out.before.has_failed ≡ false
    → exit.out.after.has_failed ≡ true → exit.status ≡ 4)

abbrev pub ErrorIsTold : Writers → Type 0
ErrorIsTold writers = OfRuns writers (λ words files holds exit. exit.err.before.has_failed ≡ false
    → exit.err.after.has_failed ≡ true → exit.status ≡ 4)

-- If the normal text of a file is requested and each read of the file fails, the status is 4, or 5 if memory ran
-- out.
abbrev pub PlainFileIsTold : Writers → Type 0
PlainFileIsTold writers = OfRuns writers (λ words files holds exit. (path : List ℕ) → AsksPlain words path
    → (files path).fails ≡ Some true → (exit.status ≡ 4) ⊎ (exit.status ≡ 5))

-- If a check is requested and each read of the schema fails, the status is 4, or 5 if memory ran out.
abbrev pub CheckSchemaIsTold : Writers → Type 0
CheckSchemaIsTold writers = OfRuns writers (λ words files holds exit. (schema : List ℕ) → (file : List ℕ)
    → (options : Options) → AsksCheck words schema file options → (files schema).fails ≡ Some true → (exit.status ≡ 4) ⊎ (exit.status ≡ 5))

-- If a check is requested and each read of the file fails, the status is 4, or 5 if memory ran out. It is 2 if the
-- schema has a fault, since the file isn't read then.
abbrev pub CheckFileIsTold : Writers → Type 0
CheckFileIsTold writers = OfRuns writers (λ words files holds exit. (schema : List ℕ) → (file : List ℕ)
    → (options : Options) → AsksCheck words schema file options → (files file).fails ≡ Some true
    → (exit.status ≡ 2) ⊎ (exit.status ≡ 4) ⊎ (exit.status ≡ 5))
