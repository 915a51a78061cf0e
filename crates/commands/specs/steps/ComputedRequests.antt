-- What the code computes; no promise is stated here. What a request asks for, and the files that it opens and writes.
use Rattle.std.specs.Prelude.{◌≡◌, ◌⊎◌, ℕ, List, [], ◌∷◌, Option}
use Rattle.command_line.specs.Commands.{Command, Given, given_as, no_options, plain_command, check_command, shrink_command, verify_command, presets_command}
use Rattle.command_line.specs.steps.AskedMerges.{check_given, shrink_given, verify_given}
use Rattle.command_line.specs.declared.command_words.CheckRequest.{CheckRequest}
use Rattle.command_line.specs.declared.merge_words.ShrinkRequest.{ShrinkRequest}
use Rattle.command_line.specs.declared.merge_words.VerifyRequest.{VerifyRequest}
use Rattle.command_line.specs.declared.command_words.Request.{Request}
use Rattle.command_line.specs.declared.command_words.Request.TheVariants.{Check, Plain, Presets, Shrink, Verify}
use Rattle.files.specs.Stores.{Access, Opens, Stored}
use Rattle.commands.specs.CommandLines.{IsCarriedOut, IsWantOfMemory, accesses}
use Rattle.commands.specs.Endings.{Exit, Output}
use Rattle.commands.specs.Merges.{Writers}

-- the command of a request, and what its arguments gave
abbrev pub command_of : Request → Command
command_of (Plain path) = plain_command
command_of (Check asked) = check_command
command_of (Shrink asked) = shrink_command
command_of (Verify asked) = verify_command
command_of Presets = presets_command

abbrev pub given_of : Request → Given
given_of (Plain path) = given_as (path.now ∷ []) no_options
given_of (Check asked) = check_given asked
given_of (Shrink asked) = shrink_given asked
given_of (Verify asked) = verify_given asked
given_of Presets = given_as [] no_options

-- the request was carried out
abbrev pub Does : Writers → Request → (List ℕ → Stored) → (List ℕ → Option (List ℕ)) → Exit → Type 0
Does writers request files holds exit =
    IsCarriedOut writers files holds exit (command_of request) (given_of request).operands (given_of request).options

-- the smaller file of the request isn't its certificate
abbrev pub IsApart : Request → Type 0
IsApart (Shrink asked) = asked.output.now ≡ asked.certificate.now → ⊥
IsApart request = Unit {0}

-- the request writes a file at this path
abbrev pub IsWritten : Request → List ℕ → Type 0
IsWritten (Shrink asked) path = (path ≡ asked.output.now) ⊎ (path ≡ asked.certificate.now)
IsWritten request path = ⊥

-- the accesses to files for a request, in order
abbrev pub check_opens : CheckRequest → List Access
check_opens asked = accesses check_command (check_given asked).operands

abbrev pub smaller_opens : ShrinkRequest → List Access
smaller_opens asked = accesses shrink_command (shrink_given asked).operands

abbrev pub proof_opens : VerifyRequest → List Access
proof_opens asked = accesses verify_command (verify_given asked).operands

abbrev pub opened_by : Request → List Access
opened_by request = accesses (command_of request) (given_of request).operands

-- these accesses were made, or none because memory ran out before
abbrev pub OpensUnlessMemory : Option (List Access) → Option (List Access) → List Access → Output → ℕ → Type 0
OpensUnlessMemory old new files err status = Opens old new files ⊎ ((new ≡ old) × IsWantOfMemory err status)
