use Rattle.std.proofs.Common.{[], ◌∷◌}
use Rattle.command_line.specs.Commands.{check_command, given_as, no_options, plain_command}
use Rattle.commands.proofs.Asked.{carried}
use Rattle.commands.proofs.CheckRuns.{checked_failed, schema_failed}
use Rattle.commands.proofs.PlainRuns.{file_failed}
use Rattle.commands.proofs.laws.files_are_told.Goals as goal

pub returns-clause-plain : goal.returns-clause-plain
returns-clause-plain g c = λ words files holds exit runs path asks is.
    file_failed _ _ (carried _ words files holds exit runs plain_command (given_as (path ∷ []) no_options) asks) is

pub returns-clause-schema : goal.returns-clause-schema
returns-clause-schema g c = λ words files holds exit runs schema file options asks is.
    schema_failed _ _ _ _
    (carried _ words files holds exit runs check_command (given_as (schema ∷ file ∷ []) options) asks) is

pub returns-clause-file : goal.returns-clause-file
returns-clause-file g c = λ words files holds exit runs schema file options asks is.
    checked_failed _ _ _ _
    (carried _ words files holds exit runs check_command (given_as (schema ∷ file ∷ []) options) asks) is
