-- What the arguments of a request gave.
use Rattle.std.specs.Prelude.{[], ◌∷◌, Bool}
use Rattle.command_line.specs.Commands.{Given, four, given_as}
use Rattle.command_line.specs.steps.Options.{check_options, shrink_options, verify_options}
use Rattle.command_line.specs.declared.command_words.CheckRequest.{CheckRequest}
use Rattle.command_line.specs.declared.merge_words.ShrinkRequest.{ShrinkRequest}
use Rattle.command_line.specs.declared.merge_words.VerifyRequest.{VerifyRequest}

-- what the arguments gave
abbrev pub check_given : CheckRequest → Given
check_given asked = given_as (asked.schema.now ∷ asked.file.now ∷ []) (check_options asked)

abbrev pub shrink_given : ShrinkRequest → Given
shrink_given asked =
    four asked.schema.now asked.file.now asked.output.now asked.certificate.now (shrink_options asked)

abbrev pub verify_given : VerifyRequest → Given
verify_given asked =
    four asked.schema.now asked.file.now asked.output.now asked.certificate.now (verify_options asked)

-- what the arguments gave, with or without `--strict`
abbrev pub merging_given : VerifyRequest → Bool → Given
merging_given asked strict = four asked.schema.now asked.file.now asked.output.now asked.certificate.now
    (record (verify_options asked) { strict = strict })
