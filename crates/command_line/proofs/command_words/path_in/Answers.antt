use Rattle.std.proofs.Common.{◌∙◌, List, Some, [], ◌∷◌, Option, ap, codes}
use Rattle.std.specs.Prelude.{get_or}
use Rattle.clap.specs.Simple.{subcommand_rows_of}
use Rattle.clap.specs.Matches.{found_of}
use Rattle.clap.specs.Walk.{Text, rows_of}
use Rattle.clap.proofs.WalkLemmas.{first_value-rows}
use Rattle.command_line.specs.Commands.{given_as, no_options, plain_command}
use Rattle.command_line.proofs.Settling.{values_among}
use Rattle.command_line.proofs.command_words.path_in.Goals as goal

pub returns-clause-file : goal.returns-clause-file
returns-clause-file c = λ path found.
    let inner = c.in_ok-subcommand_matches.field-0.now in
    let has = values_among (subcommand_rows_of c.args.matches.now) plain_command (given_as (path ∷ []) no_options)
    (rows_of (found_of inner)) found c.in_ok-subcommand_matches.ensures.rows in
    c.get_str.ensures ∙ first_value-rows (found_of inner) (codes "FILE")
    ∙ ap (λ (os : List (Option Text)). get_or os 0 (Some path)) has.operands
