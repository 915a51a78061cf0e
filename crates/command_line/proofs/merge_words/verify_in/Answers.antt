use Rattle.std.proofs.Common.{◌∙◌, ap, refl, sym}
use Rattle.clap.specs.Simple.{subcommand_rows_of}
use Rattle.clap.specs.Matches.{found_of}
use Rattle.clap.specs.Walk.{rows_of}
use Rattle.command_line.specs.Commands.{strict_flag, verify_command}
use Rattle.command_line.specs.steps.AskedMerges.{merging_given}
use Rattle.command_line.proofs.Settling.{if_some, values_among}
use Rattle.command_line.proofs.merge_words.verify_in.Goals as goal

pub returns-clause-values : goal.returns-clause-values
returns-clause-values c = λ all are takes found.
    if_some c.values_in.result _ _
    (λ asked is. ap (merging_given asked) (sym (takes.1 strict_flag refl)) ∙ is)
    (c.values_in.ensures all are (values_among (subcommand_rows_of c.args.matches.now) verify_command all
    (rows_of (found_of c.in_ok-subcommand_matches.field-0.now)) found c.in_ok-subcommand_matches.ensures.rows))
