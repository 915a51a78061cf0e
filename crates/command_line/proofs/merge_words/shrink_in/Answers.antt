use Rattle.std.proofs.Common.{◌∙◌, codes, ap, refl}
use Rattle.clap.specs.Simple.{subcommand_rows_of}
use Rattle.clap.specs.Matches.{found_of}
use Rattle.clap.specs.Walk.{rows_of}
use Rattle.clap.proofs.WalkLemmas.{one_text-rows}
use Rattle.command_line.specs.Commands.{shrink_command, strict_flag}
use Rattle.command_line.specs.steps.AskedMerges.{merging_given}
use Rattle.command_line.proofs.Settling.{as_verified, flag_is, values_among}
use Rattle.command_line.proofs.merge_words.shrink_in.Goals as goal

pub returns-clause-values : goal.returns-clause-values
returns-clause-values c = λ all are found.
    let inner = found_of c.in_ok-found.found.now in
    let asked = c.in_ok-asked.asked in
    let has = values_among (subcommand_rows_of c.args.matches.now) shrink_command all (rows_of inner) found
    c.in_ok-found.ensures.rows in
    c.shrinking.ensures ∙ ap (merging_given asked)
    (flag_is all.options.strict c.get_flag.result _
    (one_text-rows inner (codes "strict") ∙ has.flags strict_flag refl)
    c.get_flag.ensures.value c.get_flag.ensures.other)
    ∙ c.in_ok-asked.ensures all are (as_verified (rows_of inner) all has)
