use Rattle.std.proofs.Common.{◌≡◌, ◌∙◌, [], ◌∷◌, Some, codes, refl, sym}
use Rattle.clap.specs.Simple.{subcommand_rows_of}
use Rattle.clap.specs.Matches.{found_of}
use Rattle.clap.specs.Walk.{first_of, rows_of}
use Rattle.clap.proofs.WalkLemmas.{first_value-rows}
use Rattle.command_line.specs.Commands.{alias_option, check_command, in_sets_flag, merge_option, strict_flag}
use Rattle.command_line.proofs.Settling.{lacks_first, lacks_second, reading_same, same_options, values_among}
use Rattle.command_line.proofs.command_words.check_in.Goals as goal

pub returns-clause-values : goal.returns-clause-values
returns-clause-values c = λ all are takes found.
    let inner = found_of c.in_ok-found.found.now in
    let has = values_among (subcommand_rows_of c.args.matches.now) check_command all (rows_of inner) found
    c.in_ok-found.ensures.rows in
    let schema : Some c.in_ok-schema.schema.now ≡ first_of (codes "SCHEMA") (rows_of inner) =
    c.in_ok-schema.ensures ∙ first_value-rows inner (codes "SCHEMA") in
    let file : Some c.in_ok-file.file.now ≡ first_of (codes "FILE") (rows_of inner) =
    c.in_ok-file.ensures ∙ first_value-rows inner (codes "FILE") in
    let both : Some c.in_ok-schema.schema.now ∷ Some c.in_ok-file.file.now ∷ []
    ≡ first_of (codes "SCHEMA") (rows_of inner) ∷ first_of (codes "FILE") (rows_of inner) ∷ [] =
    λ i. schema i ∷ file i ∷ [] in
    reading_same all c.in_ok-schema.schema.now c.in_ok-file.file.now _
    (both ∙ has.operands)
    (same_options _ all.options (sym (takes.0 merge_option refl))
    (c.get_str-3.ensures ∙ first_value-rows inner (codes "schema-alias") ∙ has.values alias_option)
    (sym (takes.1 in_sets_flag refl)) (sym (takes.1 strict_flag refl)))

pub returns-in_err-schema-clause-found : goal.returns-in_err-schema-clause-found
returns-in_err-schema-clause-found c = λ all are found.
    let inner = found_of c.in_ok-found.found.now in
    let has = values_among (subcommand_rows_of c.args.matches.now) check_command all (rows_of inner) found
    c.in_ok-found.ensures.rows in
    absurd (lacks_first all.operands (c.in_err-schema.ensures ∙ first_value-rows inner (codes "SCHEMA")) has.operands)

pub returns-in_err-file-clause-found : goal.returns-in_err-file-clause-found
returns-in_err-file-clause-found c = λ all are found.
    let inner = found_of c.in_ok-found.found.now in
    let has = values_among (subcommand_rows_of c.args.matches.now) check_command all (rows_of inner) found
    c.in_ok-found.ensures.rows in
    absurd (lacks_second all.operands (c.in_err-file.ensures ∙ first_value-rows inner (codes "FILE")) has.operands)
