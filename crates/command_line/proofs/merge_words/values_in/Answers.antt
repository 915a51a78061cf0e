use Rattle.std.proofs.Common.{◌≡◌, ◌∙◌, Some, [], ◌∷◌, codes, refl}
use Rattle.clap.specs.Matches.{found_of}
use Rattle.clap.specs.Walk.{first_of, rows_of}
use Rattle.clap.proofs.WalkLemmas.{first_value-rows, one_text-rows}
use Rattle.command_line.specs.Commands.{alias_option, in_sets_flag, merge_option}
use Rattle.command_line.proofs.Settling.{flag_is, merging_same, same_options}
use Rattle.command_line.proofs.merge_words.values_in.Goals as goal

pub returns : goal.returns
returns c = λ all are has.
    let inner = found_of c.args.found.now in
    let schema : Some c.in_ok-schema.schema.now ≡ first_of (codes "SCHEMA") (rows_of inner) =
    c.in_ok-schema.ensures ∙ first_value-rows inner (codes "SCHEMA") in
    let file : Some c.in_ok-file.file.now ≡ first_of (codes "FILE") (rows_of inner) =
    c.in_ok-file.ensures ∙ first_value-rows inner (codes "FILE") in
    let output : Some c.in_ok-output.output.now ≡ first_of (codes "OUT") (rows_of inner) =
    c.in_ok-output.ensures ∙ first_value-rows inner (codes "OUT") in
    let certificate : Some c.in_ok-certificate.certificate.now ≡ first_of (codes "CERT") (rows_of inner) =
    c.in_ok-certificate.ensures ∙ first_value-rows inner (codes "CERT") in
    let four : Some c.in_ok-schema.schema.now ∷ Some c.in_ok-file.file.now ∷ Some c.in_ok-output.output.now
    ∷ Some c.in_ok-certificate.certificate.now ∷ [] ≡ first_of (codes "SCHEMA") (rows_of inner)
    ∷ first_of (codes "FILE") (rows_of inner) ∷ first_of (codes "OUT") (rows_of inner)
    ∷ first_of (codes "CERT") (rows_of inner) ∷ [] =
    λ i. schema i ∷ file i ∷ output i ∷ certificate i ∷ [] in
    merging_same all _ _ _ _ _
    (four ∙ has.operands)
    (same_options _ all.options
    (c.get_str-5.ensures ∙ first_value-rows inner (codes "merge") ∙ has.values merge_option)
    (c.get_str-6.ensures ∙ first_value-rows inner (codes "schema-alias") ∙ has.values alias_option)
    (flag_is all.options.in_sets c.get_flag.result _
    (one_text-rows inner (codes "in-sets") ∙ has.flags in_sets_flag refl)
    c.get_flag.ensures.value c.get_flag.ensures.other)
    refl)
