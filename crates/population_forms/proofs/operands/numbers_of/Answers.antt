use Rattle.std.proofs.Common.{◌∙◌, ◌<◌, ◌++◌, [], length, map, filter_map, ap, arith}
use Rattle.std.specs.List.{cons_option}
use Rattle.std.proofs.lemmas.List.{take_all}
use Rattle.express_syntax.specs.ExpressionViews.{capitals}
use Rattle.schema_names.specs.Numbers.{number_of}
use Rattle.schema_names.specs.Schemas.{the_schema}
use Rattle.schema_names.proofs.Rows.{filter-more}
use Rattle.population_forms.proofs.operands.numbers_of.Goals as goal

pub loop-word-preserved : goal.loop-word-preserved
loop-word-preserved c =
    let lt : c.loop-word.word-index < length c.args.words.now = omega (arith, c.loop-word-test.true) in
    filter-more capitals (number_of (the_schema c.args.names.now)) c.args.words.now c.loop-word.word-index
    c.word-item.result c.loop-word.row.items c.add_number.new.row.items lt c.word-item.is c.loop-word.invariant
    (c.in_ok-add_number.ensures ∙ ap (λ o. c.loop-word.row.items ++ cons_option o []) c.find.ensures)

pub returns : goal.returns
returns c =
    c.loop-word.invariant
    ∙ ap (λ ws. filter_map (number_of (the_schema c.args.names.now)) (map capitals ws))
    (take_all c.loop-word.word-index c.args.words.now c.loop-word-test.false)
