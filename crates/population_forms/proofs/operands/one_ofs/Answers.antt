use Rattle.std.proofs.Common.{◌∙◌, ◌<◌, length, map, flat_map, filter_map, ap, arith}
use Rattle.std.proofs.lemmas.List.{take_all}
use Rattle.graphs.specs.Graphs.{graph_of}
use Rattle.express_syntax.specs.Views.{declaration_of as declaration_seen}
use Rattle.schema_names.specs.Numbers.{number_of}
use Rattle.schema_names.specs.Schemas.{the_schema}
use Rattle.population_forms.specs.steps.Knowing.{one_ofs_in}
use Rattle.population_forms.proofs.Operating.{operands-more, of-entities}
use Rattle.population_forms.proofs.operands.one_ofs.Goals as goal

pub loop-declaration-preserved : goal.loop-declaration-preserved
loop-declaration-preserved c =
    let s = the_schema c.args.names.now in
    let xs = c.declarations-declaration-items.result.now in
    let at = c.loop-declaration.declaration-index in
    let lt : at < length xs = omega (arith, c.loop-declaration-test.true) in
    operands-more declaration_seen one_ofs_in (filter_map (number_of s)) xs at c.declaration-item.result
    (graph_of c.loop-declaration.rows.items) (graph_of c.add_operands.new.rows.items) lt c.declaration-item.is
    c.loop-declaration.invariant c.in_ok-add_operands.ensures

pub returns : goal.returns
returns c =
    let s = the_schema c.args.names.now in
    let whole =
    take_all c.loop-declaration.declaration-index c.declarations-declaration-items.result.now c.loop-declaration-test.false in
    c.loop-declaration.invariant
    ∙ ap (λ ds. map (filter_map (number_of s)) (flat_map one_ofs_in (map declaration_seen ds)))
    (whole ∙ c.declarations-declaration-items.ensures)
    ∙ ap (map (filter_map (number_of s))) (of-entities s.declarations)
