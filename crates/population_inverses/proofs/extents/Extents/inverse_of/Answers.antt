use Rattle.std.proofs.Common.{◌∙◌, ap, sym}
use Rattle.express_syntax.specs.ExpressionViews.{capitals}
use Rattle.schema_semantics.specs.Attributes.{Place}
use Rattle.schema_names.specs.Schemas.{the_schema}
use Rattle.typed_populations.specs.PopulationViews.{population_seen}
use Rattle.population_inverses.specs.Extents.{inverse_value_by}
use Rattle.population_inverses.proofs.Placing.{at, value-of}
use Rattle.population_inverses.proofs.extents.Extents.inverse_of.Goals as goal

pub returns-in-Some : goal.returns-in-Some
returns-in-Some c =
    let x = c.args.self.now in
    let s = the_schema x.population.now.types.now.names in
    let is = population_seen x.population.now in
    let all = x.rules.now.inverses.items in
    let p : Place = (capitals c.args.entity, capitals c.args.attribute) in
    c.inverse_by_number.ensures
    ∙ ap (λ o. inverse_value_by s (at all o) is c.args.name) (sym c.in-Some.is ∙ c.number_of.ensures)
    ∙ value-of s p is c.args.name all

pub returns-in-None : goal.returns-in-None
returns-in-None c =
    let x = c.args.self.now in
    let s = the_schema x.population.now.types.now.names in
    let is = population_seen x.population.now in
    let all = x.rules.now.inverses.items in
    let p : Place = (capitals c.args.entity, capitals c.args.attribute) in
    ap (λ o. inverse_value_by s (at all o) is c.args.name) (sym c.in-None.is ∙ c.number_of.ensures)
    ∙ value-of s p is c.args.name all
