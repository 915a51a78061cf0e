use Rattle.std.proofs.Common.{◌≡◌, map, drop}
use Rattle.express_syntax.specs.ExpressionViews.{capitals}
use Rattle.schema_names.specs.Schemas.{the_schema}
use Rattle.schema_constraints.specs.RuleViews.{inverse_seen}
use Rattle.population_inverses.specs.steps.Places.{number_from}
use Rattle.population_inverses.proofs.extents.Extents.number_of.Given as goal

abbrev pub invariant-loop-number : goal.invariant-loop-number
invariant-loop-number l =
    let s = the_schema l.self.population.now.types.now.names in
    number_from l.number (map (inverse_seen s) (drop l.number l.self.rules.now.inverses.items))
    (capitals l.entity, capitals l.attribute)
    ≡ number_from 0 (map (inverse_seen s) l.self.rules.now.inverses.items) (capitals l.entity, capitals l.attribute)
