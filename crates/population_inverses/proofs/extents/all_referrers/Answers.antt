use Rattle.std.proofs.Common.{◌∙◌}
use Rattle.schema_names.specs.Schemas.{the_schema}
use Rattle.typed_populations.specs.PopulationViews.{population_seen}
use Rattle.typed_populations.proofs.Orders.{zip-next}
use Rattle.population_inverses.specs.InverseReferences.{AreHeld}
use Rattle.population_inverses.proofs.extents.all_referrers.Goals as goal

pub loop-inverse-preserved : goal.loop-inverse-preserved
loop-inverse-preserved c =
    let p = c.args.population.now in
    let s = the_schema p.types.now.names in
    zip-next (λ i r. AreHeld s i (population_seen p) r) c.args.inverses.now c.loop-inverse.inverse-index
    c.inverse-item.result c.loop-inverse.all.items c.push.new.self.items c.in_ok-of.field-0 c.loop-inverse-test.true
    c.inverse-item.is c.loop-inverse.invariant (λ y. c.in_ok-of.ensures y ∙ c.in_ok-references.ensures y)
    c.in_ok-push.ensures.items
