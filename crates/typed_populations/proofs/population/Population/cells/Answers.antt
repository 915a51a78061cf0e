use Rattle.std.proofs.Common.{◌∙◌, sym, subst}
use Rattle.std.proofs.Math.Logic.{∥∥₁_map}
use Rattle.step_values.specs.steps.Targets.{LeadTo}
use Rattle.conformance.specs.OtherNames.{other_names}
use Rattle.schema_names.specs.Schemas.{the_schema}
use Rattle.typed_populations.specs.TypedPopulations.{IsPopulation}
use Rattle.typed_populations.proofs.Found.{population-nodes}
use Rattle.typed_populations.proofs.population.Population.cells.Goals as goal

pub returns-clause-count : goal.returns-clause-count
returns-clause-count c = c.cells.ensures.count ∙ population-nodes c.args.self.now

pub returns-clause-references : goal.returns-clause-references
returns-clause-references c =
    let p = c.args.self.now in
    ∥∥₁_map p.typed
    (λ (w : IsPopulation (the_schema p.types.now.names) (other_names p.types.now.names.schema.now)
    p.exchange.now p.rows p.values).
    subst (LeadTo p.exchange.now.names) (sym c.cells.ensures.targets) w.whole.leads)
