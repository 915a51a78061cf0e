use Rattle.std.proofs.Math.Logic.{∥∥₁_map}
use Rattle.conformance.specs.OtherNames.{other_names}
use Rattle.schema_names.specs.Schemas.{the_schema}
use Rattle.typed_populations.specs.TypedPopulations.{IsPopulation}
use Rattle.typed_populations.proofs.population.Population.is_of_its_exchange.Goals as goal

pub returns : goal.returns
returns c =
    let p = c.args.self.now in
    ∥∥₁_map p.typed (λ (w : IsPopulation (the_schema p.types.now.names) (other_names p.types.now.names.schema.now)
    p.exchange.now p.rows p.values). w.typed)
