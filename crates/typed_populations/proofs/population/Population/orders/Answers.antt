use Rattle.std.proofs.Common.{sym, subst}
use Rattle.express_syntax.specs.Profile.{Every}
use Rattle.schema_names.specs.Schemas.{the_schema}
use Rattle.typed_populations.specs.PopulationTables.{AreNumbered}
use Rattle.typed_populations.proofs.Found.{kept}
use Rattle.typed_populations.proofs.population.Population.orders.Goals as goal

pub orders-requires-clause-numbered : goal.orders-requires-clause-numbered
orders-requires-clause-numbered c =
    subst (Every (AreNumbered (the_schema c.args.self.now.types.now.names))) (sym c.deref-2.ensures.value)
    (kept c.args.self.now).numbered
