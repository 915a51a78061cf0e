use Rattle.std.proofs.Common.{sym, subst}
use Rattle.express_syntax.specs.Profile.{Every}
use Rattle.schema_names.specs.Schemas.{the_schema}
use Rattle.typed_populations.specs.PopulationTables.{AreNumbered}
use Rattle.typed_populations.proofs.Found.{kept}
use Rattle.typed_populations.proofs.population.Population.forms.Goals as goal

pub returns-clause-numbered : goal.returns-clause-numbered
returns-clause-numbered c =
    subst (λ fs. Every (AreNumbered (the_schema c.args.self.now.types.now.names)) fs)
    (sym c.deref.ensures.value) (kept c.args.self.now).numbered
