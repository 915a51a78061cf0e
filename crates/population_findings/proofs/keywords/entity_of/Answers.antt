use Rattle.std.proofs.Common.{sym, subst, None}
use Rattle.step_literals.specs.Words.{upper}
use Rattle.schema_names.specs.Schemas.{the_schema}
use Rattle.population_findings.specs.steps.Keywords.{IsEntityOf}
use Rattle.population_findings.proofs.Naming.{empty-name}
use Rattle.population_findings.proofs.keywords.entity_of.Goals as goal

pub returns-in-None : goal.returns-in-None
returns-in-None c =
    subst (λ k. IsEntityOf (the_schema c.args.names.now) (upper k) None) (sym c.in-None.ensures.1)
    (empty-name c.args.names.now.schema.now)
