use Rattle.std.proofs.Common.{sym, subst}
use Rattle.express_syntax.specs.Profile.{Every}
use Rattle.schema_names.specs.Schemas.{the_schema}
use Rattle.schema_constraints.specs.RuleViews.{IsNumberedInverse}
use Rattle.population_inverses.proofs.extents.Extents.build.Goals as goal

pub all_referrers-requires : goal.all_referrers-requires
all_referrers-requires c = record {
  numbered = subst (Every (IsNumberedInverse (the_schema c.args.population.now.types.now.names)))
      (sym c.deref.ensures.value) c.requires.rules.numbered.inverses;
}
