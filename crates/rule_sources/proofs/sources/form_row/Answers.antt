use Rattle.std.proofs.Common.{subst}
use Rattle.population_rows.specs.steps.Positions.{ArePositions}
use Rattle.rule_sources.proofs.sources.form_row.Goals as goal

pub named_sources-requires-clause-positions : goal.named_sources-requires-clause-positions
named_sources-requires-clause-positions c =
    subst (λ xs. ArePositions xs c.in_ok-positions.positions) c.deref.ensures.value c.in_ok-positions.ensures
