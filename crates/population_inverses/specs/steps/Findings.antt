-- How findings are added to a list.
use Rattle.std.specs.Prelude.{◌≡◌, List, ◌++◌}
use Rattle.conformance.specs.RuleFindings.{Breach}
use Rattle.schema_constraints.specs.Findings.{AreFindingsOf}
use Rattle.schema_constraints.specs.declared.finding.RuleFinding.{RuleFinding}
use Rattle.schema_constraints.specs.declared.finding.RuleFindingKind.{RuleFindingKind}

-- The list is extended by one finding for each of these breaches.
abbrev pub Adds : RuleFindingKind → List Breach → List RuleFinding → List RuleFinding → Type 0
Adds kind breaches old new = (more : List RuleFinding) × (new ≡ old ++ more) × AreFindingsOf kind breaches more
