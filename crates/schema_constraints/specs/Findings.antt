-- The findings of instances that violate rules of a whole population.
use Rattle.std.specs.Prelude.{◌≡◌, List}
use Rattle.std.specs.List.{AllZip}
use Rattle.schema_semantics.specs.Parts.{dotted}
use Rattle.schema_unchecked_declarations.specs.UncheckedLists.{label_name}
use Rattle.conformance.specs.RuleFindings.{Breach}
use Rattle.schema_constraints.specs.declared.finding.RuleFindingKind.{RuleFindingKind}
use Rattle.schema_constraints.specs.declared.finding.RuleFinding.{RuleFinding}

-- The finding is of the wanted kind, at the instance that violates the rule, and names the rule
-- HOLDER.LABEL.
pub record IsFindingOf (wanted : RuleFindingKind) (b : Breach) (f : RuleFinding) : Type 0 where
  pub kind : f.kind ≡ wanted
  pub instance : f.instance ≡ b.instance
  pub rule : label_name f.rule ≡ dotted b.holder b.label

-- The list has one finding for each violation, in turn.
abbrev pub AreFindingsOf : RuleFindingKind → List Breach → List RuleFinding → Type 0
AreFindingsOf kind breaches findings = AllZip (IsFindingOf kind) breaches findings
