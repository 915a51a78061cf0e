-- The findings of a file according to its schema.
use Rattle.std.specs.Prelude.{◌≡◌, ℕ, List, [], ◌∷◌, ◌++◌}
use Rattle.express_syntax.specs.Schemas.{Schema}
use Rattle.step_structures.specs.Trees.{File}
use Rattle.schema_semantics.specs.Names.{Name}
use Rattle.conformance.specs.declared.finding.Finding.{Finding}
use Rattle.conformance.specs.Findings.{findings}
use Rattle.conformance.specs.Populations.{Instance}
use Rattle.conformance.specs.RuleFindings.{unique_findings, inverse_findings}
use Rattle.conformance.specs.DomainFindings.{rule_findings, unknown}
use Rattle.conformance.specs.SchemaMeanings.{Said, instances, FileConforms}
use Rattle.schema_constraints.specs.Findings.{AreFindingsOf}
use Rattle.schema_constraints.specs.declared.finding.RuleFinding.{RuleFinding}
use Rattle.schema_constraints.specs.declared.finding.RuleFindingKind.TheVariants.{WhereFalse, UniqueBroken, InverseBound}
use Rattle.rule_outcomes.specs.ReportCounts.{capped}

-- The findings of rules: where domain rules are FALSE, then where uniqueness rules are broken, then where the
-- bounds of inverse attributes are. `n` pairs of an instance and a domain rule are UNKNOWN, counted up to 2^64 - 1.
pub record AreRuleFindings (s : Schema) (said : Said s) (is : List Instance) (gs : List RuleFinding) (n : ℕ)
    : Type 0 where
  pub wheres : List RuleFinding
  pub uniques : List RuleFinding
  pub bounds : List RuleFinding
  pub all : gs ≡ wheres ++ uniques ++ bounds
  pub are_false : AreFindingsOf WhereFalse
      (rule_findings s said.domain said.entities said.attributes is said.conditions) wheres
  pub are_broken : AreFindingsOf UniqueBroken (unique_findings said.rules is) uniques
  pub are_exceeded : AreFindingsOf InverseBound (inverse_findings said.rules is) bounds
  pub are_unknown : n ≡ capped (unknown s said.domain said.entities said.attributes is said.conditions)

-- The findings of rules after those of the instances one by one. Rules are tested only if the instances have no
-- findings; otherwise there are none, and the count of UNKNOWN is 0.
abbrev pub AreBehind : (s : Schema) → Said s → List Finding → List Instance → List RuleFinding → ℕ → Type 0
AreBehind s said [] is gs n = AreRuleFindings s said is gs n
AreBehind s said (x ∷ xs) is gs n = (gs ≡ []) × (n ≡ 0)

-- The findings of a file that may call the schema by these other names: `fs` of its instances one by one, `gs` of
-- rules, and `n` pairs of an instance and a domain rule are UNKNOWN. They are the findings under every meaning of the
-- schema, and the schema has one.
abbrev pub AreFindings : Schema → List Name → File → List Finding → List RuleFinding → ℕ → Type 0
AreFindings s others f fs gs n = Said s
    × ((said : Said s) → (fs ≡ findings s said.domain said.entities others f)
    × AreBehind s said fs (instances s said f) gs n)

-- A file without findings conforms to its schema, and a file that conforms has no findings.
abbrev pub ConformsWhereNothingIsFound : Type 0
ConformsWhereNothingIsFound = (s : Schema) (said : Said s) (others : List Name) (f : File) (fs : List Finding)
    (gs : List RuleFinding) (n : ℕ) → AreFindings s others f fs gs n
    → ((fs ≡ []) × (gs ≡ []) → FileConforms s said others f)
    × (FileConforms s said others f → (fs ≡ []) × (gs ≡ []))
