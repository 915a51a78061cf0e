-- The findings in an expression (ISO 10303-11, 12).
use Rattle.std.specs.Prelude.{◌↔◌, IsTrue, false, []}
use Rattle.express_syntax.specs.Trees.{Tree}
use Rattle.express_syntax.specs.Schemas.{Schema}
use Rattle.schema_semantics.specs.Attributes.{Derivation}
use Rattle.schema_semantics.specs.Sets.{Set, ReferenceMayUse}
use Rattle.schema_semantics.specs.Reasons.{Somewhere, NoTree, HasLooseAggregate, HasUnclearName, HasBadTypeof, HasBadKind}
use Rattle.schema_attributes.specs.Derivations.{HoldsDerivation}
use Rattle.schema_expression_analysis.specs.declared.survey.Survey.{Survey}

-- t has the findings in a whole expression, with the set of SELF.
pub record IsSurvey (s : Schema) (self : Set) (x : Tree) (t : Survey) : Type 0 where
  pub aggregate : IsTrue t.has_loose_aggregate ↔ HasLooseAggregate s self x
  pub name : IsTrue t.has_unclear_name ↔ HasUnclearName s self x
  pub bad_typeof : IsTrue t.has_bad_typeof ↔ HasBadTypeof s self x
  pub kind : IsTrue t.has_bad_kind ↔ HasBadKind s self x
  pub uses : (d : Derivation)
      → HoldsDerivation s t.uses.items d ↔ Somewhere s self NoTree (ReferenceMayUse s self d) false [] x
