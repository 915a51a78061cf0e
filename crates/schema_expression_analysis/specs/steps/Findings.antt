-- The possible findings at a part of an expression, and adding findings to a survey
-- (ISO 10303-11, 12).
use Rattle.std.specs.Prelude.{◌≡◌, Bool, List, [], ◌∷◌, ◌++◌, ◌⊎◌, ◌↔◌, IsTrue}
use Rattle.express_syntax.specs.Trees.{Tree, Trees, Alternatives, Root, Qualifiers}
use Rattle.express_syntax.specs.ExpressionViews.{capitals}
use Rattle.express_syntax.specs.Schemas.{Schema}
use Rattle.schema_semantics.specs.Names.{Name}
use Rattle.schema_semantics.specs.Attributes.{Derivation}
use Rattle.schema_semantics.specs.Sets.{Set, Elements, May, QueryVariable, IsUnclearReference, ReferenceMayUse}
use Rattle.schema_semantics.specs.Reasons.{Somewhere, InTrees, InAlternatives, InIndices, NoTree, NoPath, IsLooseAggregate, IsBadTypeof, IsBadKind}
use Rattle.schema_attribute_references.specs.steps.Taking.{IsSet}
use Rattle.schema_attributes.specs.Derivations.{HoldsDerivation}
use Rattle.schema_expression_types.specs.declared.scope.Variable.{Variable as Numbered}
use Rattle.schema_expression_types.specs.steps.Scopes.{inside}
use Rattle.schema_expression_analysis.specs.declared.survey.Survey.{Survey}

pub data Finding : Type 0 where
  aggregate : Finding
  unclear : Finding
  bad_typeof : Finding
  bad_kind : Finding
  -- A derived attribute on which the value may depend.
  asked : Derivation → Finding

-- The finding is at a tree, with the enclosing variables, and whether the tree is on the right of
-- IN.
abbrev pub at_tree : Schema → Set → Finding → Bool → List QueryVariable → Tree → Type 0
at_tree s self aggregate = IsLooseAggregate
at_tree s self unclear = NoTree
at_tree s self bad_typeof = IsBadTypeof s self
at_tree s self bad_kind = IsBadKind s self
at_tree s self (asked d) = NoTree

-- The finding is at a reference.
abbrev pub at_path : Schema → Set → Finding → List QueryVariable → Root → Qualifiers → Type 0
at_path s self aggregate = NoPath
at_path s self unclear = IsUnclearReference s self
at_path s self bad_typeof = NoPath
at_path s self bad_kind = NoPath
at_path s self (asked d) = ReferenceMayUse s self d

-- The finding is somewhere in a tree.
abbrev pub Within : Schema → Set → Finding → Bool → List QueryVariable → Tree → Type 0
Within s self f w vs x = Somewhere s self (at_tree s self f) (at_path s self f) w vs x

abbrev pub WithinAll : Schema → Set → Finding → List QueryVariable → Trees → Type 0
WithinAll s self f vs xs = InTrees s self (at_tree s self f) (at_path s self f) vs xs

abbrev pub WithinOthers : Schema → Set → Finding → List QueryVariable → Alternatives → Type 0
WithinOthers s self f vs xs = InAlternatives s self (at_tree s self f) (at_path s self f) vs xs

abbrev pub WithinIndices : Schema → Set → Finding → List QueryVariable → Qualifiers → Type 0
WithinIndices s self f vs qs = InIndices s self (at_tree s self f) (at_path s self f) vs qs

-- The survey has the finding.
abbrev pub IsFound : Schema → Survey → Finding → Type 0
IsFound s t aggregate = IsTrue t.has_loose_aggregate
IsFound s t unclear = IsTrue t.has_unclear_name
IsFound s t bad_typeof = IsTrue t.has_bad_typeof
IsFound s t bad_kind = IsTrue t.has_bad_kind
IsFound s t (asked d) = HoldsDerivation s t.uses.items d

-- The findings for which P holds are added to a survey.
abbrev pub Finds : Schema → Survey → (Finding → Type 0) → Survey → Type 0
Finds s old P new = (f : Finding) → IsFound s new f ↔ (IsFound s old f ⊎ P f)

-- The findings for which P holds with the enclosing variables are added to a survey, and the
-- variables stay.
pub record Walks (s : Schema) (before : List Numbered) (old : Survey) (P : List QueryVariable → Finding → Type 0)
    (after : List Numbered) (new : Survey) : Type 0 where
  pub kept : after ≡ before
  pub finds : Finds s old (P (inside s before [])) new

-- The list is extended by a variable of this name, whose values may be the elements of the source.
pub record Binds (s : Schema) (self : Set) (before : List Numbered) (v : Name) (source : Tree) (after : List Numbered)
    : Type 0 where
  pub variable : Numbered
  pub last : after ≡ before ++ variable ∷ []
  pub called : capitals variable.name ≡ v
  pub may : IsSet s (Elements s (May s self (inside s before []) source)) variable.may.items
