-- The scope of an expression, and the analysis of a reference in it, by number
-- (ISO 10303-11, 12.7).
use Rattle.std.specs.Prelude.{List, [], ◌∷◌, ◌↔◌, IsTrue}
use Rattle.express_syntax.specs.Trees.{Root, Qualifiers}
use Rattle.express_syntax.specs.ExpressionViews.{capitals}
use Rattle.express_syntax.specs.Schemas.{Schema}
use Rattle.schema_semantics.specs.Attributes.{Derivation}
use Rattle.schema_semantics.specs.Sets.{Set, QueryVariable, OfReference, IsUnclearReference, ReferenceMayUse}
use Rattle.schema_data_types.specs.steps.Values.{Holds}
use Rattle.schema_attributes.specs.Derivations.{HoldsDerivation}
use Rattle.schema_attribute_references.specs.steps.Taking.{IsKnown, IsSet, schema_in}
use Rattle.schema_data_types.specs.Items.{AreItems}
use Rattle.schema_expression_types.specs.declared.scope.Variable.{Variable as Numbered}
use Rattle.schema_expression_types.specs.declared.scope.Scope.{Scope}
use Rattle.schema_expression_types.specs.declared.references.Reference.{Reference}

abbrev pub variable_of : Schema → Numbered → QueryVariable
variable_of s v = record { name = capitals v.name; may = Holds s v.may.items }

-- Variables inside others. The innermost is the last one of the list, and the first one of the
-- definitions.
abbrev pub inside : Schema → List Numbered → List QueryVariable → List QueryVariable
inside s [] vs = vs
inside s (w ∷ ws) vs = inside s ws (variable_of s w ∷ vs)

-- The set of SELF in a scope.
abbrev pub own_in : Scope → Set
own_in t = Holds (schema_in t.known) t.own.now

-- The variables of a scope, innermost first.
abbrev pub variables_in : Scope → List QueryVariable
variables_in t = inside (schema_in t.known) t.variables.now []

-- The tables of a scope are those of the schema.
pub record IsScope (t : Scope) : Type 0 where
  pub known : IsKnown t.known
  pub items : AreItems (schema_in t.known) t.items.now

-- t is the analysis of a reference.
pub record IsReferred (s : Schema) (self : Set) (vs : List QueryVariable) (r : Root) (qs : Qualifiers) (t : Reference)
    : Type 0 where
  pub unclear : IsTrue t.is_unclear ↔ IsUnclearReference s self vs r qs
  pub may : IsSet s (OfReference s self vs r qs) t.may.items
  pub uses : (d : Derivation) → HoldsDerivation s t.uses.items d ↔ ReferenceMayUse s self d vs r qs
