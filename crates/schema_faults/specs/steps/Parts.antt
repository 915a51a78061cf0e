-- The names that each part of a schema declares, by scope.
use Rattle.std.specs.Prelude.{ℕ, List, [], ◌∷◌}
use Rattle.step_literals.specs.declared.literal.Word.{Word}
use Rattle.express_syntax.specs.ExpressionViews.{capitals}
use Rattle.express_syntax.specs.Schemas as trees
use Rattle.express_syntax.specs.Views.{attribute_of, attributes_of}
use Rattle.express_syntax.specs.declared.tree.Attribute.{Attribute}
use Rattle.express_syntax.specs.declared.tree.Explicit.{Explicit}
use Rattle.express_syntax.specs.declared.tree.Derived.{Derived}
use Rattle.express_syntax.specs.declared.tree.Inverse.{Inverse}
use Rattle.schema_semantics.specs.Names.{own_names, attribute_names}
use Rattle.schema_semantics.specs.Faults.{Declared, in_scope, enumerated_items}

abbrev pub word_in : ℕ → Word → List Declared
word_in k w = (k, capitals w) ∷ []

-- The name of an attribute; empty for a redeclaration.
abbrev pub own_in : ℕ → Attribute → List Declared
own_in k a = in_scope k (own_names (attribute_of a ∷ []))

abbrev pub explicit_in : ℕ → Explicit → List Declared
explicit_in k x = in_scope k (own_names (attributes_of x.attributes))

abbrev pub derived_in : ℕ → Derived → List Declared
derived_in k d = own_in k d.attribute

abbrev pub inverse_in : ℕ → Inverse → List Declared
inverse_in k i = own_in k i.attribute

-- The name of a declaration is in the scope of the schema, and the names in it are in the scope k.
abbrev pub declared_in : ℕ → trees.Declaration → List Declared
declared_in k (trees.type t) = (0, t.name) ∷ in_scope k (enumerated_items t.underlying)
declared_in k (trees.entity e) = (0, e.name) ∷ in_scope k (attribute_names e)
declared_in k (trees.skipped p) = []
