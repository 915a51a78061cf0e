-- What is declared at a number, as it is read.
use Rattle.std.specs.Prelude.{◌≡◌, ℕ, ◌<◌, true, false, cond, List, [], Some, length, slice_get}
use Rattle.std.proofs.Common.{ap, sym, ◌∙◌, arith}
use Rattle.std.proofs.lemmas.List.{length-map}
use Rattle.graphs.specs.Graphs.{Graph, next}
use Rattle.express_syntax.specs.Schemas.{Schema, Declaration}
use Rattle.express_syntax.specs.SchemaViews.{schema_of}
use Rattle.express_syntax.specs.declared.tree.SchemaTree.{SchemaTree}
use Rattle.express_syntax.specs.Views.{declaration_of}
use Rattle.schema_semantics.specs.Names.{Name}
use Rattle.schema_names.specs.Numbers.{number_of, HasNumber}
use Rattle.schema_names.proofs.Edges.{number-within}
use Rattle.schema_attribute_sources.specs.steps.Deriving.{is_entity, is_some_entity, line_in}

-- a number is that of a declaration
pub tree-within : (t : SchemaTree) (n : Name) (i : ℕ) → HasNumber (schema_of t) n i → i < length t.declarations.items
tree-within t n i h =
    let lt = number-within (schema_of t) n i h in
    let long = length-map t.declarations.items declaration_of in
    omega (arith, lt, long)

module _ (s : Schema) (lines : Graph) (q : Name) (i : ℕ) (k : number_of s q ≡ Some i) (d : Declaration)
    (at : slice_get s.declarations i ≡ Some d) where
  line-at : line_in s lines (number_of s q) ≡ cond (is_entity d) (next lines i) []
  line-at =
      ap (line_in s lines) k ∙ ap (λ o. cond (is_some_entity o) (next lines i) []) at

  pub no-line : is_entity d ≡ false → [] ≡ line_in s lines (number_of s q)
  no-line e = sym (line-at ∙ ap (λ b. cond b (next lines i) []) e)

  pub line-is : (row : List ℕ) → is_entity d ≡ true → row ≡ next lines i → row ≡ line_in s lines (number_of s q)
  line-is row e is = is ∙ sym (line-at ∙ ap (λ b. cond b (next lines i) []) e)

-- there are as many declarations as are read
pub as-many : (t : SchemaTree) (i : ℕ) → i < length (schema_of t).declarations → i < length t.declarations.items
as-many t i lt =
    let long = length-map t.declarations.items declaration_of in
    omega (arith, lt, long)
