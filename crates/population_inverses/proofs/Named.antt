-- What a number stands for.
use Rattle.std.proofs.Common.{rules, ◌≡◌, ◌<◌, ℕ, Some, Option, None, length, sym, ◌∙◌, ap, arith}
use Rattle.std.proofs.lemmas.List.{length-map}
use Rattle.std.specs.Option.{IsSome}
use Rattle.express_syntax.specs.ExpressionViews.{capitals}
use Rattle.express_syntax.specs.Schemas.{Schema, Declaration}
use Rattle.express_syntax.specs.Views.{if_some, declaration_of}
use Rattle.express_syntax.specs.SchemaViews.{schema_of}
use Rattle.express_syntax.specs.declared.tree.SchemaTree.{SchemaTree}
use Rattle.step_literals.specs.declared.literal.Word.{Word}
use Rattle.schema_semantics.specs.Names.{Name, declared_name}
use Rattle.schema_names.specs.Numbers.{HasNumber, IsAt}
use Rattle.schema_names.proofs.Edges as edges
use Rattle.schema_names.proofs.Numbers.{what-stands}

pub number-within : (t : SchemaTree) (n : Name) (i : ℕ) → HasNumber (schema_of t) n i
    → i < length t.declarations.items
number-within t n i h =
    let lt = edges.number-within (schema_of t) n i h in
    let same = length-map t.declarations.items declaration_of in
    omega (arith, lt, same)

-- the word of a number's name
module _ (s : Schema) (n : Name) (i : ℕ) (h : HasNumber s n i) (w : Option Word)
    (says : (d : Declaration) → IsAt s i d → if_some capitals w ≡ declared_name d) where
  word-of : if_some capitals w ≡ Some n
  word-of = let (d, at, named) = what-stands s n i h in says d at ∙ named

  pub word-is-there : IsSome w
  word-is-there = by w word-of
    where
      by : (o : Option Word) → if_some capitals o ≡ Some n → IsSome o
      by None e = absurd (cc)
      by (Some x) e = search rules

  pub word-says : (x : Word) → w ≡ Some x → capitals x ≡ n
  word-says x e = by (sym (ap (if_some capitals) e) ∙ word-of)
    where
      by : if_some capitals (Some x) ≡ Some n → capitals x ≡ n
      by h = cc
