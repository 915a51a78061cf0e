-- What a literal says by its characters.
use Rattle.std.specs.Prelude.{◌≡◌, ◌∷◌, ◌++◌, ℕ, Option, None, Some, List, map}
use Rattle.std.proofs.Common.{ap, sym, ◌∙◌}
use Rattle.step_literals.specs.declared.literal.items.Item.{Item}
use Rattle.step_literals.specs.declared.literal.items.Item.TheVariants.{Code}
use Rattle.express_syntax.specs.Trees.{Literal, literal}
use Rattle.express_syntax.specs.Schemas.{Schema}
use Rattle.schema_semantics.specs.Names.{Name}
use Rattle.schema_semantics.specs.Reasons.{IsString}
use Rattle.schema_names.specs.Numbers.{HasNumber}
use Rattle.schema_expression_types.specs.steps.Characters.{AreCharacters, SaysIn}
use Rattle.schema_expression_types.specs.steps.Said.{IsSaid}
use Rattle.schema_expression_types.proofs.Literals.{one-spelling}
use Rattle.schema_expression_types.proofs.Capitals.{behind-same}

pub is-said : (s : Schema) (l : Literal) (items : List Item) (text : List ℕ) (o : Option ℕ) → AreCharacters l items
    → items ≡ map Code text → SaysIn s text o → IsSaid s (literal l) o
is-said s l items text None chars e none = unsaid
  where
    unsaid : (n : Name) (i : ℕ) → IsString l (s.name ++ 46 ∷ n) → HasNumber s n i → ⊥
    unsaid n i says k =
        none n i (one-spelling text (s.name ++ 46 ∷ n) (sym e ∙ (chars (s.name ++ 46 ∷ n)).0 says)) k
is-said s l items text (Some i) chars e (n, at, k) =
    (n, (chars (s.name ++ 46 ∷ n)).1 (e ∙ ap (map Code) at), k, one)
  where
    one : (m : Name) → IsString l (s.name ++ 46 ∷ m) → m ≡ n
    one m says =
        behind-same s.name m n
        (sym (one-spelling text (s.name ++ 46 ∷ m) (sym e ∙ (chars (s.name ++ 46 ∷ m)).0 says)) ∙ at)
