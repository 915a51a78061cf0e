-- No declaration of a schema that was read is named by no characters.
use Rattle.std.proofs.Common.{◌≡◌, ℕ, ◌+◌, false, List, [], ◌∷◌, refl, ap, sym, ◌∙◌}
use mathlib.Core.Bool.{Bool-set}
use Rattle.std.proofs.Math.Logic.{∥∥₁_elim}
use Rattle.std.specs.Prelude.{cond, map, Some, None, bytes_eq}
use Rattle.step_literals.specs.Tokens.{IsKeyword}
use Rattle.step_literals.specs.Words.{upper}
use Rattle.step_literals.specs.declared.literal.Word.{Word}
use Rattle.express_syntax.specs.declared.tree.Declaration.{Declaration}
use Rattle.express_syntax.specs.declared.tree.Declaration.TheVariants as declarations
use Rattle.express_syntax.specs.declared.tree.SchemaTree.{SchemaTree}
use Rattle.express_syntax.specs.Views.{declaration_of}
use Rattle.express_syntax.specs.SchemaViews.{schema_of}
use Rattle.express_syntax.specs.ExpressionViews.{capitals}
use Rattle.schema_semantics.specs.Names.{is_named, declared_name}
use Rattle.schema_names.specs.Numbers.{number_from, number_of}

word_named : (bs : List ℕ) → IsKeyword bs → bytes_eq (upper bs) [] ≡ false
word_named [] k = absurd k
word_named (b ∷ bs) k = refl

other_name : (w : Word) → bytes_eq (capitals w) [] ≡ false
other_name w = ∥∥₁_elim w.spelled (Bool-set _ _) (λ k. word_named w.text.now k)

not_named : (d : Declaration) → is_named [] (declared_name (declaration_of d)) ≡ false
not_named (declarations.Type t) = other_name t.name
not_named (declarations.Entity e) = other_name e.name
not_named (declarations.Skipped s) = refl

unnumbered : (k : ℕ) (ds : List Declaration) → None ≡ number_from k (map declaration_of ds) []
unnumbered k [] = refl
unnumbered k (d ∷ ds) =
    unnumbered (k + 1) ds
    ∙ sym (ap (λ b. cond b (Some k) (number_from (k + 1) (map declaration_of ds) [])) (not_named d))

pub no_number : (t : SchemaTree) → None ≡ number_of (schema_of t) []
no_number t = unnumbered 0 t.declarations.items
