use Rattle.std.proofs.Common.{◌≡◌, [], ◌∷◌, refl, Some, None, Option, MatchOption, List, length, sym, ap, ◌∙◌, subst}
use Rattle.step_structures.specs.Trees.{Tree, one, none}
use Rattle.step_structures.specs.Fits.{NamesSchema}
use Rattle.step_records.specs.Cells.{all_of}
use Rattle.step_records.specs.Params.{node_value}
use Rattle.step_exchange.proofs.SchemaNames.{not_one, not_one_name, no_schema}
use Rattle.step_exchange.proofs.schema.names_schema.Goals as goal

alone : (o : Option Tree) (xs : List Tree) (x : Tree) → o ≡ Some x
    → MatchOption o (length xs ≡ 1 → ⊥) (λ y. xs ≡ y ∷ []) → xs ≡ x ∷ []
alone None xs x e h = absurd (cc)
alone (Some y) xs x e h = let same : y ≡ x = cc in h ∙ ap (λ z. z ∷ []) same

others : (o : Option Tree) (xs : List Tree) → ((x : Tree) → o ≡ Some x → ⊥)
    → MatchOption o (length xs ≡ 1 → ⊥) (λ y. xs ≡ y ∷ []) → length xs ≡ 1 → ⊥
others None xs f h = h
others (Some y) xs f h = absurd (f y refl)

pub returns-in_default : goal.returns-in_default
returns-in_default c = no_schema c.parts.result c.split-values.result.1 c.args.line.now c.parts.ensures
    c.split-values.ensures.back (not_one c.split-values.result.1 (others c.only.result c.split-values.result.1
    c.in_default.not-Some c.only.ensures))

pub returns-in_default-only : goal.returns-in_default-only
returns-in_default-only c = no_schema c.parts.result c.split-values.result.1 c.args.line.now c.parts.ensures
    c.split-values.ensures.back (λ n. not_one_name c.in-List.names (others c.only-2.result c.in-List.names
    c.in_default-only.not-Some c.only-2.ensures) (subst NamesSchema
    (ap all_of (alone c.only.result c.split-values.result.1 c.in-Some.value c.in-Some.is c.only.ensures)
    ∙ ap (λ x. one x none) (sym c.node.ensures ∙ ap node_value c.in-List.is)) n))
