-- Variables by name, from the innermost on.
use Rattle.std.specs.Prelude.{◌≡◌, ◌≢◌, ℕ, ◌+◌, ◌<◌, List, [], ◌∷◌, ◌++◌, ◌⊎◌, ◌↔◌, take, get_or, length}
use Rattle.std.proofs.Common.{refl, inl, inr, sym, ap, subst, ◌∙◌}
use Rattle.express_syntax.specs.Schemas.{Schema}
use Rattle.schema_semantics.specs.Names.{Name}
use Rattle.schema_semantics.specs.Shapes.{Atom}
use Rattle.schema_semantics.specs.Sets.{QueryVariable, IsVariable, OfVariable}
use Rattle.schema_names.proofs.Rows.{take-more}
use Rattle.schema_expression_types.specs.declared.scope.Variable.{Variable as Numbered}
use Rattle.schema_expression_types.specs.steps.Scopes.{inside, variable_of}
use Rattle.schema_expression_types.specs.steps.Meanings.{IsFound}

-- what is found among the outer variables is what is found among all
pub record Outer (s : Schema) (n : Name) (outer all : List QueryVariable) : Type 0 where
  pub some : (v : Numbered) → IsFound s outer n v → IsFound s all n v
  pub none : (IsVariable outer n → ⊥) → IsVariable all n → ⊥

module _ (s : Schema) (n : Name) where
  innermost : (ws : List Numbered) (w : Numbered) (vs : List QueryVariable) → inside s (ws ++ w ∷ []) vs
      ≡ variable_of s w ∷ inside s ws vs
  innermost [] w vs = refl
  innermost (u ∷ ws) w vs = innermost ws w (variable_of s u ∷ vs)

  behind : (w : QueryVariable) (vs : List QueryVariable) → w.name ≢ n → Outer s n vs (w ∷ vs)
  behind w vs differ =
      record {
        some = λ v (is, may). (inr is, λ x. (λ h. inr (differ, (may x).0 h), λ h. (may x).1 (of h)));
        none = λ h m. not h m;
      }
    where
      of : {x : Atom} → OfVariable (w ∷ vs) n x → OfVariable vs n x
      of (inl (e, m)) = absurd (differ e)
      of (inr (e, m)) = m

      not : (IsVariable vs n → ⊥) → IsVariable (w ∷ vs) n → ⊥
      not h (inl e) = differ e
      not h (inr m) = h m

  outer-on : (us vs ws : List QueryVariable) → Outer s n us vs → Outer s n vs ws → Outer s n us ws
  outer-on us vs ws h k = record { some = λ v m. k.some v (h.some v m); none = λ m. k.none (h.none m) }

  module _ (xs : List Numbered) (i : ℕ) (w : Numbered) (lt : i < length xs) (at : w ≡ get_or xs i w) where
    here : inside s (take (i + 1) xs) [] ≡ variable_of s w ∷ inside s (take i xs) []
    here = ap (λ ys. inside s ys []) (take-more xs i w lt at) ∙ innermost (take i xs) w []

    -- the next variable has another name
    pub next-outer : (variable_of s w).name ≢ n → Outer s n (inside s (take (i + 1) xs) []) (inside s xs [])
        → Outer s n (inside s (take i xs) []) (inside s xs [])
    next-outer differ h =
        outer-on (inside s (take i xs) []) (variable_of s w ∷ inside s (take i xs) []) (inside s xs [])
        (behind (variable_of s w) (inside s (take i xs) []) differ)
        (subst (λ vs. Outer s n vs (inside s xs [])) here h)

    -- this variable is the innermost of its name
    pub this-found : (variable_of s w).name ≡ n → Outer s n (inside s (take (i + 1) xs) []) (inside s xs [])
        → IsFound s (inside s xs []) n w
    this-found same h =
        h.some w (subst (λ vs. IsFound s vs n w) (sym here) (inl same, λ x. (λ m. inl (same, m), back x)))
      where
        back : (x : Atom) → OfVariable (variable_of s w ∷ inside s (take i xs) []) n x → (variable_of s w).may x
        back x (inl (e, m)) = m
        back x (inr (e, m)) = absurd (e same)
