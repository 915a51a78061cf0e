-- What is found in some trees, alternatives or qualifiers, and in one more behind them.
use Rattle.std.proofs.Common.{◌≡◌, ◌⊎◌, ◌↔◌, false, List, [], ◌∷◌, ◌++◌, map, inl, inr, refl, subst, ap}
use Rattle.express_syntax.specs.declared.expression.Expr.{Expr}
use Rattle.express_syntax.specs.declared.expression.Qualifier.{Qualifier}
use Rattle.express_syntax.specs.declared.expression.Alternative.{Alternative}
use Rattle.express_syntax.specs.declared.expression.Expr.TheFolds.{fold_out-Alternative}
use Rattle.express_syntax.specs.ExpressionViews.{Choice, choice, Selection, tree_step, selection_step, choice_step, of_attribute, of_group, of_element, tree_of, choice_of, selection_of, trees_of, choices_of, selections_of, alternatives_of, qualifiers_of}
use Rattle.express_syntax.specs.Schemas.{Schema}
use Rattle.schema_semantics.specs.Sets.{Set, QueryVariable}
use Rattle.express_syntax.specs.Trees.{Tree}
use Rattle.schema_expression_analysis.specs.steps.Findings.{Finding, Within, WithinAll, WithinOthers, WithinIndices}
use Rattle.schema_expression_analysis.proofs.Agreeing.{same, either, chain}

-- the term behind OR or XOR
abbrev pub choice_tree : Choice → Tree
choice_tree (choice j x) = x

term-is : (a : Alternative) → choice_tree (choice_of a) ≡ tree_of a.term
term-is a =
    ap choice_tree (fold_out-Alternative Tree Selection Choice tree_step selection_step choice_step a)

turn : {A : Type 0} → (⊥ ⊎ A) ↔ (A ⊎ ⊥)
turn {A} = (forth, back)
  where
    forth : ⊥ ⊎ A → A ⊎ ⊥
    forth (inl e) = absurd e
    forth (inr a) = inl a

    back : A ⊎ ⊥ → ⊥ ⊎ A
    back (inl a) = inr a
    back (inr e) = absurd e

group : {A B C : Type 0} → ((A ⊎ B) ⊎ C) ↔ (A ⊎ (B ⊎ C))
group {A} {B} {C} = (forth, back)
  where
    forth : (A ⊎ B) ⊎ C → A ⊎ (B ⊎ C)
    forth (inl (inl a)) = inl a
    forth (inl (inr b)) = inr (inl b)
    forth (inr c) = inr (inr c)

    back : A ⊎ (B ⊎ C) → (A ⊎ B) ⊎ C
    back (inl a) = inl (inl a)
    back (inr (inl b)) = inl (inr b)
    back (inr (inr c)) = inr c

drop-none : {A : Type 0} → (⊥ ⊎ A) ↔ A
drop-none {A} = (forth, inr)
  where
    forth : ⊥ ⊎ A → A
    forth (inl e) = absurd e
    forth (inr a) = a

module _ (s : Schema) (self : Set) (f : Finding) (vs : List QueryVariable) where
  pub all-last : (xs : List Expr) (x : Expr)
      → (WithinAll s self f vs (trees_of xs) ⊎ Within s self f false vs (tree_of x))
      ↔ WithinAll s self f vs (trees_of (xs ++ x ∷ []))
  all-last [] x = turn
  all-last (y ∷ xs) x = chain group (either same (all-last xs x))

  others-here : (c : Choice)
      → (⊥ ⊎ Within s self f false vs (choice_tree c)) ↔ WithinOthers s self f vs (choices_of (c ∷ []))
  others-here (choice j x) = turn

  others-before : (xs : List Alternative) (a : Alternative)
      → (WithinOthers s self f vs (alternatives_of xs) ⊎ Within s self f false vs (choice_tree (choice_of a)))
      ↔ WithinOthers s self f vs (alternatives_of (xs ++ a ∷ []))
  others-before [] a = others-here (choice_of a)
  others-before (b ∷ xs) a = more (choice_of b) (others-before xs a)
    where
      more : (c : Choice)
          → (WithinOthers s self f vs (alternatives_of xs) ⊎ Within s self f false vs (choice_tree (choice_of a)))
          ↔ WithinOthers s self f vs (alternatives_of (xs ++ a ∷ []))
          → (WithinOthers s self f vs (choices_of (c ∷ map choice_of xs))
          ⊎ Within s self f false vs (choice_tree (choice_of a)))
          ↔ WithinOthers s self f vs (choices_of (c ∷ map choice_of (xs ++ a ∷ [])))
      more (choice i y) h = chain group (either same h)

  pub others-last : (xs : List Alternative) (a : Alternative)
      → (WithinOthers s self f vs (alternatives_of xs) ⊎ Within s self f false vs (tree_of a.term))
      ↔ WithinOthers s self f vs (alternatives_of (xs ++ a ∷ []))
  others-last xs a =
      subst (λ x. (WithinOthers s self f vs (alternatives_of xs) ⊎ Within s self f false vs x)
      ↔ WithinOthers s self f vs (alternatives_of (xs ++ a ∷ []))) (term-is a) (others-before xs a)

  pub indices-last : (qs : List Qualifier) (q : Qualifier)
      → (WithinIndices s self f vs (qualifiers_of qs) ⊎ WithinIndices s self f vs (qualifiers_of (q ∷ [])))
      ↔ WithinIndices s self f vs (qualifiers_of (qs ++ q ∷ []))
  indices-last [] q = drop-none
  indices-last (p ∷ qs) q = more (selection_of p) (indices-last qs q)
    where
      more : (c : Selection)
          → (WithinIndices s self f vs (qualifiers_of qs) ⊎ WithinIndices s self f vs (qualifiers_of (q ∷ [])))
          ↔ WithinIndices s self f vs (qualifiers_of (qs ++ q ∷ []))
          → (WithinIndices s self f vs (selections_of (c ∷ map selection_of qs))
          ⊎ WithinIndices s self f vs (qualifiers_of (q ∷ [])))
          ↔ WithinIndices s self f vs (selections_of (c ∷ map selection_of (qs ++ q ∷ [])))
      more (of_attribute a) h = h
      more (of_group e a) h = h
      more (of_element x) h = chain group (either same h)
