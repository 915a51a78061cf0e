-- Walks over parts of an expression, one after another.
use Rattle.std.proofs.Math.Seq.{drop-cons}
use Rattle.std.proofs.Common.{◌≡◌, ◌<◌, ◌≤◌, ◌+◌, ℕ, zero, suc, List, [], ◌∷◌, length, get_or, drop, map, refl, ap, sym, ◌∙◌, arith}
use Rattle.express_syntax.specs.declared.expression.Logical.{Logical}
use Rattle.express_syntax.specs.declared.expression.Logical.TheVariants.{False, Unknown, True}
use Rattle.express_syntax.specs.declared.expression.Alternative.{Alternative}
use Rattle.express_syntax.specs.declared.expression.Qualifier.{Qualifier}
use Rattle.express_syntax.specs.declared.expression.Expr.TheFolds.{fold_out-Alternative}
use Rattle.express_syntax.specs.Trees.{Tree}
use Rattle.express_syntax.specs.ExpressionViews.{Choice, Selection, tree_step, selection_step, choice_step, of_attribute, of_group, of_element, choices_of, selections_of, tree_of, choice_of, selection_of, alternatives_of, qualifiers_of}
use Rattle.express_logic.specs.Logic.{either}
use Rattle.express_logic.specs.Data.{Datum}
use Rattle.conformance.specs.Expressions.{of_junction}
use Rattle.rule_evaluation.specs.declared.context.Context.{Context}
use Rattle.rule_values.specs.declared.variables.Variable.{Variable}
use Rattle.rule_evaluation.specs.steps.Contexts.{MeantBy, truth_in, or_all_in, selected_in}

pub either_false : (p : Logical) → either False p ≡ p
either_false False = refl
either_false Unknown = refl
either_false True = refl

pub either_none : (p : Logical) → either p False ≡ p
either_none False = refl
either_none Unknown = refl
either_none True = refl

pub either_groups : (p q r : Logical) → either (either p q) r ≡ either p (either q r)
either_groups True q r = refl
either_groups False q r = ap (λ p. either p r) (either_false q) ∙ sym (either_false (either q r))
either_groups Unknown False False = refl
either_groups Unknown False Unknown = refl
either_groups Unknown False True = refl
either_groups Unknown Unknown False = refl
either_groups Unknown Unknown Unknown = refl
either_groups Unknown Unknown True = refl
either_groups Unknown True r = refl

-- lists, item by item
pub next-dropped : {A : Type 0} (xs : List A) (i : ℕ) (x : A) → i < length xs → x ≡ get_or xs i x
    → drop i xs ≡ x ∷ drop (i + 1) xs
next-dropped xs i x l e =
    let next : suc i ≡ i + 1 = omega arith in
    drop-cons xs i x l ∙ ap (λ y. y ∷ drop (suc i) xs) (sym e) ∙ ap (λ n. x ∷ drop n xs) next

pub none-dropped : {A : Type 0} (i : ℕ) (xs : List A) → length xs ≤ i → drop i xs ≡ []
none-dropped zero [] h = refl
none-dropped (suc i) [] h = refl
none-dropped zero (x ∷ xs) h = absurd (omega (arith, h))
none-dropped (suc i) (x ∷ xs) h = none-dropped i xs (omega (arith, h))

module _ (c : Context) (m : MeantBy c) (vs : List Variable) where
  -- the first of some terms
  pub or-first : (p : Logical) (x : Alternative) (xs : List Alternative)
      → or_all_in c m vs p (alternatives_of (x ∷ xs))
      ≡ or_all_in c m vs (of_junction x.junction p (truth_in c m vs (tree_of x.term))) (alternatives_of xs)
  or-first p x xs =
      ap (λ y. or_all_in c m vs p (choices_of (y ∷ map choice_of xs)))
      (fold_out-Alternative Tree Selection Choice tree_step selection_step choice_step x)

  -- the first of some qualifiers
  selection-first : (x : Selection) (xs : List Selection) (d : Datum)
      → selected_in c m vs (selections_of (x ∷ xs)) d
      ≡ selected_in c m vs (selections_of xs) (selected_in c m vs (selections_of (x ∷ [])) d)
  selection-first (of_attribute a) xs d = refl
  selection-first (of_group e a) xs d = refl
  selection-first (of_element x) xs d = refl

  pub select-first : (x : Qualifier) (xs : List Qualifier) (d : Datum)
      → selected_in c m vs (qualifiers_of (x ∷ xs)) d
      ≡ selected_in c m vs (qualifiers_of xs) (selected_in c m vs (qualifiers_of (x ∷ [])) d)
  select-first x xs d = selection-first (selection_of x) (map selection_of xs) d

  pub selected-plain : (xs : List Qualifier) (d : Datum) → length xs ≡ 0 → d ≡ selected_in c m vs (qualifiers_of xs) d
  selected-plain [] d e = refl
  selected-plain (x ∷ xs) d e = absurd (omega (arith, e))
