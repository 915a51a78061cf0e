-- What stands behind a name that is no variable and no attribute.
use Rattle.std.proofs.Common.{◌≡◌, length, List, [], ◌∷◌, refl, ap, sym, subst, ◌∙◌, arith}
use Rattle.std.specs.Prelude.{if◌then◌else◌, map}
use Rattle.step_literals.specs.declared.literal.Word.{Word}
use Rattle.express_syntax.specs.declared.expression.Expr.{Expr}
use Rattle.express_syntax.specs.declared.expression.Expr.TheOpen.{Qualifier-F}
use Rattle.express_syntax.specs.declared.expression.Expr.TheOpen as layer
use Rattle.express_syntax.specs.declared.expression.Expr.TheViews.{roll-Qualifier, out-Qualifier, roll-out-Qualifier}
use Rattle.express_syntax.specs.declared.expression.Qualifier.{Qualifier}
use Rattle.express_syntax.specs.declared.expression.Qualifier.TheVariants as qualifiers
use Rattle.express_syntax.specs.declared.expression.Alternative.{Alternative}
use Rattle.express_syntax.specs.ExpressionViews.{capitals, selection_of, selections_of, qualifiers_of}
use Rattle.express_logic.specs.Data.{element, indeterminate}
use Rattle.conformance.specs.Expressions.{item_value}
use Rattle.schema_semantics.specs.Names.{Name}
use Rattle.rule_evaluation.specs.declared.context.Context.{Context}
use Rattle.rule_values.specs.declared.variables.Variable.{Variable}
use Rattle.rule_evaluation.specs.steps.Contexts.{MeantBy, setting_in, selected_in, item_in}
use Rattle.express_syntax.proofs.Layers.{attribute-selected, group-selected, index-selected}

module _ (c : Context) (m : MeantBy c) (vs : List Variable) (n : Name) where
  pub item-plain : (qs : List Qualifier) → length qs ≡ 0
      → item_value (setting_in c m) n ≡ item_in c m vs n (qualifiers_of qs)
  item-plain [] e = refl
  item-plain (q ∷ qs) e = absurd (omega (arith, e))

  pub item-attribute : (a : Word) (qs : List Qualifier)
      → (if (setting_in c m).is_item_of n (capitals a) then selected_in c m vs (qualifiers_of qs) (element (capitals a)) else indeterminate)
      ≡ item_in c m vs n (qualifiers_of (qualifiers.Attribute a ∷ qs))
  item-attribute a qs =
      sym (ap (λ s. item_in c m vs n (selections_of (s ∷ map selection_of qs))) (attribute-selected a))

  other-layer : (qs : List Qualifier) (q : Qualifier-F Expr Qualifier Alternative)
      → ((a : Word) → roll-Qualifier q ≡ qualifiers.Attribute a → ⊥)
      → indeterminate ≡ item_in c m vs n (qualifiers_of (roll-Qualifier q ∷ qs))
  other-layer qs (layer.Attribute a) never = absurd (never a (qualifiers.rolls-Attribute a))
  other-layer qs (layer.Group e a) never =
      sym (ap (λ s. item_in c m vs n (selections_of (s ∷ map selection_of qs)))
      (ap selection_of (qualifiers.rolls-Group e a) ∙ group-selected e a))
  other-layer qs (layer.Index x) never =
      sym (ap (λ s. item_in c m vs n (selections_of (s ∷ map selection_of qs)))
      (ap selection_of (qualifiers.rolls-Index x) ∙ index-selected x))

  pub item-other : (q : Qualifier) (qs : List Qualifier) → ((a : Word) → q ≡ qualifiers.Attribute a → ⊥)
      → indeterminate ≡ item_in c m vs n (qualifiers_of (q ∷ qs))
  item-other q qs never =
      let is : roll-Qualifier (out-Qualifier q) ≡ q = roll-out-Qualifier q in
      subst (λ r. indeterminate ≡ item_in c m vs n (qualifiers_of (r ∷ qs))) is
      (other-layer qs (out-Qualifier q) (λ a h. never a (sym is ∙ h)))
