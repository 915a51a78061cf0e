-- The value of a part, where it is lent and the variables are as they were.
use Rattle.std.proofs.Common.{◌≡◌, true, false, List, Global, refl, ap, sym, subst, ◌∙◌}
use Rattle.std.specs.Prelude.{Option, Some, None, Box, Vec}
use Rattle.step_literals.specs.declared.literal.items.Item.{Item}
use Rattle.express_syntax.specs.declared.expression.Logical.{Logical}
use Rattle.express_syntax.specs.declared.expression.Relation.{Relation}
use Rattle.express_syntax.specs.declared.expression.Relation.TheVariants as relations
use Rattle.express_syntax.specs.declared.expression.Function.{Function}
use Rattle.express_syntax.specs.declared.expression.Function.TheVariants as functions
use Rattle.express_syntax.specs.declared.expression.Expr.{Expr}
use Rattle.express_syntax.specs.declared.expression.Expr.TheVariants as exprs
use Rattle.express_syntax.specs.declared.expression.Expr.TheOpen.{Expr-F}
use Rattle.express_syntax.specs.declared.expression.Expr.TheOpen as layer
use Rattle.express_syntax.specs.declared.expression.Expr.TheViews.{roll-Expr, out-Expr, roll-out-Expr}
use Rattle.express_syntax.specs.declared.expression.Qualifier.{Qualifier}
use Rattle.express_syntax.specs.declared.expression.Alternative.{Alternative}
use Rattle.express_syntax.specs.Trees.{Tree, call, comparison}
use Rattle.express_syntax.specs.ExpressionViews.{tree_of}
use Rattle.express_logic.specs.Data.{Datum, indeterminate, number, text, bits, element, logical, instance, typed, aggregate, is_known}
use Rattle.express_logic.specs.Comparison.{member}
use Rattle.conformance.specs.Operations.{bare, or_else, compared}
use Rattle.conformance.specs.Expressions.{or_this, string_of, is_of_type}
use Rattle.rule_evaluation.specs.declared.context.Context.{Context}
use Rattle.rule_values.specs.declared.variables.Variable.{Variable}
use Rattle.rule_values.specs.steps.Forms.{is_in, is_typeof}
use Rattle.express_syntax.proofs.Layers.{literal-seen, signed-seen, reference-seen, interval-seen, query-seen, nvl-seen, not-seen, conjunction-seen, disjunction-seen, comparison-seen}
use Rattle.rule_settings.specs.Settings.{or_nothing}
use Rattle.rule_evaluation.specs.steps.Contexts.{MeantBy, setting_in, meaning_in, truth_in, within_in, related_in}

module _ (c : Context) (m : MeantBy c) (vs : List Variable) where
  pub part : (ws : List Variable) (x y : Expr) (d : Datum) → x ≡ y → ws ≡ vs → d ≡ meaning_in c m ws (tree_of x)
      → d ≡ meaning_in c m vs (tree_of y)
  part ws x y d e w h =
      h ∙ ap (λ k. meaning_in c m k (tree_of x)) w ∙ ap (λ z. meaning_in c m vs (tree_of z)) e

  pub part-truth : (ws : List Variable) (x y : Expr) (p : Logical) → x ≡ y → ws ≡ vs
      → p ≡ truth_in c m ws (tree_of x) → p ≡ truth_in c m vs (tree_of y)
  part-truth ws x y p e w h =
      h ∙ ap (λ k. truth_in c m k (tree_of x)) w ∙ ap (λ z. truth_in c m vs (tree_of z)) e

  -- what is meant by a tree is meant by the same tree
  pub of-tree : (d : Datum) (x y : Tree) → x ≡ y → d ≡ meaning_in c m vs y → d ≡ meaning_in c m vs x
  of-tree d x y e h = h ∙ ap (λ k. meaning_in c m vs k) (sym e)

pub or-known : (d e : Datum) → is_known d ≡ true → or_else d e ≡ d
or-known indeterminate e h = absurd (cc)
or-known (number z) e h = refl
or-known (text t) e h = refl
or-known (bits t) e h = refl
or-known (element t) e h = refl
or-known (logical t) e h = refl
or-known (instance t) e h = refl
or-known (typed n t) e h = refl
or-known (aggregate s t) e h = refl

pub or-unknown : (d e : Datum) → is_known d ≡ false → or_else d e ≡ e
or-unknown indeterminate e h = refl
or-unknown (number z) e h = absurd (cc)
or-unknown (text t) e h = absurd (cc)
or-unknown (bits t) e h = absurd (cc)
or-unknown (element t) e h = absurd (cc)
or-unknown (logical t) e h = absurd (cc)
or-unknown (instance t) e h = absurd (cc)
or-unknown (typed n t) e h = absurd (cc)
or-unknown (aggregate s t) e h = absurd (cc)

module _ (c : Context) (m : MeantBy c) where
  module _ (vs : List Variable) where
    pub related-is : (x y : Tree) (r : Relation)
        → logical (related_in c m vs r (string_of x) (meaning_in c m vs x) y) ≡ meaning_in c m vs (comparison x r y)
    related-is x y relations.Equal = refl
    related-is x y relations.NotEqual = refl
    related-is x y relations.Less = refl
    related-is x y relations.Greater = refl
    related-is x y relations.LessOrEqual = refl
    related-is x y relations.GreaterOrEqual = refl
    related-is x y relations.In = refl

    pub related-in : (s : Option (List Item)) (d : Datum) (y : Tree) (r : Relation) → is_in r ≡ true
        → related_in c m vs r s d y ≡ within_in c m vs s d y
    related-in s d y relations.In h = refl
    related-in s d y relations.Equal h = absurd (cc)
    related-in s d y relations.NotEqual h = absurd (cc)
    related-in s d y relations.Less h = absurd (cc)
    related-in s d y relations.Greater h = absurd (cc)
    related-in s d y relations.LessOrEqual h = absurd (cc)
    related-in s d y relations.GreaterOrEqual h = absurd (cc)

    pub related-not : (s : Option (List Item)) (d : Datum) (y : Tree) (r : Relation) → is_in r ≡ false
        → related_in c m vs r s d y ≡ compared r d (meaning_in c m vs y)
    related-not s d y relations.In h = absurd (cc)
    related-not s d y relations.Equal h = refl
    related-not s d y relations.NotEqual h = refl
    related-not s d y relations.Less h = refl
    related-not s d y relations.Greater h = refl
    related-not s d y relations.LessOrEqual h = refl
    related-not s d y relations.GreaterOrEqual h = refl

    pub typeof-is : (s : Option (List Item)) (d : Datum) (x : Tree) (f : Function) → is_typeof f ≡ true
        → within_in c m vs s d (call f x) ≡ is_of_type (setting_in c m) s (meaning_in c m vs x)
    typeof-is s d x functions.Typeof h = refl
    typeof-is s d x functions.Exists h = absurd (cc)
    typeof-is s d x functions.Sizeof h = absurd (cc)
    typeof-is s d x functions.Hiindex h = absurd (cc)
    typeof-is s d x functions.Loindex h = absurd (cc)

    pub typeof-not : (s : Option (List Item)) (d : Datum) (x : Tree) (f : Function) → is_typeof f ≡ false
        → within_in c m vs s d (call f x) ≡ member d (bare (meaning_in c m vs (call f x)))
    typeof-not s d x functions.Typeof h = absurd (cc)
    typeof-not s d x functions.Exists h = refl
    typeof-not s d x functions.Sizeof h = refl
    typeof-not s d x functions.Hiindex h = refl
    typeof-not s d x functions.Loindex h = refl

    -- of trees that are no parentheses, no aggregate and no call
    abbrev Plain : Option (List Item) → Datum → Tree → Type 0
    Plain s d y = within_in c m vs s d y ≡ member d (bare (meaning_in c m vs y))

    seen-plain : (s : Option (List Item)) (d : Datum) (x y : Tree) → x ≡ y → Plain s d y → Plain s d x
    seen-plain s d x y e h = subst (Plain s d) (sym e) h

    other-layer : (s : Option (List Item)) (d : Datum) (e : Expr-F Expr Qualifier Alternative)
        → ((x : Box Expr Global) → roll-Expr e ≡ exprs.Parenthesized x → ⊥)
        → ((xs : Vec Expr Global) → roll-Expr e ≡ exprs.Aggregate xs → ⊥)
        → ((f : Function) (x : Box Expr Global) → roll-Expr e ≡ exprs.Call f x → ⊥) → Plain s d (tree_of (roll-Expr e))
    other-layer s d (layer.Parenthesized x) none not never = absurd (none x (exprs.rolls-Parenthesized x))
    other-layer s d (layer.Aggregate xs) none not never = absurd (not xs (exprs.rolls-Aggregate xs))
    other-layer s d (layer.Call f x) none not never = absurd (never f x (exprs.rolls-Call f x))
    other-layer s d (layer.Literal l) none not never =
        seen-plain s d _ _ (ap tree_of (exprs.rolls-Literal l) ∙ literal-seen l) refl
    other-layer s d (layer.Signed i n) none not never =
        seen-plain s d _ _ (ap tree_of (exprs.rolls-Signed i n) ∙ signed-seen i n) refl
    other-layer s d (layer.Reference r qs) none not never =
        seen-plain s d _ _ (ap tree_of (exprs.rolls-Reference r qs) ∙ reference-seen r qs) refl
    other-layer s d (layer.Interval low above x below high) none not never =
        seen-plain s d _ _ (ap tree_of (exprs.rolls-Interval low above x below high) ∙ interval-seen low above x below high) refl
    other-layer s d (layer.Query n x y) none not never =
        seen-plain s d _ _ (ap tree_of (exprs.rolls-Query n x y) ∙ query-seen n x y) refl
    other-layer s d (layer.Nvl x y) none not never =
        seen-plain s d _ _ (ap tree_of (exprs.rolls-Nvl x y) ∙ nvl-seen x y) refl
    other-layer s d (layer.Not x) none not never =
        seen-plain s d _ _ (ap tree_of (exprs.rolls-Not x) ∙ not-seen x) refl
    other-layer s d (layer.Conjunction x xs) none not never =
        seen-plain s d _ _ (ap tree_of (exprs.rolls-Conjunction x xs) ∙ conjunction-seen x xs) refl
    other-layer s d (layer.Disjunction x xs) none not never =
        seen-plain s d _ _ (ap tree_of (exprs.rolls-Disjunction x xs) ∙ disjunction-seen x xs) refl
    other-layer s d (layer.Comparison x r y) none not never =
        seen-plain s d _ _ (ap tree_of (exprs.rolls-Comparison x r y) ∙ comparison-seen x r y) refl

    -- any other expression
    pub other-is : (s : Option (List Item)) (d : Datum) (e : Expr)
        → ((x : Box Expr Global) → e ≡ exprs.Parenthesized x → ⊥)
        → ((xs : Vec Expr Global) → e ≡ exprs.Aggregate xs → ⊥)
        → ((f : Function) (x : Box Expr Global) → e ≡ exprs.Call f x → ⊥) → Plain s d (tree_of e)
    other-is s d e none not never =
        let is : roll-Expr (out-Expr e) ≡ e = roll-out-Expr e in
        subst (λ f. Plain s d (tree_of f)) is
        (other-layer s d (out-Expr e) (λ x h. none x (sym is ∙ h)) (λ xs h. not xs (sym is ∙ h)) (λ f x h. never f x (sym is ∙ h)))

pub or-is : (o : Option Datum) → or_nothing o ≡ or_this o indeterminate
or-is None = refl
or-is (Some d) = refl
