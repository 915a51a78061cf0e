use Rattle.std.proofs.Common.{◌≡◌, ◌<◌, ◌+◌, ◌*◌, ◌∷◌, [], Global, suc, length, drop, ap, sym, subst, refl, ◌∙◌, Some, arith, rules}
use Rattle.std.proofs.lemmas.Result.{IfOk-weaker, on_ok_weaker}
use Rattle.std.proofs.lemmas.Bool.Decides.{nat_tests}
use Rattle.std.specs.Option.{option_map}
use Rattle.std.specs.Vec.{vec_len}
use Rattle.express_syntax.specs.declared.expression.Expr.{size-Expr}
use Rattle.express_syntax.specs.declared.expression.Logical.TheVariants.{Unknown}
use Rattle.std.specs.Prelude.{if◌then◌else◌, pos, Vec}
use Rattle.rule_values.specs.declared.variables.Variable.{Variable}
use Rattle.express_syntax.specs.Trees.{reference}
use Rattle.express_syntax.specs.ExpressionViews.{capitals, root_of, tree_of, trees_of, alternatives_of, qualifiers_of, selections_of, selection_of}
use Rattle.express_logic.specs.Data.{Datum, logical, aggregate, element, indeterminate, number}
use Rattle.express_logic.specs.Logic.{both, either, negated}
use Rattle.express_logic.specs.Comparison.{equal, member}
use Rattle.express_logic.specs.Views.{datum_of, text_of}
use Rattle.conformance.specs.Expressions.{means, bound, of_junction, of_call, string_of, with_value, first_of_two, attribute_of, instance_attribute, instance_group, variable, is_of_type}
use Rattle.express_logic.specs.Holdings.{size_of}
use Rattle.express_logic.specs.Literals.{whole_units}
use Rattle.conformance.specs.Operations.{bare, says, is_true, or_else, limited, kept_shape, indexed, compared, size}
use Rattle.rule_values.specs.declared.element.Element.TheVariants as elements
use Rattle.rule_values.specs.Parts.{holding, element_datum, whole_elements}
use Rattle.rule_values.specs.steps.Scopes.{variables_of}
use Rattle.rule_evaluation.specs.steps.Weights.{weight}
use Rattle.schema_derived_attributes.specs.Formulas.{formula_seen, formula_place}
use Rattle.rule_settings.specs.Settings.{below_rank, setting_by, derivation_in, or_nothing}
use Rattle.rule_evaluation.specs.steps.Contexts.{setting_in, worth_in, derived_in, instance_of, meaning_in, truth_in, between_in, selected_in, item_in, within_in, related_in, and_all_in, or_all_in, among_each_in, condition_in, passes_in, filtered_in, queried_in}
use Rattle.rule_evaluation.proofs.Arms.{part, part-truth, of-tree, or-known, or-unknown, related-is, related-in, related-not, typeof-is, typeof-not, other-is, or-is}
use Rattle.rule_evaluation.proofs.Items.{item-plain, item-attribute, item-other}
use Rattle.rule_values.proofs.Kept.{Keeps, keeps_none, keeps_next, keeps_all, Counts, counts_none, counts_next, counts_all, counts_within}
use Rattle.express_syntax.proofs.Layers.{reference-seen, aggregate-seen, attribute-selected, group-selected, parenthesized-seen, interval-seen, query-seen, call-seen, nvl-seen, not-seen, conjunction-seen, disjunction-seen, comparison-seen, index-selected}
use Rattle.rule_evaluation.proofs.Sizes.{sizeof-is, queried-bare}
use Rattle.rule_evaluation.proofs.Ranked.{below-none, below-late, below-rank}
use Rattle.rule_values.proofs.Scopes.{variables_pushed, popped}
use Rattle.rule_evaluation.proofs.Walking.{either_false, either_none, either_groups, next-dropped, none-dropped, or-first, select-first, selected-plain}
use Rattle.rule_evaluation.proofs.Weighing.{weighs_more}
use Rattle.rule_evaluation.proofs.+evaluation.Goals as goal

pub lists::among_each-loop-expression-init : goal.lists::among_each-loop-expression-init
lists::among_each-loop-expression-init t c = record { value = λ m. either_false _; variables = refl }

pub lists::among_each-loop-expression-preserved : goal.lists::among_each-loop-expression-preserved
lists::among_each-loop-expression-preserved t c =
    let d = datum_of holding c.args.value.now in
    let xs = c.args.expressions.now in
    let i = c.loop-expression.expression-index in
    let x = c.expression-item.result in
    let r = c.loop-expression.result in
    let lt : i < length xs = omega (arith, c.loop-expression-test.true) in
    let inv = c.loop-expression.invariant in record {
      value = λ m.
          ap (λ p. either p (among_each_in c.args.context.now m c.args.scope.now.variables.items d (trees_of (drop (i + 1) xs))))
          (c.or-result.ensures ∙ ap (either r) (c.equal.ensures ∙ ap (equal d) (c.in-Ok.ensures.0 m
          ∙ ap (λ ws. meaning_in c.args.context.now m ws (tree_of x)) inv.variables)))
          ∙ either_groups r (equal d (meaning_in c.args.context.now m c.args.scope.now.variables.items (tree_of x)))
          (among_each_in c.args.context.now m c.args.scope.now.variables.items d (trees_of (drop (i + 1) xs)))
          ∙ ap (λ ys. either r (among_each_in c.args.context.now m c.args.scope.now.variables.items d (trees_of ys)))
          (sym (next-dropped xs i x lt c.expression-item.is)) ∙ inv.value m;
      variables = c.in-Ok.ensures.1 ∙ inv.variables;
    }

pub lists::among_each-returns : goal.lists::among_each-returns
lists::among_each-returns t c =
    let d = datum_of holding c.args.value.now in
    let xs = c.args.expressions.now in
    let i = c.loop-expression.expression-index in
    let r = c.loop-expression.result in
    let inv = c.loop-expression.invariant in (
      λ m.
          sym (either_none r)
          ∙ ap (λ ys. either r (among_each_in c.args.context.now m c.args.scope.now.variables.items d (trees_of ys)))
          (sym (none-dropped i xs (omega (arith, c.loop-expression-test.false)))) ∙ inv.value m,
      inv.variables,
    )

pub lists::and_all-loop-expression-preserved : goal.lists::and_all-loop-expression-preserved
lists::and_all-loop-expression-preserved t c =
    let xs = c.args.expressions.now in
    let i = c.loop-expression.expression-index in
    let x = c.expression-item.result in
    let p = c.loop-expression.value in
    let lt : i < length xs = omega (arith, c.loop-expression-test.true) in
    let inv = c.loop-expression.invariant in
    let found = c.in-Ok.ensures in record {
      value = λ m.
          ap (λ q. and_all_in c.args.context.now m c.args.scope.now.variables.items q (trees_of (drop (i + 1) xs)))
          (c.and-value.ensures ∙ ap (both p) (found.0 m ∙ ap (λ ws. truth_in c.args.context.now m ws (tree_of x)) inv.variables))
          ∙ ap (λ ys. and_all_in c.args.context.now m c.args.scope.now.variables.items p (trees_of ys)) (sym (next-dropped xs i x lt c.expression-item.is))
          ∙ inv.value m;
      variables = found.1 ∙ inv.variables;
    }

pub lists::and_all-returns : goal.lists::and_all-returns
lists::and_all-returns t c =
    let xs = c.args.expressions.now in
    let i = c.loop-expression.expression-index in
    let p = c.loop-expression.value in
    let inv = c.loop-expression.invariant in (
      λ m. ap (λ ys. and_all_in c.args.context.now m c.args.scope.now.variables.items p (trees_of ys)) (sym (none-dropped i xs (omega (arith, c.loop-expression-test.false))))
          ∙ inv.value m,
      inv.variables,
    )

pub references::derived-returns-in_default : goal.references::derived-returns-in_default
references::derived-returns-in_default t c =
    let S = c.args.context.now.setting.now in (
      λ m. sym (below-none S m.meant c.args.context.now.limit c.args.instance (derivation_in S c.args.derivation)
          (sym (c.formula.ensures.meant m.meant c.requires.number) ∙ ap (option_map formula_seen) c.in_default.is)),
      refl,
    )

pub references::derived-returns-then-formula-context : goal.references::derived-returns-then-formula-context
references::derived-returns-then-formula-context t c =
    let S = c.args.context.now.setting.now in (
      λ m. sym (below-late S m.meant c.args.context.now.limit c.args.instance (derivation_in S c.args.derivation)
          (formula_seen c.in-Some.formula) (sym (c.in-Some.ensures.meant m.meant c.requires.number))
          (omega (arith, c.if-formula-context.true))),
      refl,
    )

pub references::derived-returns-then-is_kept : goal.references::derived-returns-then-is_kept
references::derived-returns-then-is_kept t c =
    let S = c.args.context.now.setting.now in
    let f = c.in-Some.formula in (
      λ m.
          let is = sym (c.in-Some.ensures.meant m.meant c.requires.number) in
          c.in_ok-is_kept.ensures c.if-is_kept.true S m.meant m.kept c.requires.number (formula_seen f) is
          ∙ sym (below-rank S m.meant c.args.context.now.limit c.args.instance (derivation_in S c.args.derivation)
          (formula_seen f) is c.if-formula-context.false),
      refl,
    )

pub references::derived-inside-requires : goal.references::derived-inside-requires
references::derived-inside-requires t c =
    let S = c.args.context.now.setting.now in
    let f = c.in-Some.formula in
    let h : 16 * weight S.formulas.now.rows.items c.args.context.now.limit ≡ t = c.decreases in
    let at = formula_place S.formulas.now.firsts.items (length S.formulas.now.rows.items) c.args.derivation.entity c.args.derivation.number in
    let w = weighs_more S.formulas.now.rows.items at f c.args.context.now.limit (sym c.in-Some.ensures.place) c.if-formula-context.false in
    let r : 16 * (size-Expr f.expression.now + weight S.formulas.now.rows.items f.rank) + 2 < t = omega (arith, h, w) in
    (r, c.requires.setting)

pub references::derived-returns : goal.references::derived-returns
references::derived-returns t c =
    let S = c.args.context.now.setting.now in
    let f = c.in-Some.formula in
    on_ok_weaker c.inside.result
    (λ h. (
      (λ m.
          h.0 m
          ∙ sym (below-rank S m.meant c.args.context.now.limit c.args.instance (derivation_in S c.args.derivation)
          (formula_seen f) (sym (c.in-Some.ensures.meant m.meant c.requires.number)) c.if-formula-context.false)),
      h.1 ∙ ap (λ (vs : Vec Variable Global). vs.items) c.enters.ensures.variables,
    )) c.inside.ensures

pub references::inside-evaluate-outcome-requires : goal.references::inside-evaluate-outcome-requires
references::inside-evaluate-outcome-requires t c =
    let S = c.args.context.now.setting.now in
    let f = c.args.formula in
    let h : 16 * (size-Expr f.expression.now + weight S.formulas.now.rows.items f.rank) + 2 ≡ t = c.decreases in
    let r : 16 * (size-Expr f.expression.now + weight S.formulas.now.rows.items f.rank) + 1 < t = omega (arith, h) in
    (r, c.requires.setting)

pub references::inside-returns : goal.references::inside-returns
unfolding element_datum
references::inside-returns t c =
    let S = c.args.context.now.setting.now in
    let f = c.args.formula in
    on_ok_weaker c.evaluate-outcome.result
    (λ h. (
      (λ m.
          h.0 (record { meant = m.meant; kept = m.kept })
          ∙ ap (λ vs. means (setting_by S m.meant (below_rank S m.meant f.rank)) vs (element_datum (elements.Instance c.args.instance)) (tree_of f.expression.now))
          (ap variables_of (ap (λ (vs : Vec Variable Global). vs.items) c.replace-outer.ensures.after ∙ c.new.ensures.items))),
      ap (λ (vs : Vec Variable Global). vs.items) c.replace-outer.ensures.value,
    )) c.evaluate-outcome.ensures

pub evaluation::evaluate-returns-in-Parenthesized : goal.evaluation::evaluate-returns-in-Parenthesized
evaluation::evaluate-returns-in-Parenthesized t c =
    let x = c.in-Parenthesized in
    on_ok_weaker c.evaluate.result
    (λ h. (
      (λ m.
          of-tree c.args.context.now m c.args.scope.now.variables.items (datum_of holding c.evaluate.new.value) _ _ (ap tree_of x.is ∙ parenthesized-seen x.inner)
          (part c.args.context.now m c.args.scope.now.variables.items c.args.scope.now.variables.items c.deref-in-Parenthesized.result.now x.inner.value (datum_of holding c.evaluate.new.value) c.deref-in-Parenthesized.ensures
          refl (h.0 m))),
      h.1,
    )) c.evaluate.ensures

pub evaluation::evaluate_truth-returns : goal.evaluation::evaluate_truth-returns
evaluation::evaluate_truth-returns t c =
    let found = c.in_ok-evaluate.ensures in ((λ m. c.truth.ensures ∙ ap says (found.0 m)), found.1)

pub references::named-returns-in-Some : goal.references::named-returns-in-Some
references::named-returns-in-Some t c =
    let n = capitals c.args.name in
    let qs = qualifiers_of c.args.qualifiers.now in
    let found = ap (λ ws. variable (variables_of ws) n) (sym c.deref.ensures.value) ∙ sym c.find.ensures ∙ ap (option_map (λ v. element_datum v.now)) c.in-Some.is in
    on_ok_weaker c.selected.result
    (λ h. (
      (λ m. h.0 m ∙ ap (λ d. selected_in c.args.context.now m c.args.scope.now.variables.items qs d) c.datum.ensures
          ∙ sym (ap (λ o. with_value (first_of_two o (attribute_of (setting_in c.args.context.now m) (element_datum c.args.context.now.me) n))
          (item_in c.args.context.now m c.args.scope.now.variables.items n qs) (λ d. selected_in c.args.context.now m c.args.scope.now.variables.items qs d)) found)),
      h.1,
    )) c.selected.ensures

pub lists::or_all-loop-alternative-preserved : goal.lists::or_all-loop-alternative-preserved
lists::or_all-loop-alternative-preserved t c =
    let xs = c.args.alternatives.now in
    let i = c.loop-alternative.alternative-index in
    let x = c.alternative-item.result in
    let p = c.loop-alternative.value in
    let lt : i < length xs = omega (arith, c.loop-alternative-test.true) in
    let inv = c.loop-alternative.invariant in
    let found = c.in-Ok.ensures in record {
      value = λ m.
          ap (λ q. or_all_in c.args.context.now m c.args.scope.now.variables.items q (alternatives_of (drop (i + 1) xs)))
          (c.joined-value.ensures
          ∙ ap (of_junction x.junction p) (found.0 m ∙ ap (λ ws. truth_in c.args.context.now m ws (tree_of x.term)) inv.variables))
          ∙ sym (or-first c.args.context.now m c.args.scope.now.variables.items p x (drop (i + 1) xs))
          ∙ ap (λ ys. or_all_in c.args.context.now m c.args.scope.now.variables.items p (alternatives_of ys)) (sym (next-dropped xs i x lt c.alternative-item.is))
          ∙ inv.value m;
      variables = found.1 ∙ inv.variables;
    }

pub lists::or_all-returns : goal.lists::or_all-returns
lists::or_all-returns t c =
    let xs = c.args.alternatives.now in
    let i = c.loop-alternative.alternative-index in
    let p = c.loop-alternative.value in
    let inv = c.loop-alternative.invariant in (
      λ m. ap (λ ys. or_all_in c.args.context.now m c.args.scope.now.variables.items p (alternatives_of ys)) (sym (none-dropped i xs (omega (arith, c.loop-alternative-test.false))))
          ∙ inv.value m,
      inv.variables,
    )

pub queries::passes-returns-in-Ok : goal.queries::passes-returns-in-Ok
queries::passes-returns-in-Ok t c =
    let x = tree_of c.args.condition.now in
    let pushed = c.in_ok-push.ensures.items in
    let found = c.in-Ok.ensures in
    let ok = c.evaluate_truth.new.scope.variables.ok in
    let len : vec_len c.evaluate_truth.new.scope.variables ≡ length c.evaluate_truth.new.scope.variables.items = cc in (
      λ m. c.is_true.ensures
          ∙ ap is_true (found.0 m ∙ ap (λ vs. says (means (setting_in c.args.context.now m) vs (element_datum c.args.context.now.me) x))
          (ap variables_of pushed ∙ variables_pushed c.args.scope.now.variables.items c.args.variable)),
      popped c.evaluate_truth.new.scope.variables.items (vec_len c.evaluate_truth.new.scope.variables) c.args.scope.now.variables.items c.pop.new.self.items c.args.variable
          (found.1 ∙ pushed) len c.pop.ensures.rest,
    )

pub queries::passing-loop-i-init : goal.queries::passing-loop-i-init
queries::passing-loop-i-init t c = record {
  kept = λ m. keeps_none (condition_in c.args.context.now m c.args.scope.now.variables.items (capitals c.args.name) (tree_of c.args.condition.now))
      (whole_elements c.args.source.now) (holding c.args.source.now).elements _ c.new-kept.ensures.items;
  variables = refl;
}

pub queries::passing-loop-i-preserved : goal.queries::passing-loop-i-preserved
queries::passing-loop-i-preserved t c =
    let es = (holding c.args.source.now).elements in
    let base = whole_elements c.args.source.now in
    let i = c.loop-i.i in
    let next : i + 1 ≡ suc i = omega arith in
    let within = subst (λ n. i < n) c.len-i-end.ensures c.loop-i-test.true in
    let inv = c.loop-i.invariant in
    let found = c.in-Ok.ensures in record {
      kept = λ m.
          let p = condition_in c.args.context.now m c.args.scope.now.variables.items (capitals c.args.name) (tree_of c.args.condition.now) in
          subst (λ n. Keeps p base es c.keep_if.new.kept.items n) (sym next)
          (keeps_next p base es c.loop-i.kept.items c.keep_if.new.kept.items c.whole_index.result i c.in-Ok.holds
          within (found.0 m ∙ ap (λ ws. passes_in c.args.context.now m ws (capitals c.args.name) (tree_of c.args.condition.now) (element_datum c.element_value.result)) inv.variables
          ∙ ap (λ d. is_true (p d)) c.element_value.ensures) c.whole_index.ensures c.in_ok-keep_if-in-Ok.ensures (inv.kept m));
      variables = found.1 ∙ inv.variables;
    }

pub queries::passing-returns : goal.queries::passing-returns
queries::passing-returns t c =
    let es = (holding c.args.source.now).elements in
    let base = whole_elements c.args.source.now in
    let all : c.loop-i.i ≡ c.len-i-end.result = omega (arith, c.loop-i-test.false, c.loop-i.auto.i-end) in
    let inv = c.loop-i.invariant in (
      λ m. keeps_all (condition_in c.args.context.now m c.args.scope.now.variables.items (capitals c.args.name) (tree_of c.args.condition.now)) base es
          c.loop-i.kept.items c.loop-i.i (all ∙ c.len-i-end.ensures) (inv.kept m),
      inv.variables,
    )

pub references::select-returns-in-Attribute : goal.references::select-returns-in-Attribute
references::select-returns-in-Attribute t c =
    let S = c.args.context.now.setting.now in
    let x = c.in-Attribute in
    on_ok_weaker c.found_value.result
    (λ h d inside. (
      (λ m. h.0 m
          ∙ ap (λ i. or_nothing (worth_in c.args.context.now m i (datum_of holding c.attribute_behind-found.new.value) c.attribute_behind-found.result)) c.instance_of-instance.ensures
          ∙ ap or_nothing (c.attribute_behind-found.ensures.worth m
          ∙ ap (λ e. instance_attribute (setting_in c.args.context.now m) e (capitals x.name)) inside) ∙ or-is (attribute_of (setting_in c.args.context.now m) d (capitals x.name))
          ∙ ap (λ s. selected_in c.args.context.now m c.args.scope.now.variables.items (selections_of (s ∷ [])) d) (sym (ap selection_of x.is ∙ attribute-selected x.name))),
      h.1,
    )) c.found_value.ensures

pub references::select-returns-in-Group : goal.references::select-returns-in-Group
references::select-returns-in-Group t c =
    let S = c.args.context.now.setting.now in
    let x = c.in-Group in
    on_ok_weaker c.found_value-in-Group.result
    (λ h d inside. (
      (λ m. h.0 m
          ∙ ap (λ i. or_nothing (worth_in c.args.context.now m i (datum_of holding c.group_behind-found.new.value) c.group_behind-found.result)) c.instance_of-instance.ensures
          ∙ c.group_behind-found.ensures.worth m
          ∙ ap (λ e. instance_group (setting_in c.args.context.now m) e (capitals x.entity) (capitals x.name)) inside
          ∙ ap (λ s. selected_in c.args.context.now m c.args.scope.now.variables.items (selections_of (s ∷ [])) d) (sym (ap selection_of x.is ∙ group-selected x.entity x.name))),
      h.1,
    )) c.found_value-in-Group.ensures

pub references::selected-loop-qualifier-preserved : goal.references::selected-loop-qualifier-preserved
references::selected-loop-qualifier-preserved t c =
    let xs = c.args.qualifiers.now in
    let i = c.loop-qualifier.qualifier-index in
    let x = c.qualifier-item.result in
    let d = datum_of holding c.loop-qualifier.value in
    let lt : i < length xs = omega (arith, c.loop-qualifier-test.true) in
    let inv = c.loop-qualifier.invariant in
    let found = c.in_ok-select.ensures d c.strip_type.ensures in record {
      value = λ m.
          ap (λ e. selected_in c.args.context.now m c.args.scope.now.variables.items (qualifiers_of (drop (i + 1) xs)) e)
          (found.0 m ∙ ap (λ ws. selected_in c.args.context.now m ws (qualifiers_of (x ∷ [])) d) inv.variables)
          ∙ sym (select-first c.args.context.now m c.args.scope.now.variables.items x (drop (i + 1) xs) d)
          ∙ ap (λ ys. selected_in c.args.context.now m c.args.scope.now.variables.items (qualifiers_of ys) d) (sym (next-dropped xs i x lt c.qualifier-item.is))
          ∙ inv.value m;
      variables = found.1 ∙ inv.variables;
    }

pub references::selected-returns : goal.references::selected-returns
references::selected-returns t c =
    let xs = c.args.qualifiers.now in
    let i = c.loop-qualifier.qualifier-index in
    let d = datum_of holding c.loop-qualifier.value in
    let inv = c.loop-qualifier.invariant in (
      λ m. ap (λ ys. selected_in c.args.context.now m c.args.scope.now.variables.items (qualifiers_of ys) d) (sym (none-dropped i xs (omega (arith, c.loop-qualifier-test.false))))
          ∙ inv.value m,
      inv.variables,
    )

pub evaluation::within-returns-in-Parenthesized : goal.evaluation::within-returns-in-Parenthesized
evaluation::within-returns-in-Parenthesized t c =
    let x = c.in-Parenthesized in
    let s = option_map text_of c.args.text in
    let d = datum_of holding c.args.value.now in
    IfOk-weaker c.within.result _ _
    (λ p h. (
      (λ m. h.0 m ∙ ap (λ y. within_in c.args.context.now m c.args.scope.now.variables.items s d (tree_of y)) c.deref.ensures
          ∙ ap (λ y. within_in c.args.context.now m c.args.scope.now.variables.items s d y) (sym (ap tree_of x.is ∙ parenthesized-seen x.inner))),
      h.1,
    )) c.within.ensures

pub evaluation::within-returns-then-is_known : goal.evaluation::within-returns-then-is_known
evaluation::within-returns-then-is_known t c =
    let x = c.in-Aggregate in
    let s = option_map text_of c.args.text in
    let d = datum_of holding c.args.value.now in
    IfOk-weaker c.among_each.result _ _
    (λ p h. (
      (λ m. h.0 m ∙ ap (λ ys. among_each_in c.args.context.now m c.args.scope.now.variables.items d (trees_of ys)) c.deref-then-is_known.ensures.value
          ∙ sym (ap (λ b. if b then among_each_in c.args.context.now m c.args.scope.now.variables.items d (trees_of x.items.items) else Unknown)
          (sym c.is_known.ensures ∙ c.if-is_known.true))
          ∙ ap (λ y. within_in c.args.context.now m c.args.scope.now.variables.items s d y) (sym (ap tree_of x.is ∙ aggregate-seen x.items))),
      h.1,
    )) c.among_each.ensures

pub evaluation::is_member-returns : goal.evaluation::is_member-returns
evaluation::is_member-returns t c =
    let found = c.in_ok-evaluate.ensures in (
      λ m. c.member.ensures
          ∙ ap (member (datum_of holding c.args.value.now)) (c.strip_type.ensures ∙ ap bare (found.0 m)),
      found.1,
    )

pub evaluation::within-returns-then-not-is_typeof : goal.evaluation::within-returns-then-not-is_typeof
evaluation::within-returns-then-not-is_typeof t c =
    let x = c.in-Call in
    let s = option_map text_of c.args.text in
    let d = datum_of holding c.args.value.now in
    let seen = ap tree_of x.is ∙ call-seen x.function x.argument in
    IfOk-weaker c.is_member.result _ _
    (λ p h. (
      (λ m. h.0 m ∙ ap (λ y. member d (bare (meaning_in c.args.context.now m c.args.scope.now.variables.items y))) seen
          ∙ sym (typeof-not c.args.context.now m c.args.scope.now.variables.items s d (tree_of x.argument.value) x.function (sym c.is_typeof.ensures ∙ c.if-not-is_typeof.true))
          ∙ ap (λ y. within_in c.args.context.now m c.args.scope.now.variables.items s d y) (sym seen)),
      h.1,
    )) c.is_member.ensures

pub evaluation::within-returns-in_ok-evaluate-in-Call : goal.evaluation::within-returns-in_ok-evaluate-in-Call
evaluation::within-returns-in_ok-evaluate-in-Call t c =
    let x = c.in-Call in
    let s = option_map text_of c.args.text in
    let d = datum_of holding c.args.value.now in
    let e = datum_of holding c.evaluate.new.value in
    let seen = ap tree_of x.is ∙ call-seen x.function x.argument in
    let found = c.in_ok-evaluate-in-Call.ensures in (
      λ m. c.is_of_type.ensures m
          ∙ ap (is_of_type (setting_in c.args.context.now m) s) (part c.args.context.now m c.args.scope.now.variables.items c.args.scope.now.variables.items c.deref-in-Call.result.now x.argument.value e
          c.deref-in-Call.ensures refl (found.0 m))
          ∙ sym (typeof-is c.args.context.now m c.args.scope.now.variables.items s d (tree_of x.argument.value) x.function
          (sym c.is_typeof.ensures ∙ c.if-not-is_typeof.false))
          ∙ ap (λ y. within_in c.args.context.now m c.args.scope.now.variables.items s d y) (sym seen),
      found.1,
    )

pub evaluation::within-returns-in_default : goal.evaluation::within-returns-in_default
evaluation::within-returns-in_default t c =
    let s = option_map text_of c.args.text in
    let d = datum_of holding c.args.value.now in
    let no = c.in_default in
    IfOk-weaker c.is_member-in_default.result _ _
    (λ p h. (
      (λ m. h.0 m
          ∙ sym (other-is c.args.context.now m c.args.scope.now.variables.items s d c.args.expression.now no.not-Parenthesized no.not-Aggregate no.not-Call)),
      h.1,
    )) c.is_member-in_default.ensures

pub references::item_behind-returns-in_default : goal.references::item_behind-returns-in_default
references::item_behind-returns-in_default t c = (
  λ m. c.item_value.ensures m
      ∙ item-plain c.args.context.now m c.args.scope.now.variables.items (capitals c.args.name) c.args.qualifiers.now c.in_default.ensures.cases,
  refl,
)

pub references::item_behind-returns-then-is_item_of : goal.references::item_behind-returns-then-is_item_of
references::item_behind-returns-then-is_item_of t c =
    let n = capitals c.args.name in
    let a = c.in-Attribute.item in
    let vs = c.args.scope.now.variables.items in
    let qs = c.in-Some.others.now in
    IfOk-weaker c.selected.result _ _
    (λ d h. (
      (λ m.
          h.0 m
          ∙ ap (λ b. if b then selected_in c.args.context.now m vs (qualifiers_of qs) (element (capitals a)) else indeterminate)
          (sym c.if-is_item_of.true ∙ c.is_item_of.ensures m.meant)
          ∙ item-attribute c.args.context.now m vs n a qs
          ∙ sym (ap (λ xs. item_in c.args.context.now m vs n (qualifiers_of xs))
          (c.in-Some.ensures.cases.0 ∙ ap (λ q. q ∷ qs) c.in-Attribute.is))),
      h.1,
    )) c.selected.ensures

pub references::item_behind-returns-in_default-first : goal.references::item_behind-returns-in_default-first
references::item_behind-returns-in_default-first t c = (
  λ m. item-other c.args.context.now m c.args.scope.now.variables.items (capitals c.args.name) c.in-Some.first.now c.in-Some.others.now
      c.in_default-first.not-Attribute
      ∙ sym (ap (λ xs. item_in c.args.context.now m c.args.scope.now.variables.items (capitals c.args.name) (qualifiers_of xs)) c.in-Some.ensures.cases.0),
  refl,
)

pub evaluation::evaluate-returns-in-Query : goal.evaluation::evaluate-returns-in-Query
evaluation::evaluate-returns-in-Query t c =
    let x = c.in-Query in
    let C = c.args.context.now in
    let vs = c.args.scope.now.variables.items in
    let n = capitals x.variable in
    on_ok_weaker c.query.result
    (λ h. (
      (λ m.
          of-tree C m vs (datum_of holding c.query.new.value) _ _ (ap tree_of x.is ∙ query-seen x.variable x.source x.condition)
          (h.0 m
          ∙ ap (λ y. queried_in C m vs n (tree_of c.deref-in-Query-2.result.now) (bare (meaning_in C m vs (tree_of y)))) c.deref-in-Query.ensures
          ∙ ap (λ y. queried_in C m vs n (tree_of y) (bare (meaning_in C m vs (tree_of x.source.value)))) c.deref-in-Query-2.ensures)),
      h.1,
    )) c.query.ensures

pub evaluation::evaluate-returns-in-Call : goal.evaluation::evaluate-returns-in-Call
evaluation::evaluate-returns-in-Call t c =
    let x = c.in-Call in
    let C = c.args.context.now in
    let vs = c.args.scope.now.variables.items in
    on_ok_weaker c.call.result
    (λ h. (
      (λ m. of-tree C m vs (datum_of holding c.call.new.value) _ _ (ap tree_of x.is ∙ call-seen x.function x.argument)
          (h.0 m ∙ ap (λ y. of_call x.function (meaning_in C m vs (tree_of y))) c.deref-in-Call.ensures)),
      h.1,
    )) c.call.ensures

pub evaluation::evaluate-returns-in-Nvl : goal.evaluation::evaluate-returns-in-Nvl
evaluation::evaluate-returns-in-Nvl t c =
    let x = c.in-Nvl in
    let C = c.args.context.now in
    let vs = c.args.scope.now.variables.items in
    on_ok_weaker c.first_known.result
    (λ h. (
      (λ m. of-tree C m vs (datum_of holding c.first_known.new.value) _ _ (ap tree_of x.is ∙ nvl-seen x.first x.second)
          (h.0 m ∙ ap (λ y. or_else (meaning_in C m vs (tree_of y)) (meaning_in C m vs (tree_of c.deref-in-Nvl-2.result.now))) c.deref-in-Nvl.ensures
          ∙ ap (λ y. or_else (meaning_in C m vs (tree_of x.first.value)) (meaning_in C m vs (tree_of y))) c.deref-in-Nvl-2.ensures)),
      h.1,
    )) c.first_known.ensures

pub evaluation::condition-returns-in-Parenthesized : goal.evaluation::condition-returns-in-Parenthesized
evaluation::condition-returns-in-Parenthesized t c =
    let x = c.in-Parenthesized in
    let C = c.args.context.now in
    let vs = c.args.scope.now.variables.items in
    IfOk-weaker c.condition.result _ _
    (λ p h. (
      (λ m. of-tree C m vs (logical p) _ _ (ap tree_of x.is ∙ parenthesized-seen x.inner)
          (h.0 m ∙ ap (λ y. meaning_in C m vs (tree_of y)) c.deref.ensures)),
      h.1,
    )) c.condition.ensures

pub evaluation::condition-returns-in-Interval : goal.evaluation::condition-returns-in-Interval
evaluation::condition-returns-in-Interval t c =
    let x = c.in-Interval in
    let C = c.args.context.now in
    let vs = c.args.scope.now.variables.items in
    let low = tree_of x.low.value in
    let item = tree_of x.item.value in
    IfOk-weaker c.between.result _ _
    (λ p h. (
      (λ m. of-tree C m vs (logical p) _ _ (ap tree_of x.is ∙ interval-seen x.low x.above x.item x.below x.high)
          (ap logical (h.0 m ∙ ap (λ y. between_in C m vs x.above x.below (tree_of y) (tree_of c.deref-in-Interval-2.result.now) (tree_of c.deref-in-Interval-3.result.now)) c.deref-in-Interval.ensures
          ∙ ap (λ y. between_in C m vs x.above x.below low (tree_of y) (tree_of c.deref-in-Interval-3.result.now)) c.deref-in-Interval-2.ensures
          ∙ ap (λ y. between_in C m vs x.above x.below low item (tree_of y)) c.deref-in-Interval-3.ensures))),
      h.1,
    )) c.between.ensures

pub evaluation::condition-returns-in_ok-evaluate_truth-in-Not : goal.evaluation::condition-returns-in_ok-evaluate_truth-in-Not
evaluation::condition-returns-in_ok-evaluate_truth-in-Not t c =
    let x = c.in-Not in
    let C = c.args.context.now in
    let vs = c.args.scope.now.variables.items in
    let found = c.in_ok-evaluate_truth-in-Not.ensures in (
      λ m. of-tree C m vs (logical c.not.result) _ _ (ap tree_of x.is ∙ not-seen x.inner)
          (ap logical (c.not.ensures ∙ ap negated (part-truth C m vs vs c.deref-in-Not.result.now x.inner.value _ c.deref-in-Not.ensures refl (found.0 m)))),
      found.1,
    )

pub evaluation::condition-returns-in-Ok : goal.evaluation::condition-returns-in-Ok
evaluation::condition-returns-in-Ok t c =
    let x = c.in-Conjunction in
    let C = c.args.context.now in
    let vs = c.args.scope.now.variables.items in
    let one = c.in-Ok.ensures in
    let p = c.in-Ok.value in
    IfOk-weaker c.and_all.result _ _
    (λ q h. (
      (λ m.
          let first = part-truth C m vs vs c.deref-in-Conjunction.result.now x.first.value p c.deref-in-Conjunction.ensures refl (one.0 m) in
          of-tree C m vs (logical q) _ _ (ap tree_of x.is ∙ conjunction-seen x.first x.others)
          (ap logical (h.0 m ∙ ap (λ ks. and_all_in C m ks p (trees_of c.deref-in-Ok.result.now)) one.1
          ∙ ap (λ ys. and_all_in C m vs p (trees_of ys)) c.deref-in-Ok.ensures.value
          ∙ ap (λ q. and_all_in C m vs q (trees_of x.others.items)) first))),
      h.1 ∙ one.1,
    )) c.and_all.ensures

pub evaluation::condition-returns-in-Ok-evaluate_truth : goal.evaluation::condition-returns-in-Ok-evaluate_truth
evaluation::condition-returns-in-Ok-evaluate_truth t c =
    let x = c.in-Disjunction in
    let C = c.args.context.now in
    let vs = c.args.scope.now.variables.items in
    let one = c.in-Ok-evaluate_truth.ensures in
    let p = c.in-Ok-evaluate_truth.value in
    IfOk-weaker c.or_all.result _ _
    (λ q h. (
      (λ m.
          let first = part-truth C m vs vs c.deref-in-Disjunction.result.now x.first.value p c.deref-in-Disjunction.ensures refl (one.0 m) in
          of-tree C m vs (logical q) _ _ (ap tree_of x.is ∙ disjunction-seen x.first x.others)
          (ap logical (h.0 m ∙ ap (λ ks. or_all_in C m ks p (alternatives_of c.deref-in-Ok-evaluate_truth.result.now)) one.1
          ∙ ap (λ ys. or_all_in C m vs p (alternatives_of ys)) c.deref-in-Ok-evaluate_truth.ensures.value
          ∙ ap (λ q. or_all_in C m vs q (alternatives_of x.others.items)) first))),
      h.1 ∙ one.1,
    )) c.or_all.ensures

pub evaluation::condition-returns-in-Comparison : goal.evaluation::condition-returns-in-Comparison
evaluation::condition-returns-in-Comparison t c =
    let x = c.in-Comparison in
    let C = c.args.context.now in
    let vs = c.args.scope.now.variables.items in
    let r = x.relation in
    let left = tree_of x.left.value in
    IfOk-weaker c.related.result _ _
    (λ p h. (
      (λ m. of-tree C m vs (logical p) _ _ (ap tree_of x.is ∙ comparison-seen x.left r x.right)
          (ap logical (h.0 m
          ∙ ap (λ y. related_in C m vs r (string_of (tree_of y)) (meaning_in C m vs (tree_of y)) (tree_of c.deref-in-Comparison-2.result.now)) c.deref-in-Comparison.ensures
          ∙ ap (λ y. related_in C m vs r (string_of left) (meaning_in C m vs left) (tree_of y)) c.deref-in-Comparison-2.ensures)
          ∙ related-is C m vs left (tree_of x.right.value) r)),
      h.1,
    )) c.related.ensures

pub evaluation::between-returns : goal.evaluation::between-returns
evaluation::between-returns t c =
    let C = c.args.context.now in
    let vs = c.args.scope.now.variables.items in
    let one = c.in_ok-first_value.ensures in
    let two = c.in_ok-first_value-2.ensures in
    let three = c.in_ok-evaluate.ensures in
    let e = datum_of holding c.first_value-2.new.value in
    let f = datum_of holding c.evaluate.new.value in (
      λ m.
          let at = λ (l : Datum) (i : Datum) (h : Datum). both (limited c.args.above l i) (limited c.args.below i h) in
          let low = meaning_in C m vs (tree_of c.args.low.now) in
          let item = meaning_in C m vs (tree_of c.args.item.now) in
          c.and.ensures ∙ ap (λ p. both p c.limited-2.result) c.limited.ensures
          ∙ ap (both (limited c.args.above (datum_of holding c.first_value.new.value) e)) c.limited-2.ensures
          ∙ ap (λ l. at l e f) (one.0 m) ∙ ap (λ i. at low i f) (two.0 m ∙ ap (λ ws. meaning_in C m ws (tree_of c.args.item.now)) one.1)
          ∙ ap (λ h. at low item h) (three.0 m ∙ ap (λ ws. meaning_in C m ws (tree_of c.args.high.now)) (two.1 ∙ one.1)),
      three.1 ∙ two.1 ∙ one.1,
    )

pub evaluation::call-returns-then-is_sizeof : goal.evaluation::call-returns-then-is_sizeof
evaluation::call-returns-then-is_sizeof t c =
    let C = c.args.context.now in
    let vs = c.args.scope.now.variables.items in
    on_ok_weaker c.sized.result
    (λ h. (
      (λ m. h.0 m ∙ sizeof-is c.args.function (meaning_in C m vs (tree_of c.args.argument.now)) (sym c.is_sizeof.ensures ∙ c.if-is_sizeof.true)),
      h.1,
    )) c.sized.ensures

pub evaluation::sized-returns-in-Query : goal.evaluation::sized-returns-in-Query
evaluation::sized-returns-in-Query t c =
    let x = c.in-Query in
    let C = c.args.context.now in
    let vs = c.args.scope.now.variables.items in
    let n = capitals x.variable in
    on_ok_weaker c.sized_query.result
    (λ h. (
      (λ m. h.0 m
          ∙ ap (λ y. size (queried_in C m vs n (tree_of c.deref-in-Query.result.now) (bare (meaning_in C m vs (tree_of y))))) c.deref.ensures
          ∙ ap (λ y. size (queried_in C m vs n (tree_of y) (bare (meaning_in C m vs (tree_of x.source.value))))) c.deref-in-Query.ensures
          ∙ ap size (queried-bare (λ d. means (setting_in C m) (bound n d (variables_of vs)) (element_datum C.me) (tree_of x.condition.value))
          (bare (meaning_in C m vs (tree_of x.source.value))))
          ∙ ap (λ y. size (bare (meaning_in C m vs y))) (sym (ap tree_of x.is ∙ query-seen x.variable x.source x.condition))),
      h.1,
    )) c.sized_query.ensures

pub evaluation::sized-returns-in_ok-replace_by_size-in_default : goal.evaluation::sized-returns-in_ok-replace_by_size-in_default
evaluation::sized-returns-in_ok-replace_by_size-in_default t c =
    let found = c.in_ok-evaluate-in_default.ensures in
    ((λ m. c.in_ok-replace_by_size-in_default.ensures ∙ ap (λ d. size (bare d)) (found.0 m)), found.1)

pub queries::sized_query-returns : goal.queries::sized_query-returns
queries::sized_query-returns t c =
    let C = c.args.context.now in
    let vs = c.args.scope.now.variables.items in
    let n = capitals c.args.name in
    let x = tree_of c.args.condition.now in
    let part = c.in-Aggregate.part in
    let source = c.in_ok-evaluate.ensures in
    let found = c.in_ok-count.ensures in (
      λ m. c.in_ok-value.ensures
          ∙ ap (λ k. number (whole_units (pos k)))
          (found.0 m ∙ ap (λ ws. size_of (filtered_in C m ws n x (holding part).elements)) source.1)
          ∙ ap (λ d. size (queried_in C m vs n x d)) (ap (datum_of holding) (sym c.in-Aggregate.is) ∙ c.strip_type.ensures ∙ ap bare (source.0 m)),
      found.1 ∙ source.1,
    )

pub queries::sized_query-returns-in_default : goal.queries::sized_query-returns-in_default
queries::sized_query-returns-in_default t c =
    let C = c.args.context.now in
    let vs = c.args.scope.now.variables.items in
    let n = capitals c.args.name in
    let x = tree_of c.args.condition.now in
    let source = c.in_ok-evaluate.ensures in (
      λ m.
          let none : indeterminate ≡ size (queried_in C m vs n x (datum_of holding c.strip_type.new.value)) = search rules in
          none ∙ ap (λ d. size (queried_in C m vs n x d)) (c.strip_type.ensures ∙ ap bare (source.0 m)),
      source.1,
    )

pub queries::count_passing-loop-i-init : goal.queries::count_passing-loop-i-init
queries::count_passing-loop-i-init t c = record {
  counted = λ m. counts_none (condition_in c.args.context.now m c.args.scope.now.variables.items (capitals c.args.name) (tree_of c.args.condition.now))
      (holding c.args.source.now).elements;
  within = omega arith;
  variables = refl;
}

pub queries::count_passing-counted_if-count-requires : goal.queries::count_passing-counted_if-count-requires
queries::count_passing-counted_if-count-requires t c =
    let within = c.loop-i.invariant.within in
    let below = c.loop-i-test.true in
    let end = c.len-i-end.type_inv in
    omega (arith, within, below, end)

pub queries::count_passing-loop-i-preserved : goal.queries::count_passing-loop-i-preserved
queries::count_passing-loop-i-preserved t c =
    let es = (holding c.args.source.now).elements in
    let i = c.loop-i.i in
    let k = c.counted_if-count.result in
    let next : i + 1 ≡ suc i = omega arith in
    let within = subst (λ n. i < n) c.len-i-end.ensures c.loop-i-test.true in
    let inv = c.loop-i.invariant in
    let found = c.in-Ok.ensures in record {
      counted = λ m.
          let p = condition_in c.args.context.now m c.args.scope.now.variables.items (capitals c.args.name) (tree_of c.args.condition.now) in
          subst (λ n. Counts p es k n) (sym next)
          (counts_next p es c.loop-i.count k i c.in-Ok.holds
          within (found.0 m ∙ ap (λ ws. passes_in c.args.context.now m ws (capitals c.args.name) (tree_of c.args.condition.now) (element_datum c.element_value.result)) inv.variables
          ∙ ap (λ d. is_true (p d)) c.element_value.ensures) c.counted_if-count.ensures (inv.counted m));
      within = counts_within c.loop-i.count k i c.in-Ok.holds c.counted_if-count.ensures inv.within;
      variables = found.1 ∙ inv.variables;
    }

pub queries::count_passing-returns : goal.queries::count_passing-returns
queries::count_passing-returns t c =
    let es = (holding c.args.source.now).elements in
    let all : c.loop-i.i ≡ c.len-i-end.result = omega (arith, c.loop-i-test.false, c.loop-i.auto.i-end) in
    let inv = c.loop-i.invariant in (
      λ m. counts_all (condition_in c.args.context.now m c.args.scope.now.variables.items (capitals c.args.name) (tree_of c.args.condition.now)) es
          c.loop-i.count c.loop-i.i (all ∙ c.len-i-end.ensures) (inv.counted m),
      inv.variables,
    )

pub evaluation::call-returns : goal.evaluation::call-returns
evaluation::call-returns t c =
    let found = c.in_ok-evaluate.ensures in
    ((λ m. c.in_ok-apply.ensures ∙ ap (of_call c.args.function) (found.0 m)), found.1)

pub evaluation::first_known-returns-then-is_known : goal.evaluation::first_known-returns-then-is_known
evaluation::first_known-returns-then-is_known t c =
    let C = c.args.context.now in
    let vs = c.args.scope.now.variables.items in
    let found = c.in_ok-evaluate.ensures in
    let d = datum_of holding c.evaluate.new.value in (
      λ m.
          let other = meaning_in C m vs (tree_of c.args.second.now) in
          sym (or-known d other (sym c.is_known.ensures ∙ c.if-is_known.true)) ∙ ap (λ e. or_else e other) (found.0 m),
      found.1,
    )

pub evaluation::first_known-returns : goal.evaluation::first_known-returns
evaluation::first_known-returns t c =
    let C = c.args.context.now in
    let vs = c.args.scope.now.variables.items in
    let found = c.in_ok-evaluate.ensures in
    let d = datum_of holding c.evaluate.new.value in
    let y = tree_of c.args.second.now in
    on_ok_weaker c.evaluate-2.result
    (λ h. (
      (λ m.
          let other = meaning_in C m vs y in
          h.0 m ∙ ap (λ ws. meaning_in C m ws y) found.1
          ∙ sym (or-unknown d other (sym c.is_known.ensures ∙ c.if-is_known.false)) ∙ ap (λ e. or_else e other) (found.0 m)),
      h.1 ∙ found.1,
    )) c.evaluate-2.ensures

pub evaluation::related-returns-then-is_in : goal.evaluation::related-returns-then-is_in
evaluation::related-returns-then-is_in t c =
    let C = c.args.context.now in
    let vs = c.args.scope.now.variables.items in
    let found = c.in_ok-first_value.ensures in
    let s = string_of (tree_of c.args.left.now) in
    let d = datum_of holding c.first_value.new.value in
    let y = tree_of c.args.right.now in
    IfOk-weaker c.within.result _ _
    (λ p h. (
      (λ m. h.0 m ∙ ap (λ ws. within_in C m ws (option_map text_of c.string_of.result) d y) found.1
          ∙ ap (λ o. within_in C m vs o d y) c.string_of.ensures ∙ ap (λ e. within_in C m vs s e y) (found.0 m)
          ∙ sym (related-in C m vs s (meaning_in C m vs (tree_of c.args.left.now)) y c.args.relation (sym c.is_in.ensures ∙ c.if-is_in.true))),
      h.1 ∙ found.1,
    )) c.within.ensures

pub evaluation::related-returns : goal.evaluation::related-returns
evaluation::related-returns t c =
    let C = c.args.context.now in
    let vs = c.args.scope.now.variables.items in
    let found = c.in_ok-first_value.ensures in
    let other = c.in_ok-evaluate.ensures in
    let r = c.args.relation in
    let x = tree_of c.args.left.now in
    let y = tree_of c.args.right.now in (
      λ m. c.compared.ensures ∙ ap (λ e. compared r e (datum_of holding c.evaluate.new.value)) (found.0 m)
          ∙ ap (compared r (meaning_in C m vs x)) (other.0 m ∙ ap (λ ws. meaning_in C m ws y) found.1)
          ∙ sym (related-not C m vs (string_of x) (meaning_in C m vs x) y r (sym c.is_in.ensures ∙ c.if-is_in.false)),
      other.1 ∙ found.1,
    )

pub queries::query-returns : goal.queries::query-returns
queries::query-returns t c =
    let C = c.args.context.now in
    let vs = c.args.scope.now.variables.items in
    let n = capitals c.args.name in
    let x = tree_of c.args.condition.now in
    let part = c.in-Aggregate.part in
    let source = c.in_ok-evaluate.ensures in
    let found = c.in_ok-kept.ensures in (
      λ m.
          ap (λ h. aggregate h.shape h.elements) c.in_ok-keep.ensures
          ∙ ap (λ ds. aggregate (kept_shape (holding part).shape) ds)
          (found.0 m ∙ ap (λ ws. filtered_in C m ws n x (holding part).elements) source.1)
          ∙ ap (λ d. queried_in C m vs n x d) (ap (datum_of holding) (sym c.in-Aggregate.is ∙ c.replace.ensures.value) ∙ c.strip_type.ensures
          ∙ ap bare (source.0 m)),
      found.1 ∙ source.1,
    )

pub queries::query-returns-in_default : goal.queries::query-returns-in_default
queries::query-returns-in_default t c =
    let C = c.args.context.now in
    let vs = c.args.scope.now.variables.items in
    let n = capitals c.args.name in
    let x = tree_of c.args.condition.now in
    let source = c.in_ok-evaluate.ensures in (
      λ m.
          let none : indeterminate ≡ queried_in C m vs n x (datum_of holding c.replace.result) = search rules in
          ap (datum_of holding) c.replace.ensures.after ∙ none
          ∙ ap (λ d. queried_in C m vs n x d) (ap (datum_of holding) c.replace.ensures.value ∙ c.strip_type.ensures ∙ ap bare (source.0 m)),
      source.1,
    )

pub references::element-returns : goal.references::element-returns
references::element-returns t c =
    let found = c.in_ok-evaluate.ensures in (
      λ m. c.indexed.ensures ∙ ap (indexed (datum_of holding c.args.value.now)) (c.strip_type.ensures ∙ ap bare (found.0 m)),
      found.1,
    )

pub references::select-returns-in-Index : goal.references::select-returns-in-Index
references::select-returns-in-Index t c =
    let x = c.in-Index in
    let C = c.args.context.now in
    let vs = c.args.scope.now.variables.items in
    on_ok_weaker c.element.result
    (λ h d inside. (
      (λ m. h.0 m ∙ ap (λ b. indexed b (bare (meaning_in C m vs (tree_of c.deref.result.now)))) inside
          ∙ ap (λ y. indexed (bare d) (bare (meaning_in C m vs (tree_of y)))) c.deref.ensures
          ∙ ap (λ s. selected_in C m vs (selections_of (s ∷ [])) d) (sym (ap selection_of x.is ∙ index-selected x.index))),
      h.1,
    )) c.element.ensures

pub references::unbound-returns-in-Missing : goal.references::unbound-returns-in-Missing
references::unbound-returns-in-Missing t c =
    let C = c.args.context.now in
    let vs = c.args.scope.now.variables.items in
    let n = capitals c.args.name in
    let qs = qualifiers_of c.args.qualifiers.now in
    let i = instance_of (bare (element_datum C.me)) in
    on_ok_weaker c.item_behind.result
    (λ h. (
      (λ m. h.0 m
          ∙ ap (λ o. with_value o (item_in C m vs n qs) (λ d. selected_in C m vs qs d))
          (ap (λ x. worth_in C m i (datum_of holding c.attribute_of_self.new.value) x) (sym c.in-Missing.is) ∙ c.attribute_of_self.ensures.worth m)),
      h.1,
    )) c.item_behind.ensures

pub references::unbound-returns-in-Value : goal.references::unbound-returns-in-Value
references::unbound-returns-in-Value t c =
    let C = c.args.context.now in
    let vs = c.args.scope.now.variables.items in
    let n = capitals c.args.name in
    let qs = qualifiers_of c.args.qualifiers.now in
    let i = instance_of (bare (element_datum C.me)) in
    on_ok_weaker c.selected.result
    (λ h. (
      (λ m. h.0 m
          ∙ ap (λ o. with_value o (item_in C m vs n qs) (λ d. selected_in C m vs qs d))
          (ap (λ x. worth_in C m i (datum_of holding c.attribute_of_self.new.value) x) (sym c.in-Value.is) ∙ c.attribute_of_self.ensures.worth m)),
      h.1,
    )) c.selected.ensures

pub references::unbound-returns-in_ok-derived-in-Derived : goal.references::unbound-returns-in_ok-derived-in-Derived
references::unbound-returns-in_ok-derived-in-Derived t c =
    let C = c.args.context.now in
    let vs = c.args.scope.now.variables.items in
    let n = capitals c.args.name in
    let qs = qualifiers_of c.args.qualifiers.now in
    let i = instance_of (bare (element_datum C.me)) in
    let e = c.in-Derived.derivation in
    on_ok_weaker c.selected-in-Derived.result
    (λ h. (
      (λ m. h.0 m
          ∙ ap (λ ws. selected_in C m ws qs (datum_of holding c.derived.new.value)) c.in_ok-derived-in-Derived.ensures.1
          ∙ ap (λ o. with_value o (item_in C m vs n qs) (λ d. selected_in C m vs qs d))
          (ap Some (c.in_ok-derived-in-Derived.ensures.0 m ∙ ap (λ k. derived_in C m k e) c.self_instance.ensures)
          ∙ ap (λ x. worth_in C m i (datum_of holding c.attribute_of_self.new.value) x) (sym c.in-Derived.is) ∙ c.attribute_of_self.ensures.worth m)),
      h.1 ∙ c.in_ok-derived-in-Derived.ensures.1,
    )) c.selected-in-Derived.ensures

pub references::named-returns-in-None : goal.references::named-returns-in-None
references::named-returns-in-None t c =
    let C = c.args.context.now in
    let vs = c.args.scope.now.variables.items in
    let n = capitals c.args.name in
    let qs = qualifiers_of c.args.qualifiers.now in
    let found = ap (λ ws. variable (variables_of ws) n) (sym c.deref.ensures.value) ∙ sym c.find.ensures ∙ ap (option_map (λ v. element_datum v.now)) c.in-None.is in
    on_ok_weaker c.unbound.result
    (λ h. (
      (λ m. h.0 m
          ∙ sym (ap (λ o. with_value (first_of_two o (attribute_of (setting_in C m) (element_datum C.me) n))
          (item_in C m vs n qs) (λ d. selected_in C m vs qs d)) found)),
      h.1,
    )) c.unbound.ensures

pub evaluation::evaluate_truth-returns-then-is_condition : goal.evaluation::evaluate_truth-returns-then-is_condition
evaluation::evaluate_truth-returns-then-is_condition t c =
    IfOk-weaker c.condition.result _ _ (λ p h. ((λ m. ap says (h.0 m)), h.1)) c.condition.ensures

pub evaluation::evaluate-returns-in-Reference : goal.evaluation::evaluate-returns-in-Reference
evaluation::evaluate-returns-in-Reference t c =
    let x = c.in-Reference in
    on_ok_weaker c.referred.result
    (λ h. (
      (λ m. of-tree c.args.context.now m c.args.scope.now.variables.items (datum_of holding c.referred.new.value) _ _ (ap tree_of x.is ∙ reference-seen x.root x.qualifiers)
          (h.0 m ∙ ap (λ ks. meaning_in c.args.context.now m c.args.scope.now.variables.items (reference (root_of x.root) (qualifiers_of ks))) c.deref.ensures.value)),
      h.1,
    )) c.referred.ensures

pub references::referred-returns-in-Name : goal.references::referred-returns-in-Name
references::referred-returns-in-Name t c =
    let qs = qualifiers_of c.args.qualifiers.now in
    on_ok_weaker c.named.result
    (λ h. (
      (λ m. h.0 m ∙ ap (λ r. meaning_in c.args.context.now m c.args.scope.now.variables.items (reference (root_of r) qs)) (sym c.in-Name.is)),
      h.1,
    )) c.named.ensures

pub references::referred-returns-in-SelfInstance : goal.references::referred-returns-in-SelfInstance
references::referred-returns-in-SelfInstance t c =
    let qs = qualifiers_of c.args.qualifiers.now in
    on_ok_weaker c.selected.result
    (λ h. (
      (λ m. h.0 m ∙ ap (λ d. selected_in c.args.context.now m c.args.scope.now.variables.items qs d) c.datum.ensures
          ∙ ap (λ r. meaning_in c.args.context.now m c.args.scope.now.variables.items (reference (root_of r) qs)) (sym c.in-SelfInstance.is)),
      h.1,
    )) c.selected.ensures
