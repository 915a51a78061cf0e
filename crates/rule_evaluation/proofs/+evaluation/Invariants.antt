use Rattle.std.proofs.Common.{◌≡◌, ◌≤◌, ◌+◌, ◌*◌, ℕ, max, drop}
use Rattle.express_syntax.specs.declared.expression.Expr.{size-Expr}
use Rattle.express_syntax.specs.ExpressionViews.{capitals, tree_of, trees_of, alternatives_of, qualifiers_of}
use Rattle.express_logic.specs.Logic.{either}
use Rattle.express_logic.specs.Views.{datum_of}
use Rattle.rule_evaluation.specs.declared.context.Context.{Context}
use Rattle.rule_values.specs.Parts.{holding, whole_elements}
use Rattle.rule_evaluation.specs.steps.Weights.{weight}
use Rattle.rule_evaluation.specs.steps.Contexts.{MeantBy, selected_in, and_all_in, or_all_in, among_each_in, condition_in}
use Rattle.rule_values.proofs.Kept.{Keeps, Counts}
use Rattle.rule_evaluation.proofs.+evaluation.Given as goal

-- what is left to do below the limit
abbrev left : Context → ℕ
left c = weight c.setting.now.formulas.now.rows.items c.limit

abbrev pub decreases-evaluation::evaluate : goal.decreases-evaluation::evaluate
decreases-evaluation::evaluate l = 16 * (goal.size-evaluation::evaluate l + left l.context.now) + 1

abbrev pub decreases-evaluation::condition : goal.decreases-evaluation::condition
decreases-evaluation::condition l = 16 * (goal.size-evaluation::condition l + left l.context.now)

abbrev pub decreases-evaluation::evaluate_truth : goal.decreases-evaluation::evaluate_truth
decreases-evaluation::evaluate_truth l = 16 * (goal.size-evaluation::evaluate_truth l + left l.context.now) + 2

abbrev pub decreases-evaluation::call : goal.decreases-evaluation::call
decreases-evaluation::call l = 16 * (goal.size-evaluation::call l + left l.context.now) + 3

abbrev pub decreases-evaluation::first_known : goal.decreases-evaluation::first_known
decreases-evaluation::first_known l = 16 * (max (size-Expr l.first.now) (size-Expr l.second.now) + left l.context.now) + 3

abbrev pub decreases-evaluation::first_value : goal.decreases-evaluation::first_value
decreases-evaluation::first_value l = 16 * (max (size-Expr l.first.now) (size-Expr l.second.now) + left l.context.now) + 4

abbrev pub decreases-evaluation::between : goal.decreases-evaluation::between
decreases-evaluation::between l = 16 * (max (size-Expr l.low.now) (max (size-Expr l.item.now) (size-Expr l.high.now)) + left l.context.now) + 5

abbrev pub decreases-evaluation::related : goal.decreases-evaluation::related
decreases-evaluation::related l = 16 * (max (size-Expr l.left.now) (size-Expr l.right.now) + left l.context.now) + 6

abbrev pub decreases-evaluation::is_member : goal.decreases-evaluation::is_member
decreases-evaluation::is_member l = 16 * (goal.size-evaluation::is_member l + left l.context.now) + 3

abbrev pub decreases-evaluation::within : goal.decreases-evaluation::within
decreases-evaluation::within l = 16 * (goal.size-evaluation::within l + left l.context.now) + 5

abbrev pub decreases-lists::among_each : goal.decreases-lists::among_each
decreases-lists::among_each l = 16 * (goal.size-lists::among_each l + left l.context.now) + 4

abbrev pub decreases-lists::and_all : goal.decreases-lists::and_all
decreases-lists::and_all l = 16 * (goal.size-lists::and_all l + left l.context.now) + 4

abbrev pub decreases-lists::or_all : goal.decreases-lists::or_all
decreases-lists::or_all l = 16 * (goal.size-lists::or_all l + left l.context.now) + 4

abbrev pub decreases-lists::want_each : goal.decreases-lists::want_each
decreases-lists::want_each l = 16 * (goal.size-lists::want_each l + left l.context.now) + 3

abbrev pub decreases-lists::want_terms : goal.decreases-lists::want_terms
decreases-lists::want_terms l = 16 * (goal.size-lists::want_terms l + left l.context.now) + 3

abbrev pub decreases-queries::query : goal.decreases-queries::query
decreases-queries::query l = 16 * (max (size-Expr l.source.now) (size-Expr l.condition.now) + left l.context.now) + 6

abbrev pub decreases-evaluation::sized : goal.decreases-evaluation::sized
decreases-evaluation::sized l = 16 * (goal.size-evaluation::sized l + left l.context.now) + 2

abbrev pub decreases-queries::sized_query : goal.decreases-queries::sized_query
decreases-queries::sized_query l = 16 * (max (size-Expr l.source.now) (size-Expr l.condition.now) + left l.context.now) + 6

abbrev pub decreases-queries::count_passing : goal.decreases-queries::count_passing
decreases-queries::count_passing l = 16 * (goal.size-queries::count_passing l + left l.context.now) + 5

abbrev pub decreases-queries::passing : goal.decreases-queries::passing
decreases-queries::passing l = 16 * (goal.size-queries::passing l + left l.context.now) + 5

abbrev pub decreases-queries::passes : goal.decreases-queries::passes
decreases-queries::passes l = 16 * (goal.size-queries::passes l + left l.context.now) + 3

abbrev pub decreases-queries::want_others : goal.decreases-queries::want_others
decreases-queries::want_others l = 16 * (goal.size-queries::want_others l + left l.context.now) + 4

-- what is left to do inside it
abbrev pub decreases-references::inside : goal.decreases-references::inside
decreases-references::inside l =
    16 * (size-Expr l.formula.expression.now + weight l.context.now.setting.now.formulas.now.rows.items l.formula.rank) + 2

abbrev pub decreases-references::derived : goal.decreases-references::derived
decreases-references::derived l = 16 * left l.context.now

abbrev pub decreases-references::found_value : goal.decreases-references::found_value
decreases-references::found_value l = 16 * left l.context.now + 1

abbrev pub decreases-references::element : goal.decreases-references::element
decreases-references::element l = 16 * (goal.size-references::element l + left l.context.now) + 3

abbrev pub decreases-references::select : goal.decreases-references::select
decreases-references::select l = 16 * (goal.size-references::select l + left l.context.now) + 4

abbrev pub decreases-references::selected : goal.decreases-references::selected
decreases-references::selected l = 16 * (goal.size-references::selected l + left l.context.now) + 7

abbrev pub decreases-references::item_behind : goal.decreases-references::item_behind
decreases-references::item_behind l = 16 * (goal.size-references::item_behind l + left l.context.now) + 8

abbrev pub decreases-references::unbound : goal.decreases-references::unbound
decreases-references::unbound l = 16 * (goal.size-references::unbound l + left l.context.now) + 9

abbrev pub decreases-references::named : goal.decreases-references::named
decreases-references::named l = 16 * (goal.size-references::named l + left l.context.now) + 10

abbrev pub decreases-references::referred : goal.decreases-references::referred
decreases-references::referred l = 16 * (goal.size-references::referred l + left l.context.now) + 11

abbrev pub invariant-lists::and_all-loop-expression : goal.invariant-lists::and_all-loop-expression
invariant-lists::and_all-loop-expression l =
    let vs = l.initial.scope.variables.items in record {
      value : (m : MeantBy l.context) → and_all_in l.context m vs l.value (trees_of (drop l.expression-index l.expressions))
          ≡ and_all_in l.context m vs l.fn.first (trees_of l.expressions);
      variables : l.scope.variables.items ≡ vs;
    }

abbrev pub invariant-lists::or_all-loop-alternative : goal.invariant-lists::or_all-loop-alternative
invariant-lists::or_all-loop-alternative l =
    let vs = l.initial.scope.variables.items in record {
      value : (m : MeantBy l.context)
          → or_all_in l.context m vs l.value (alternatives_of (drop l.alternative-index l.alternatives))
          ≡ or_all_in l.context m vs l.fn.first (alternatives_of l.alternatives);
      variables : l.scope.variables.items ≡ vs;
    }

abbrev pub invariant-lists::among_each-loop-expression : goal.invariant-lists::among_each-loop-expression
invariant-lists::among_each-loop-expression l =
    let vs = l.initial.scope.variables.items in
    let d = datum_of holding l.value in record {
      value : (m : MeantBy l.context)
          → either l.result (among_each_in l.context m vs d (trees_of (drop l.expression-index l.expressions)))
          ≡ among_each_in l.context m vs d (trees_of l.expressions);
      variables : l.scope.variables.items ≡ vs;
    }

abbrev pub invariant-references::selected-loop-qualifier : goal.invariant-references::selected-loop-qualifier
invariant-references::selected-loop-qualifier l =
    let vs = l.initial.scope.variables.items in record {
      value : (m : MeantBy l.context)
          → selected_in l.context m vs (qualifiers_of (drop l.qualifier-index l.qualifiers)) (datum_of holding l.value)
          ≡ selected_in l.context m vs (qualifiers_of l.qualifiers) (datum_of holding l.initial.value);
      variables : l.scope.variables.items ≡ vs;
    }

abbrev pub invariant-queries::passing-loop-i : goal.invariant-queries::passing-loop-i
invariant-queries::passing-loop-i l =
    let vs = l.initial.scope.variables.items in record {
      kept : (m : MeantBy l.context)
          → Keeps (condition_in l.context m vs (capitals l.name) (tree_of l.condition)) (whole_elements l.source)
          (holding l.source).elements l.kept.items l.i;
      variables : l.scope.variables.items ≡ vs;
    }

abbrev pub invariant-queries::count_passing-loop-i : goal.invariant-queries::count_passing-loop-i
invariant-queries::count_passing-loop-i l =
    let vs = l.initial.scope.variables.items in record {
      counted : (m : MeantBy l.context)
          → Counts (condition_in l.context m vs (capitals l.name) (tree_of l.condition)) (holding l.source).elements l.count l.i;
      within : l.count ≤ l.i;
      variables : l.scope.variables.items ≡ vs;
    }
