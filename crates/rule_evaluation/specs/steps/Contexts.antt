-- The meaning of the parts of an expression, given what the expression is evaluated with.
use Rattle.std.specs.Prelude.{◌≡◌, ℕ, Bool, List, Option}
use Rattle.step_literals.specs.declared.literal.items.Item.{Item}
use Rattle.express_syntax.specs.declared.expression.Logical.{Logical}
use Rattle.express_syntax.specs.declared.expression.Relation.{Relation}
use Rattle.express_syntax.specs.declared.expression.Relation.TheVariants as relations
use Rattle.express_syntax.specs.Trees.{Tree, Trees, Alternatives, Qualifiers}
use Rattle.schema_semantics.specs.Names.{Name}
use Rattle.express_syntax.specs.declared.expression.Limit.{Limit}
use Rattle.express_logic.specs.Logic.{both}
use Rattle.express_logic.specs.Data.{Datum, Data, instance}
use Rattle.conformance.specs.Operations.{says, queried, filtered, is_true, compared, limited}
use Rattle.conformance.specs.Expressions as expressions
use Rattle.conformance.specs.Expressions.{means, selected, item_behind, with_value, attribute_of, named_value, and_all, or_all, is_in, among_each, bound}
use Rattle.rule_evaluation.specs.declared.context.Context.{Context}
use Rattle.rule_values.specs.declared.variables.Variable.{Variable}
use Rattle.rule_values.specs.Parts.{element_datum}
use Rattle.rule_values.specs.steps.Scopes.{variables_of}
use Rattle.rule_settings.specs.Settings.{Meant, setting_by, below_rank, worth_of, derivation_in}
use Rattle.schema_attribute_sources.specs.declared.source.Derivation.{Derivation}
use Rattle.schema_derived_attributes.specs.declared.formula.Formula.{Formula}
use Rattle.schema_derived_attributes.specs.Formulas.{formula_seen}
use Rattle.rule_evaluation.specs.steps.Kept.{AreRight}
use Rattle.rule_evaluation.specs.steps.Worths.{formula_worth}
use Rattle.rule_settings.specs.declared.attributes.Found.{Found}

-- The meaning of the schema, and the cached values are those of derived attributes.
pub record MeantBy (c : Context) : Type 0 where
  pub meant : Meant c.setting.now
  pub kept : AreRight c.setting.now meant c.kept.now

abbrev pub setting_in : (c : Context) → MeantBy c → expressions.Setting
setting_in c m = setting_by c.setting.now m.meant (below_rank c.setting.now m.meant c.limit)

-- the value that a look-up gives for an instance: the one that is stored, or that of a derived attribute, if its rank
-- is below the limit
abbrev pub worth_in : (c : Context) → MeantBy c → ℕ → Datum → Found → Option Datum
worth_in c m y d x = worth_of c.setting.now (below_rank c.setting.now m.meant c.limit y) d x

abbrev pub derived_in : (c : Context) → MeantBy c → ℕ → Derivation → Datum
derived_in c m y e = below_rank c.setting.now m.meant c.limit y (derivation_in c.setting.now e)

-- the value of a formula at an instance, with derived attributes of lesser ranks
abbrev pub formula_in : (c : Context) → MeantBy c → ℕ → Formula → Datum
formula_in c m y f = formula_worth c.setting.now m.meant y (formula_seen f)

-- the name of the instance that a datum is; 0 if it isn't an instance
abbrev pub instance_of : Datum → ℕ
instance_of (instance y) = y
instance_of d = 0

abbrev pub meaning_in : (c : Context) → MeantBy c → List Variable → Tree → Datum
meaning_in c m vs x = means (setting_in c m) (variables_of vs) (element_datum c.me) x

abbrev pub truth_in : (c : Context) → MeantBy c → List Variable → Tree → Logical
truth_in c m vs x = says (meaning_in c m vs x)

abbrev pub selected_in : (c : Context) → MeantBy c → List Variable → Qualifiers → Datum → Datum
selected_in c m vs qs d = selected (setting_in c m) (variables_of vs) (element_datum c.me) qs d

abbrev pub named_in : (c : Context) → MeantBy c → List Variable → Name → Qualifiers → Datum
named_in c m vs n qs =
    with_value (named_value (setting_in c m) (variables_of vs) (element_datum c.me) n)
    (item_behind (setting_in c m) (variables_of vs) (element_datum c.me) n qs) (λ d. selected_in c m vs qs d)

-- the value of a name that isn't a variable, with qualifiers
abbrev pub unbound_in : (c : Context) → MeantBy c → List Variable → Name → Qualifiers → Datum
unbound_in c m vs n qs =
    with_value (attribute_of (setting_in c m) (element_datum c.me) n)
    (item_behind (setting_in c m) (variables_of vs) (element_datum c.me) n qs) (λ d. selected_in c m vs qs d)

abbrev pub item_in : (c : Context) → MeantBy c → List Variable → Name → Qualifiers → Datum
item_in c m vs n qs = item_behind (setting_in c m) (variables_of vs) (element_datum c.me) n qs

abbrev pub and_all_in : (c : Context) → MeantBy c → List Variable → Logical → Trees → Logical
and_all_in c m vs p xs = and_all (setting_in c m) (variables_of vs) (element_datum c.me) p xs

abbrev pub or_all_in : (c : Context) → MeantBy c → List Variable → Logical → Alternatives → Logical
or_all_in c m vs p xs = or_all (setting_in c m) (variables_of vs) (element_datum c.me) p xs

-- the result of IN with y on the right, and a string and a value on the left
abbrev pub within_in : (c : Context) → MeantBy c → List Variable → Option (List Item) → Datum → Tree → Logical
within_in c m vs s d y = is_in (setting_in c m) (variables_of vs) (element_datum c.me) s d (meaning_in c m vs y) y

-- the result of a relation with y on the right, and a string and a value on the left
abbrev pub related_in : (c : Context) → MeantBy c → List Variable → Relation → Option (List Item) → Datum → Tree → Logical
related_in c m vs relations.In s d y = within_in c m vs s d y
related_in c m vs r s d y = compared r d (meaning_in c m vs y)

-- whether the value of x is between those of low and high
abbrev pub between_in : (c : Context) → MeantBy c → List Variable → Limit → Limit → Tree → Tree → Tree → Logical
between_in c m vs above below low x high =
    both (limited above (meaning_in c m vs low) (meaning_in c m vs x))
    (limited below (meaning_in c m vs x) (meaning_in c m vs high))

abbrev pub among_each_in : (c : Context) → MeantBy c → List Variable → Datum → Trees → Logical
among_each_in c m vs d ys = among_each (setting_in c m) (variables_of vs) (element_datum c.me) d ys

-- whether the condition of a query is TRUE for a value
abbrev pub passes_in : (c : Context) → MeantBy c → List Variable → Name → Tree → Datum → Bool
passes_in c m vs n condition d =
    is_true (says (means (setting_in c m) (bound n d (variables_of vs)) (element_datum c.me) condition))

-- the truth of the condition of a query for a value
abbrev pub condition_in : (c : Context) → MeantBy c → List Variable → Name → Tree → Datum → Logical
condition_in c m vs n condition d =
    says (means (setting_in c m) (bound n d (variables_of vs)) (element_datum c.me) condition)

abbrev pub filtered_in : (c : Context) → MeantBy c → List Variable → Name → Tree → Data → Data
filtered_in c m vs n condition ds = filtered (condition_in c m vs n condition) ds

abbrev pub queried_in : (c : Context) → MeantBy c → List Variable → Name → Tree → Datum → Datum
queried_in c m vs n condition d =
    queried (λ d. means (setting_in c m) (bound n d (variables_of vs)) (element_datum c.me) condition) d

-- the value x is the one that is meant, and the variables are unchanged
abbrev pub Gives : {A : Type 0} → (c : Context) → List Variable → List Variable → A → (MeantBy c → A) → Type 0
Gives c old new x wanted = ((m : MeantBy c) → x ≡ wanted m) × (new ≡ old)
