-- Which instances break domain rules (ISO 10303-11, 9.1 and 9.2.2.2).
use Rattle.std.specs.Prelude.{ℕ, Bool, true, false, cond, List, [], ◌∷◌, ◌++◌, length, map, filter, flat_map}
use Rattle.step_values.specs.Leaves as leaves
use Rattle.step_values.specs.Values as values
use Rattle.step_values.specs.Values.{Value, leaf, reference, Values}
use Rattle.express_syntax.specs.declared.expression.Logical.{Logical}
use Rattle.express_syntax.specs.declared.expression.Logical.TheVariants.{False, Unknown, True}
use Rattle.express_syntax.specs.Schemas.{Schema, DataType, named}
use Rattle.schema_semantics.specs.Names.{Name}
use Rattle.conformance.specs.Bases as bases
use Rattle.conformance.specs.Bases.{Base, Domain, base}
use Rattle.conformance.specs.ParameterFits.{is_listed, element}
use Rattle.conformance.specs.Entities.{Entities, data_types}
use Rattle.conformance.specs.Populations.{Slot, Instance}
use Rattle.conformance.specs.RuleFindings.{Breach}
use Rattle.express_logic.specs.Logic.{both}
use Rattle.express_logic.specs.Data.{Datum, instance}
use Rattle.conformance.specs.Operations.{says}
use Rattle.conformance.specs.Values.{datum, first_declared}
use Rattle.conformance.specs.Attributes.{Attributes}
use Rattle.conformance.specs.Meanings.{meaning}
use Rattle.conformance.specs.DomainRules.{Holder, of_entity, of_type, holder_name, DomainRule}

-- FALSE if one of the values is FALSE, otherwise UNKNOWN if one is UNKNOWN, otherwise TRUE.
abbrev pub least : List Logical → Logical
least [] = True
least (p ∷ ps) = both p (least ps)

abbrev pub is_false : Logical → Bool
is_false False = true
is_false p = false

abbrev pub is_unknown : Logical → Bool
is_unknown Unknown = true
is_unknown p = false

-- The data type of the elements of an aggregate.
abbrev pub element_in : DataType → Base → DataType
element_in k (bases.aggregate a) = a.element
element_in k b = k

module _ (s : Schema) (d : Domain) (en : Entities) (attributes : Attributes) where
  -- The data type is the defined type `t`, or one that is defined by `t`.
  abbrev pub is_of : Name → DataType → Bool
  is_of t (named n) = attributes.is_defined_by n t
  is_of t k = false

  -- The value itself if its data type is the defined type `t` or is defined by `t`; otherwise
  -- empty.
  abbrev pub itself : Name → DataType → Base → Value → List Datum
  itself t k b v = cond (is_of t k) (datum s d b v ∷ []) []

  -- The values of the defined type `t` in a value of the data type `k`, at any depth: the value
  -- itself, its elements, and the values inside typed parameters. Unset and derived values are
  -- passed over. Each is taken as part of the whole value, which is of the base `b`, whatever the
  -- data type `k` by which it is found.
  abbrev mutual
    pub values_of : Name → DataType → Base → Value → List Datum
    values_of t k b (leaf leaves.unset) = []
    values_of t k b (leaf leaves.derived) = []
    values_of t k b (leaf a) = itself t k b (leaf a)
    values_of t k b (reference y) = itself t k b (reference y)
    values_of t k b (values.typed n v) = values_of t (named n) (base d (named n)) v
    values_of t k b (values.sequence vs) =
        itself t k b (values.sequence vs) ++ each_of t (element_in k (base d k)) (element s d b) vs
    values_of t k b (values.bag vs) =
        itself t k b (values.bag vs) ++ each_of t (element_in k (base d k)) (element s d b) vs

    pub each_of : Name → DataType → Base → Values → List Datum
    each_of t k b values.none = []
    each_of t k b (values.more v vs) = values_of t k b v ++ each_of t k b vs

  -- The values of the defined type `t` in the value of an attribute, by each data type with which
  -- the attribute is declared and redeclared.
  abbrev pub in_slot : Name → List Name → Slot → List Datum
  in_slot t types x =
      flat_map (λ (k : DataType). values_of t k (first_declared s d en x.place) x.value) (data_types s en types x.place)

  -- The values of SELF for which a rule is evaluated at an instance. For a rule of an entity it is
  -- the instance, if it is of that entity. For a rule of a defined type they are the values of that
  -- type in the instance.
  abbrev pub selves : Instance → Holder → List Datum
  selves x (of_entity e) = cond (is_listed e x.types) (instance x.name ∷ []) []
  selves x (of_type t) = flat_map (in_slot t x.types) x.slots

  module _ (is : List Instance) where
    -- The outcome of a rule at an instance: FALSE if the rule is FALSE for one value of SELF,
    -- otherwise UNKNOWN if it is UNKNOWN for one, otherwise TRUE (ISO 10303-11, 9.2.2.2).
    abbrev pub outcome : Instance → DomainRule → Logical
    outcome x r = least (map (λ self. says (meaning s d en attributes is self r.condition)) (selves x r.holder))

    module _ (rules : List DomainRule) where
      abbrev pub breaches_at : Instance → List Breach
      breaches_at x =
          map (λ (r : DomainRule). record { instance = x.name; holder = holder_name r.holder; label = r.label })
          (filter (λ (r : DomainRule). is_false (outcome x r)) rules)

      -- The domain rules that are FALSE at an instance, by instance in the order of the file, then
      -- by rule in the order of the text.
      abbrev pub rule_findings : List Breach
      rule_findings = flat_map breaches_at is

      -- The number of pairs of an instance and a rule whose outcome is UNKNOWN.
      abbrev pub unknown : ℕ
      unknown =
          length (flat_map (λ (x : Instance). filter (λ (r : DomainRule). is_unknown (outcome x r)) rules) is)
