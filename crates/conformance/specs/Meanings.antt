-- The values of the attributes of instances, and the value of an expression in a population
-- (ISO 10303-11, 9.2.1 and 12).
use Rattle.std.specs.Prelude.{ℕ, zero, suc, ◌==◌, ◌&&◌, ◌++◌, Bool, false, map, List, [], ◌∷◌, Option, Some, None, if◌then◌else◌}
use Rattle.std.specs.List.{list_any}
use Rattle.step_literals.specs.declared.literal.items.Item.{Item}
use Rattle.step_literals.specs.declared.literal.items.Item.TheVariants.{Code}
use Rattle.express_syntax.specs.Trees.{Tree}
use Rattle.express_syntax.specs.Schemas.{Schema, TypeDeclaration}
use Rattle.schema_semantics.specs.Names.{Name, types}
use Rattle.schema_semantics.specs.Attributes.{Derivation}
use Rattle.schema_semantics.specs.Faults.{enumerated_items}
use Rattle.conformance.specs.Bases as bases
use Rattle.conformance.specs.Bases.{Base, Domain}
use Rattle.conformance.specs.ParameterFits.{is_listed}
use Rattle.conformance.specs.Entities.{Entities}
use Rattle.conformance.specs.Populations.{Instance, instance_at, slot_at}
use Rattle.conformance.specs.Rules.{Gathering, alone, in_set, in_bag}
use Rattle.conformance.specs.Referrers.{inverse_value}
use Rattle.express_logic.specs.Data as data_of
use Rattle.express_logic.specs.Data.{Datum, indeterminate, Data}
use Rattle.express_logic.specs.Comparison.{same_text}
use Rattle.conformance.specs.Values.{datum_at, first_declared}
use Rattle.conformance.specs.Operations.{only}
use Rattle.conformance.specs.Expressions.{Setting, means}
use Rattle.conformance.specs.Attributes.{Source, explicit, derived, inverse, unclear, Formula, Attributes}

abbrev pub instance_data : List ℕ → Data
instance_data [] = data_of.none
instance_data (y ∷ ys) = data_of.more (data_of.instance y) (instance_data ys)

-- The value of an inverse attribute that holds these instances: a SET or BAG of them, otherwise the
-- only one, or indeterminate if there isn't exactly one (ISO 10303-11, 9.2.1.3).
abbrev pub referring : Gathering → List ℕ → Datum
referring alone ys = only (instance_data ys)
referring (in_set lower upper) ys = data_of.aggregate data_of.bag (instance_data ys)
referring (in_bag lower upper) ys = data_of.aggregate data_of.bag (instance_data ys)

abbrev pub type_names : Schema → List Name
type_names s = map (λ (t : TypeDeclaration). t.name) (types s)

-- The string is SCHEMA.NAME, as TYPEOF gives it (ISO 10303-11, 15.25).
abbrev pub says_type : Schema → List Item → Name → Bool
says_type s text n = same_text text (map (λ (c : ℕ). Code c) (s.name ++ 46 ∷ n))

-- The items of an enumeration; empty for other data types (ISO 10303-11, 8.4.1).
abbrev pub items_in : Base → List Name
items_in (bases.enumeration items) = items
items_in b = []

abbrev pub found : {A : Type 0} → Option Source → (Source → A) → Option A
found None f = None
found (Some x) f = Some (f x)

-- The instance exists, and the string names one of its types.
abbrev pub type_in : Schema → Option Instance → List Item → Bool
type_in s None text = false
type_in s (Some x) text = list_any (says_type s text) x.types

-- The value of the formula, if it has the rank `n`, otherwise `other`.
abbrev pub by_rank : ℕ → Option Formula → (Tree → Datum) → Datum → Datum
by_rank n None gives other = other
by_rank n (Some f) gives other = if f.rank == n then gives f.expression else other

-- One more than the rank of the formula; 0 if there is none.
abbrev pub above : Option Formula → ℕ
above None = 0
above (Some f) = suc f.rank

module _ (s : Schema) (d : Domain) (en : Entities) (attributes : Attributes) (is : List Instance) where
  -- The value of an attribute from its source. `computed` gives the values of derived attributes.
  abbrev pub value_from : (ℕ → Derivation → Datum) → Instance → Source → Datum
  value_from computed x (explicit p) = datum_at s d (first_declared s d en p) (slot_at x.slots p)
  value_from computed x (derived e) = computed x.name e
  value_from computed x (inverse i) = referring i.gathering (inverse_value is i x.name)
  value_from computed x unclear = indeterminate

  abbrev pub attribute_in : (ℕ → Derivation → Datum) → Option Instance → Name → Option Datum
  attribute_in computed None a = None
  attribute_in computed (Some x) a = found (attributes.source x.types a) (value_from computed x)

  abbrev pub group_in : (ℕ → Derivation → Datum) → Option Instance → Name → Name → Datum
  group_in computed None e a = indeterminate
  group_in computed (Some x) e a = value_from computed x (attributes.source_of x.types e a)

  -- What an expression may look up in the population and the schema. `computed` gives the values of
  -- derived attributes.
  abbrev pub setting : (ℕ → Derivation → Datum) → Setting
  setting computed = record {
    attribute = λ y a. attribute_in computed (instance_at is y) a;
    attribute_of = λ y e a. group_in computed (instance_at is y) e a;
    has_type = λ y text. type_in s (instance_at is y) text;
    is_defined_by = λ m text. list_any (λ n. says_type s text n && attributes.is_defined_by m n) (type_names s);
    is_item = λ n. list_any (λ (t : TypeDeclaration). is_listed n (enumerated_items t.underlying)) (types s);
    is_item_of = λ t n. is_listed t (type_names s) && is_listed n (items_in (d.of_name t));
  }

  -- The values of derived attributes with a rank below `n`; all others are indeterminate. So the
  -- expression of a derived attribute sees only derived attributes of lesser rank, and never one
  -- that is set aside.
  abbrev pub below : ℕ → ℕ → Derivation → Datum
  below zero y e = indeterminate
  below (suc n) y e =
      by_rank n (attributes.formula e) (λ x. means (setting (below n)) [] (data_of.instance y) x) (below n y e)

  -- The value of a derived attribute of an instance; indeterminate if the attribute is set aside.
  abbrev pub derived_value : ℕ → Derivation → Datum
  derived_value y e = below (above (attributes.formula e)) y e

  -- The value of an expression, with `me` for SELF.
  abbrev pub meaning : Datum → Tree → Datum
  meaning me x = means (setting derived_value) [] me x
