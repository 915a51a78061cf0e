-- Laws about the definitions of expressions and rules, in the words of the standard (ISO 10303-11, 9.2.2.2 and 12.6).
use Rattle.std.specs.Prelude.{◌≡◌, ◌≢◌, ◌↔◌, ℕ, ℤ, pos, ◌+ℤ◌, ◌<ℤ◌, ◌^◌, true, List, [], ◌∷◌, filter, Option, Some, ◌⊎◌}
use Rattle.step_values.specs.Leaves.{unset, derived}
use Rattle.step_values.specs.Values.{Value, leaf, reference, typed, sequence, bag, Values, none, more}
use Rattle.express_syntax.specs.Trees.{Tree, query}
use Rattle.express_syntax.specs.Schemas.{Schema, DataType, named}
use Rattle.schema_semantics.specs.Names.{Name, Among}
use Rattle.conformance.specs.Bases.{Base, Domain, base}
use Rattle.conformance.specs.ParameterFits.{element}
use Rattle.conformance.specs.Entities.{Entities, data_types}
use Rattle.conformance.specs.Populations.{Slot, Instance}
use Rattle.express_logic.specs.Literals.{whole_units}
use Rattle.express_logic.specs.Data as data_of
use Rattle.express_logic.specs.Data.{Shape, array, Datum, indeterminate, number, aggregate, Data}
use Rattle.express_logic.specs.Holdings.{element_at}
use Rattle.conformance.specs.Values.{datum, first_declared}
use Rattle.conformance.specs.Attributes.{Attributes}
use Rattle.conformance.specs.Operations.{bare, says, indexed, is_true, kept_shape}
use Rattle.conformance.specs.Expressions as expressions
use Rattle.conformance.specs.Expressions.{Setting, bound, or_this, means}
use Rattle.conformance.specs.DomainRules.{of_type}
use Rattle.conformance.specs.DomainFindings.{element_in, is_of, selves}

-- At an index of 64 bits that is k above the first index, an ARRAY has the element that is k places after the first
-- one, if it has that many elements. Below the first index, and at a number that isn't whole, it has no element.
abbrev pub ElementsOfArraysStandAtTheirIndices : Type 0
ElementsOfArraysStandAtTheirIndices = (first : ℤ) (last : Option ℤ) (ds : Data)
    → ((k : ℕ) → (first +ℤ pos k) <ℤ pos (2 ^ 63)
    → indexed (aggregate (array (Some first) last) ds) (number (whole_units (first +ℤ pos k)))
    ≡ or_this (element_at k ds) indeterminate)
    × ((n : ℤ) → n <ℤ first
    → indexed (aggregate (array (Some first) last) ds) (number (whole_units n)) ≡ indeterminate)
    × ((z : ℤ) → ((n : ℤ) → z ≢ whole_units n)
    → indexed (aggregate (array (Some first) last) ds) (number z) ≡ indeterminate)

-- the elements, in order
abbrev pub listed : Data → List Datum
listed data_of.none = []
listed (data_of.more d ds) = d ∷ listed ds

-- The result of a QUERY over an aggregate has those of its elements, in their order, for which the condition is TRUE
-- when the variable is the element.
abbrev pub QueriesKeepWhatTheirConditionIsTrueOf : Type 0
QueriesKeepWhatTheirConditionIsTrueOf = (S : Setting) (variables : List expressions.Variable) (me : Datum) (n : Name)
    (source condition : Tree) (s : Shape) (ds : Data) → bare (means S variables me source) ≡ aggregate s ds
    → (kept : Data) × (means S variables me (query n source condition) ≡ aggregate (kept_shape s) kept)
    × (listed kept ≡ filter (λ d. is_true (says (means S (bound n d variables) me condition))) (listed ds))

-- v is one of the elements
abbrev pub IsElement : Value → Values → Type 0
IsElement v none = ⊥
IsElement v (more w vs) = (v ≡ w) ⊎ IsElement v vs

-- the value is neither unset nor derived, and isn't a typed value
abbrev pub IsPlain : Value → Type 0
IsPlain (leaf unset) = ⊥
IsPlain (leaf derived) = ⊥
IsPlain (leaf a) = Unit {0}
IsPlain (reference y) = Unit {0}
IsPlain (typed n v) = ⊥
IsPlain (sequence vs) = Unit {0}
IsPlain (bag vs) = Unit {0}

module _ (s : Schema) (d : Domain) where
  -- The value w, of the data type j and the underlying type c, occurs in v, which is of k and b: w is v, or it occurs
  -- in an element of v or in the content of the typed value v.
  pub data StandsIn : DataType → Base → Value → DataType → Base → Value → Type 0 where
    itself : {k : DataType} {b : Base} {v : Value} → StandsIn k b v k b v
    in_typed : {n : Name} {v : Value} {j k : DataType} {b c : Base} {w : Value}
        → StandsIn (named n) (base d (named n)) v j c w → StandsIn k b (typed n v) j c w
    in_list : {vs : Values} {v : Value} {j k : DataType} {b c : Base} {w : Value} → IsElement v vs
        → StandsIn (element_in k (base d k)) (element s d b) v j c w → StandsIn k b (sequence vs) j c w
    in_bag : {vs : Values} {v : Value} {j k : DataType} {b c : Base} {w : Value} → IsElement v vs
        → StandsIn (element_in k (base d k)) (element s d b) v j c w → StandsIn k b (bag vs) j c w

  module _ (en : Entities) (attributes : Attributes) where
    -- A value occurs in one of an attribute, by a data type with which the attribute is declared or redeclared. Its
    -- data type is the defined type t or is defined by it, and its datum is self.
    pub record IsOfType (t : Name) (x : Instance) (self : Datum) : Type 0 where
      pub slot : Slot
      pub is_slot : Among slot x.slots
      pub declared : DataType
      pub is_declared : Among declared (data_types s en x.types slot.place)
      pub found : DataType
      pub its_base : Base
      pub value : Value
      pub stands : StandsIn declared (first_declared s d en slot.place) slot.value found its_base value
      pub plain : IsPlain value
      pub is_of_type : is_of s d en attributes t found ≡ true
      pub worth : self ≡ datum s d its_base value

-- At an instance, the values of SELF for which a rule of a defined type is tried are those of that type, or of a type
-- that is defined by it, that occur in values of its attributes.
abbrev pub RulesOfTypesAreTriedForTheirValues : Type 0
RulesOfTypesAreTriedForTheirValues = (s : Schema) (d : Domain) (en : Entities) (attributes : Attributes) (t : Name)
    (x : Instance) (self : Datum)
    → Among self (selves s d en attributes x (of_type t)) ↔ IsOfType s d en attributes t x self
