-- When a value of a population fits a data type, however it is spelled (ISO 10303-11, 8;
-- ISO 10303-21, 11).
use Rattle.std.specs.Prelude.{◌≡◌, ⊤, ℕ, ℤ, ◌==◌, Bool, true, false, List, length, Option, Some, None, ◌⊎◌, bytes_eq}
use Rattle.std.specs.List.{list_any}
use Rattle.step_literals.specs.Decimals.{IsWhole}
use Rattle.step_values.specs.Leaves.{Leaf, unset, text, bits, element}
use Rattle.step_values.specs.Leaves as leaves
use Rattle.step_values.specs.Values.{Value, leaf, reference, typed, sequence, bag, Values, none, more, Agree}
use Rattle.step_values.specs.AgreementTests.{value_count}
use Rattle.express_syntax.specs.Schemas.{Schema}
use Rattle.schema_semantics.specs.Names.{Name}
use Rattle.conformance.specs.Bases.{Aggregate, Base, integer, number, boolean, logical, string, binary, enumeration, entity, select, aggregate, Domain, base}
use Rattle.conformance.specs.ParameterFits.{is_listed, misfit_width, is_truth, in_bounds, has_no_order, is_set, inner}

-- A value without parts fits a data type. The value of an INTEGER is a whole number.
-- `ValueSpellings` requires that its token has no decimal point.
abbrev pub LeafFits : Base → Leaf → Type 0
LeafFits integer (leaves.number z) = (n : ℤ) × IsWhole z n
LeafFits number (leaves.number z) = ⊤
LeafFits boolean (element n) = is_truth false n ≡ true
LeafFits logical (element n) = is_truth true n ≡ true
LeafFits (string w) (text s) = misfit_width w (length s) ≡ None
LeafFits (binary w) (bits b) = misfit_width w (length b) ≡ None
LeafFits (enumeration items) (element n) = is_listed n items ≡ true
LeafFits b a = ⊥

-- If `v` is set, it agrees with none of the values.
abbrev pub DiffersFrom : Value → Values → Type 0
DiffersFrom v none = ⊤
DiffersFrom v (more w ws) = (is_set v ≡ true → Agree (◌==◌) v w → ⊥) × DiffersFrom v ws

-- No two of the values that are set agree. References agree if they name the same instance.
abbrev pub AllDiffer : Values → Type 0
AllDiffer none = ⊤
AllDiffer (more v vs) = DiffersFrom v vs × AllDiffer vs

-- The value is left out, and may be: it is the value of an OPTIONAL attribute or an element of an
-- ARRAY OF OPTIONAL.
abbrev pub IsLeftOut : Bool → Value → Type 0
IsLeftOut optional v = (optional ≡ true) × (v ≡ leaf unset)

-- These elements are a value of an aggregation data type (ISO 10303-11, 8.2). Their number is
-- within the bounds, each fits as `Each` requires, and no two agree if they have to be unique. They
-- have no order exactly if the data type is a BAG or SET.
pub record Gathers (unordered : Bool) (b : Base) (vs : Values) (Each : Aggregate → Type 0) : Type 0 where
  pub of : Aggregate
  pub is_of : b ≡ aggregate of
  pub order : has_no_order of.collection ≡ unordered
  pub bounds : in_bounds of (value_count vs) ≡ true
  pub each : Each of
  pub unique : of.unique ≡ true → AllDiffer vs

-- The types of the instance with a name, if any.
abbrev pub Typing : Type 0
Typing = ℕ → Option (List Name)

-- A reference to an instance that has these types fits the data type: an entity that is one of
-- them, or a SELECT that has one of them as an item.
abbrev pub Takes : Domain → Base → List Name → Type 0
Takes d (entity e) types = list_any (bytes_eq e) types ≡ true
Takes d (select m) types = list_any (d.is_item m) types ≡ true
Takes d b types = ⊥

module _ (s : Schema) (d : Domain) (typing : Typing) where
  abbrev mutual
    -- The value fits the data type.
    pub Fits : Base → Value → Type 0
    Fits b (leaf a) = LeafFits b a
    Fits b (reference y) = (types : List Name) × (typing y ≡ Some types) × Takes d b types
    Fits b (typed word v) = (c : Base) × (inner s d b word ≡ Some c) × Fits c v
    Fits b (sequence vs) = Gathers false b vs (λ a. FitEach a.optional (base d a.element) vs)
    Fits b (bag vs) = Gathers true b vs (λ a. FitEach a.optional (base d a.element) vs)

    -- Each element fits the data type, or is left out where that is allowed.
    pub FitEach : Bool → Base → Values → Type 0
    FitEach optional b none = ⊤
    FitEach optional b (more v vs) = (IsLeftOut optional v ⊎ Fits b v) × FitEach optional b vs
