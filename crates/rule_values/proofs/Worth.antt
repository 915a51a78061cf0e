-- Values that fit are worth by tables what they are by the schema.
use Rattle.std.proofs.Common.{◌≡◌, ◌∙◌, ℕ, refl, ap, sym, subst, inl, inr}
use Rattle.std.specs.Prelude.{Bool, true, false, cond, not, ◌&&◌, Some, None, ◌⊎◌}
use Rattle.step_values.specs.Leaves as leaves
use Rattle.step_values.specs.Leaves.{Leaf, unset, derived}
use Rattle.step_values.specs.Values as values
use Rattle.step_values.specs.Values.{Value, leaf, reference, Values}
use Rattle.express_syntax.specs.Schemas.{Schema, named}
use Rattle.schema_semantics.specs.Names.{Name}
use Rattle.schema_semantics.specs.Faults.{IsResolved}
use Rattle.schema_names.specs.Numbers.{HasNumber}
use Rattle.conformance.specs.Bases as conformance
use Rattle.conformance.specs.Bases.{Domain, IsDomain, base}
use Rattle.conformance.specs.ParameterFits.{is_array, is_entity, inner, element}
use Rattle.conformance.specs.Fits.{Typing, Fits, FitEach}
use Rattle.schema_underlying_types.specs.declared.base.Aggregate.{Aggregate}
use Rattle.schema_underlying_types.specs.declared.base.Base.{Base}
use Rattle.schema_underlying_types.specs.declared.base.Base.TheVariants as bases
use Rattle.schema_underlying_types.specs.declared.base.Collection.{Collection}
use Rattle.schema_underlying_types.specs.declared.base.Collection.TheVariants as collections
use Rattle.schema_underlying_types.specs.BaseViews.{collection_seen, aggregate_seen, base_seen}
use Rattle.schema_underlying_types.specs.Tables.{IsNumberedBase}
use Rattle.express_logic.specs.Data.{list, array, typed, aggregate, bag, more}
use Rattle.conformance.specs.Values.{leaf_datum, shape_of, datum, each_datum}
use Rattle.rule_values.specs.declared.types.ValueTypes.{ValueTypes}
use Rattle.rule_values.specs.TableValues.{named_base, element_base, coded_leaf, collected, coded_shape, coded_datum, coded_each}
use Rattle.rule_values.specs.Tables.{AreValueTypes}
use Rattle.rule_values.specs.Laws.{FittingValuesAreWorthTheSame}
use Rattle.rule_values.proofs.Items.{item-declared}

-- a value with no parts, whatever it fits
element-worth : (s : Schema) (b : Base) (e : Name) → coded_leaf b (leaves.element e) ≡ leaf_datum (base_seen s b) (leaves.element e)
element-worth s bases.Integer e = refl
element-worth s bases.Number e = refl
element-worth s bases.Boolean e = refl
element-worth s bases.Logical e = refl
element-worth s (bases.String l) e = refl
element-worth s (bases.Binary l) e = refl
element-worth s (bases.Enumeration i) e = refl
element-worth s (bases.Entity i) e = refl
element-worth s (bases.Select i) e = refl
element-worth s (bases.Aggregate a) e = refl

leaf-worth : (s : Schema) (b : Base) (a : Leaf) → coded_leaf b a ≡ leaf_datum (base_seen s b) a
leaf-worth s b leaves.unset = refl
leaf-worth s b leaves.derived = refl
leaf-worth s b (leaves.number z) = refl
leaf-worth s b (leaves.text t) = refl
leaf-worth s b (leaves.bits t) = refl
leaf-worth s b (leaves.element e) = element-worth s b e

collected-as : (s : Schema) (c : Collection) (a : Aggregate) → a.collection ≡ c
    → collected c a ≡ shape_of (base_seen s (bases.Aggregate a))
collected-as s collections.Array a e = sym (ap (λ c. cond (is_array (collection_seen c)) (array a.lower a.upper) list) e)
collected-as s collections.List a e = sym (ap (λ c. cond (is_array (collection_seen c)) (array a.lower a.upper) list) e)
collected-as s collections.Bag a e = sym (ap (λ c. cond (is_array (collection_seen c)) (array a.lower a.upper) list) e)
collected-as s collections.Set a e = sym (ap (λ c. cond (is_array (collection_seen c)) (array a.lower a.upper) list) e)

shape-as : (s : Schema) (b : Base) → coded_shape b ≡ shape_of (base_seen s b)
shape-as s bases.Integer = refl
shape-as s bases.Number = refl
shape-as s bases.Boolean = refl
shape-as s bases.Logical = refl
shape-as s (bases.String l) = refl
shape-as s (bases.Binary l) = refl
shape-as s (bases.Enumeration i) = refl
shape-as s (bases.Entity i) = refl
shape-as s (bases.Select i) = refl
shape-as s (bases.Aggregate a) = collected-as s a.collection a refl

-- the name of an item is declared
item-there : (s : Schema) (d : Domain) → IsResolved s → IsDomain s d → (b : conformance.Base) (n : Name)
    (c : conformance.Base) → inner s d b n ≡ Some c → ((i : ℕ) × HasNumber s n i) × (c ≡ d.of_name n)
item-there s d r is (conformance.select m) n c e = by (d.is_item m n) refl (is_entity s n) e
  where
    by : (p : Bool) → d.is_item m n ≡ p → (q : Bool) → cond (p && not q) (Some (base d (named n))) None ≡ Some c
        → ((i : ℕ) × HasNumber s n i) × (c ≡ d.of_name n)
    by true k false e =
        let same : d.of_name n ≡ c = cc in (item-declared s r m n ((is.items m n).0 k), sym same)
    by true k true e = absurd (cc)
    by false k q e = absurd (cc)
item-there s d r is b n c e = absurd (cc)

module _ (s : Schema) (d : Domain) (r : IsResolved s) (is : IsDomain s d) (t : ValueTypes) (are : AreValueTypes s t)
    (typing : Typing) where
  element-as : (b : Base) → IsNumberedBase s b → (a : conformance.Aggregate) → base_seen s b ≡ conformance.aggregate a
      → base_seen s (element_base t b) ≡ base d a.element
  element-as (bases.Aggregate a) known c e =
      let same : aggregate_seen s a ≡ c = cc in
      are.by_number d is a.element known ∙ ap (λ (x : conformance.Aggregate). base d x.element) same
  element-as b known c e = absurd (cc)

  element-numbered : (b : Base) → IsNumberedBase s b → IsNumberedBase s (element_base t b)
  element-numbered (bases.Aggregate a) known = are.numbered a.element
  element-numbered b known = known

  element-of-seen : (b : conformance.Base) (a : conformance.Aggregate) → b ≡ conformance.aggregate a
      → element s d b ≡ base d a.element
  element-of-seen b a e = ap (element s d) e

  left-out-worth : (b : Base) (v : Value) → v ≡ leaf unset → coded_datum t b v ≡ datum s d (base_seen s b) v
  left-out-worth b v e = ap (coded_datum t b) e ∙ ap (datum s d (base_seen s b)) (sym e)

  mutual
    pub worth : (b : Base) → IsNumberedBase s b → (v : Value) → Fits s d typing (base_seen s b) v
        → coded_datum t b v ≡ datum s d (base_seen s b) v
    worth b known (leaf a) fits = leaf-worth s b a
    worth b known (reference y) fits = refl
    worth b known (values.typed n v) (c, e, fits) =
        let ((i, k), same) = item-there s d r is (base_seen s b) n c e in
        let seen : base_seen s (named_base t n) ≡ d.of_name n = are.by_name d is n i k in
        ap (typed n)
        (worth (named_base t n) (are.named n) v (subst (λ x. Fits s d typing x v) (same ∙ sym seen) fits)
        ∙ ap (λ x. datum s d x v) seen)
    worth b known (values.sequence vs) g =
        let here = element-as b known g.of g.is_of in
        (λ i. aggregate (shape-as s b i)
        (each-worth (element_base t b) (element-numbered b known) g.of.optional vs
        (subst (λ x. FitEach s d typing g.of.optional x vs) (sym here) g.each) i))
        ∙ ap (λ x. aggregate (shape_of (base_seen s b)) (each_datum s d x vs))
        (here ∙ sym (element-of-seen (base_seen s b) g.of g.is_of))
    worth b known (values.bag vs) g =
        let here = element-as b known g.of g.is_of in
        ap (aggregate bag)
        (each-worth (element_base t b) (element-numbered b known) g.of.optional vs
        (subst (λ x. FitEach s d typing g.of.optional x vs) (sym here) g.each)
        ∙ ap (λ x. each_datum s d x vs) (here ∙ sym (element-of-seen (base_seen s b) g.of g.is_of)))

    each-worth : (b : Base) → IsNumberedBase s b → (optional : Bool) (vs : Values)
        → FitEach s d typing optional (base_seen s b) vs → coded_each t b vs ≡ each_datum s d (base_seen s b) vs
    each-worth b known optional values.none fits = refl
    each-worth b known optional (values.more v vs) (inl left, fits) =
        (λ i. more (left-out-worth b v left.1 i) (each-worth b known optional vs fits i))
    each-worth b known optional (values.more v vs) (inr fit, fits) =
        (λ i. more (worth b known v fit i) (each-worth b known optional vs fits i))

  pub all-worth : (b : Base) → IsNumberedBase s b → (v : Value)
      → ((v ≡ leaf unset) ⊎ (v ≡ leaf derived)) ⊎ Fits s d typing (base_seen s b) v
      → coded_datum t b v ≡ datum s d (base_seen s b) v
  all-worth b known v (inl (inl e)) = ap (coded_datum t b) e ∙ ap (datum s d (base_seen s b)) (sym e)
  all-worth b known v (inl (inr e)) = ap (coded_datum t b) e ∙ ap (datum s d (base_seen s b)) (sym e)
  all-worth b known v (inr fits) = worth b known v fits

pub fitting_values_are_worth_the_same : FittingValuesAreWorthTheSame
fitting_values_are_worth_the_same s d r is t are typing b known v h = all-worth s d r is t are typing b known v h
