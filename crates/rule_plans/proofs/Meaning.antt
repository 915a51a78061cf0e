-- By the tables of a schema the values of a defined type are what they are by the schema.
use Rattle.std.specs.Prelude.{◌≡◌, ℕ, ◌&&◌, not, Bool, true, false, cond, List, [], ◌∷◌, ◌++◌, Option, None, Some, slice_get, ◌⊎◌}
use Rattle.std.specs.Option.{option_map}
use Rattle.std.proofs.Common.{refl, sym, ap, subst, ◌∙◌, inl, inr}
use Rattle.std.proofs.lemmas.Option.{slice_get-map}
use Rattle.step_values.specs.Leaves as leaves
use Rattle.step_values.specs.Leaves.{Leaf, unset, derived}
use Rattle.step_values.specs.Values as values
use Rattle.step_values.specs.Values.{Value, leaf, reference, Values}
use Rattle.express_syntax.specs.Schemas.{Schema, DataType, integer, number, boolean, logical, real, string, binary, named, array, list, bag, set}
use Rattle.schema_semantics.specs.Names.{Name, IsType, IsEntity}
use Rattle.schema_semantics.specs.Faults.{IsResolved}
use Rattle.express_syntax.specs.Schemas.{type, entity}
use Rattle.schema_names.specs.Numbers.{number_of, HasNumber}
use Rattle.schema_names.specs.Schemas.{the_schema}
use Rattle.schema_names.proofs.Numbers.{each-number}
use Rattle.schema_data_types.specs.NumberedTypes.{form_in, all_data_types}
use Rattle.conformance.specs.Bases as conformance
use Rattle.conformance.specs.Bases.{Domain, IsDomain, base}
use Rattle.conformance.specs.Entities.{Entities}
use Rattle.conformance.specs.ParameterFits.{is_entity, inner, element}
use Rattle.conformance.specs.Fits.{Typing, Fits, FitEach}
use Rattle.schema_underlying_types.specs.declared.base.Base.{Base}
use Rattle.schema_underlying_types.specs.declared.base.Base.TheVariants as bases
use Rattle.schema_underlying_types.specs.BaseViews.{type_at, or_integer, base_seen}
use Rattle.schema_underlying_types.specs.Tables.{NamesKnownType, IsNumberedBase}
use Rattle.population_forms.proofs.Naming.{name-at}
use Rattle.express_logic.specs.Data.{Datum}
use Rattle.conformance.specs.Attributes.{Attributes}
use Rattle.conformance.specs.DomainFindings.{element_in, is_of, itself, values_of, each_of}
use Rattle.conformance.specs.Values.{datum}
use Rattle.rule_values.specs.TableValues.{named_base, element_base, coded_datum}
use Rattle.rule_values.specs.Tables.{AreValueTypes}
use Rattle.rule_values.proofs.Items.{item-declared}
use Rattle.rule_values.proofs.Worth.{fitting_values_are_worth_the_same}
use Rattle.rule_plans.specs.declared.value_search.Sought.{Sought}
use Rattle.rule_plans.specs.declared.value_search.Seeker.{Seeker}
use Rattle.rule_plans.specs.steps.Coded.{named_of, named_at, wanted_in, Told, told_by, by_number, by_name, elements_by, elements_of, coded_itself, coded_values, coded_each, coded_elements}
use Rattle.rule_plans.specs.steps.Seeking.{IsSeeker, IsDeclared}
use Rattle.rule_plans.proofs.Sifting.{told}
use Rattle.rule_plans.proofs.Testing.{at-declared, found-declared}

-- the name of a type or an entity has a number
met-numbered : (s : Schema) (n : Name) → IsType s n ⊎ IsEntity s n → (i : ℕ) × HasNumber s n i
met-numbered s n (inl (t, at)) = each-number 0 s.declarations n (type t) at
met-numbered s n (inr (e, at)) = each-number 0 s.declarations n (entity e) at

-- what stands inside a typed value that fits is of a type that is declared
inner-there : (s : Schema) (d : Domain) → IsResolved s → IsDomain s d → (b : conformance.Base) (n : Name)
    (c : conformance.Base) → inner s d b n ≡ Some c → ((i : ℕ) × HasNumber s n i) × (c ≡ d.of_name n)
inner-there s d r is (conformance.select m) n c e = by (d.is_item m n) refl (is_entity s n) e
  where
    by : (p : Bool) → d.is_item m n ≡ p → (q : Bool) → cond (p && not q) (Some (base d (named n))) None ≡ Some c
        → ((i : ℕ) × HasNumber s n i) × (c ≡ d.of_name n)
    by true k false e =
        let same : d.of_name n ≡ c = cc in (item-declared s r m n ((is.items m n).0 k), sym same)
    by true k true e = absurd (cc)
    by false k q e = absurd (cc)
inner-there s d r is b n c e = absurd (cc)

module _ (x : Seeker) (is_seeker : IsSeeker x) (are : AreValueTypes (the_schema x.names.now) x.types.now) (d : Domain)
    (is : IsDomain (the_schema x.names.now) d) (en : Entities) (attributes : Attributes) (t : Name) (typing : Typing)
    (F : List Told → List Datum) (empty : F [] ≡ []) (joined : (xs ys : List Told) → F (xs ++ ys) ≡ F xs ++ F ys)
    (single : (o : Option ℕ) → IsDeclared (the_schema x.names.now) o → (z : Datum)
    → F (told_by (wanted_in x.wanted.now o) z)
    ≡ cond (told (the_schema x.names.now) (λ n. attributes.is_defined_by n t) o) (z ∷ []) []) where
  abbrev s : Schema
  s = the_schema x.names.now

  -- the type t, or one that is defined by it
  abbrev test : Name → Bool
  test n = attributes.is_defined_by n t

  -- the tables say of a data type what the schema says
  pub record IsSought (q : Sought) (k : DataType) : Type 0 where
    pub of : (z : Datum) → F (told_by q.declared z) ≡ cond (is_of s d en attributes t k) (z ∷ []) []
    pub asks : base_seen s q.base ≡ base d k
    pub numbered : IsNumberedBase s q.base

  told-name : (n : Name) (i : ℕ) → HasNumber s n i → told s test (number_of s n) ≡ test n
  told-name n i h = ap (told s test) h ∙ ap test (name-at s n i h)

  told-form : (k : DataType) → NamesKnownType s k → told s test (named_of (Some (form_in s k))) ≡ is_of s d en attributes t k
  told-form integer known = refl
  told-form number known = refl
  told-form boolean known = refl
  told-form logical known = refl
  told-form (real w) known = refl
  told-form (string w) known = refl
  told-form (binary w) known = refl
  told-form (named n) known = let (i, h) = met-numbered s n known.0 in told-name n i h
  told-form (array b o u k) known = refl
  told-form (list b u k) known = refl
  told-form (bag b k) known = refl
  told-form (set b k) known = refl

  told-at : (o : Option DataType) → NamesKnownType s (or_integer o)
      → told s test (named_of (option_map (form_in s) o)) ≡ is_of s d en attributes t (or_integer o)
  told-at None known = refl
  told-at (Some k) known = told-form k known

  pub sought-number : (j : ℕ) → NamesKnownType s (type_at s j) → IsSought (by_number x j) (type_at s j)
  sought-number j known = record {
    of = λ z.
        single (named_at x.forms.now j) (at-declared s x.forms.now is_seeker.forms j (named_at x.forms.now j) refl) z
        ∙ ap (λ b. cond b (z ∷ []) []) (ap (λ l. told s test (named_at l j)) is_seeker.forms
        ∙ ap (λ o. told s test (named_of o)) (slice_get-map (form_in s) (all_data_types s) j)
        ∙ told-at (slice_get (all_data_types s) j) known);
    asks = are.by_number d is j known;
    numbered = are.numbered j;
  }

  sought-name : (n : Name) (i : ℕ) → HasNumber s n i → IsSought (by_name x n) (named n)
  sought-name n i h = record {
    of = λ z.
        single (number_of s n) (found-declared s n (number_of s n) refl) z
        ∙ ap (λ b. cond b (z ∷ []) []) (told-name n i h);
    asks = are.by_name d is n i h;
    numbered = are.named n;
  }

  sought-element : (q : Sought) (k : DataType) → IsSought q k → IsSought (elements_of x q) (element_in k (base d k))
  sought-element q k h = by q.base refl
    where
      seen : (b : Base) → q.base ≡ b → element_in k (base_seen s b) ≡ element_in k (base d k)
      seen b e = ap (element_in k) (ap (base_seen s) (sym e) ∙ h.asks)

      by : (b : Base) → q.base ≡ b → IsSought (elements_by x q b) (element_in k (base d k))
      by (bases.Aggregate a) e =
          subst (IsSought (by_number x a.element)) (seen (bases.Aggregate a) e)
          (sought-number a.element (subst (IsNumberedBase s) e h.numbered))
      by bases.Integer e = subst (IsSought q) (seen bases.Integer e) h
      by bases.Number e = subst (IsSought q) (seen bases.Number e) h
      by bases.Boolean e = subst (IsSought q) (seen bases.Boolean e) h
      by bases.Logical e = subst (IsSought q) (seen bases.Logical e) h
      by (bases.String l) e = subst (IsSought q) (seen (bases.String l) e) h
      by (bases.Binary l) e = subst (IsSought q) (seen (bases.Binary l) e) h
      by (bases.Enumeration i) e = subst (IsSought q) (seen (bases.Enumeration i) e) h
      by (bases.Entity i) e = subst (IsSought q) (seen (bases.Entity i) e) h
      by (bases.Select i) e = subst (IsSought q) (seen (bases.Select i) e) h

  element-seen : (b : Base) → IsNumberedBase s b → base_seen s (element_base x.types.now b) ≡ element s d (base_seen s b)
  element-seen (bases.Aggregate a) known = are.by_number d is a.element known
  element-seen bases.Integer known = refl
  element-seen bases.Number known = refl
  element-seen bases.Boolean known = refl
  element-seen bases.Logical known = refl
  element-seen (bases.String l) known = refl
  element-seen (bases.Binary l) known = refl
  element-seen (bases.Enumeration i) known = refl
  element-seen (bases.Entity i) known = refl
  element-seen (bases.Select i) known = refl

  element-numbered : (b : Base) → IsNumberedBase s b → IsNumberedBase s (element_base x.types.now b)
  element-numbered (bases.Aggregate a) known = are.numbered a.element
  element-numbered b known = known

  -- a value itself
  alone : (q : Sought) (k : DataType) → IsSought q k → (b : Base) (v : Value)
      → coded_datum x.types.now b v ≡ datum s d (base_seen s b) v
      → F (told_by q.declared (coded_datum x.types.now b v)) ≡ itself s d en attributes t k (base_seen s b) v
  alone q k h b v e =
      h.of (coded_datum x.types.now b v) ∙ ap (λ z. cond (is_of s d en attributes t k) (z ∷ []) []) e

  worth : (b : Base) → IsNumberedBase s b → (v : Value) → Fits s d typing (base_seen s b) v
      → coded_datum x.types.now b v ≡ datum s d (base_seen s b) v
  worth b known v fits =
      fitting_values_are_worth_the_same s d is_seeker.resolved is x.types.now are typing b known v (inr fits)

  leaf-same : (q : Sought) (k : DataType) → IsSought q k → (b : Base) → IsNumberedBase s b → (a : Leaf)
      → Fits s d typing (base_seen s b) (leaf a)
      → F (coded_values x q b (leaf a)) ≡ values_of s d en attributes t k (base_seen s b) (leaf a)
  leaf-same q k h b known leaves.unset fits = empty
  leaf-same q k h b known leaves.derived fits = empty
  leaf-same q k h b known (leaves.number z) fits =
      alone q k h b (leaf (leaves.number z)) (worth b known (leaf (leaves.number z)) fits)
  leaf-same q k h b known (leaves.text c) fits =
      alone q k h b (leaf (leaves.text c)) (worth b known (leaf (leaves.text c)) fits)
  leaf-same q k h b known (leaves.bits c) fits =
      alone q k h b (leaf (leaves.bits c)) (worth b known (leaf (leaves.bits c)) fits)
  leaf-same q k h b known (leaves.element e) fits =
      alone q k h b (leaf (leaves.element e)) (worth b known (leaf (leaves.element e)) fits)

  unset-same : (q : Sought) (k : DataType) (b : Base) (v : Value) → v ≡ leaf unset
      → F (coded_values x q b v) ≡ values_of s d en attributes t k (base_seen s b) v
  unset-same q k b v e =
      ap (λ w. F (coded_values x q b w)) e ∙ empty ∙ ap (values_of s d en attributes t k (base_seen s b)) (sym e)

  mutual
    value-same : (q : Sought) (k : DataType) → IsSought q k → (b : Base) → IsNumberedBase s b → (v : Value)
        → Fits s d typing (base_seen s b) v
        → F (coded_values x q b v) ≡ values_of s d en attributes t k (base_seen s b) v
    value-same q k h b known (leaf a) fits = leaf-same q k h b known a fits
    value-same q k h b known (reference y) fits = alone q k h b (reference y) refl
    value-same q k h b known (values.typed n v) (c, e, fits) =
        let ((i, l), same) = inner-there s d is_seeker.resolved is (base_seen s b) n c e in
        let seen : base_seen s (named_base x.types.now n) ≡ d.of_name n = are.by_name d is n i l in
        value-same (by_name x n) (named n) (sought-name n i l) (named_base x.types.now n) (are.named n) v
        (subst (λ z. Fits s d typing z v) (same ∙ sym seen) fits)
        ∙ ap (λ z. values_of s d en attributes t (named n) z v) seen
    value-same q k h b known (values.sequence vs) g =
        let here = element-seen b known in
        joined (coded_itself x q.declared b (values.sequence vs)) (coded_elements x q b vs)
        ∙ (λ i. alone q k h b (values.sequence vs) (worth b known (values.sequence vs) g) i
        ++ each-same (elements_of x q) (element_in k (base d k)) (sought-element q k h) (element_base x.types.now b)
        (element-numbered b known) g.of.optional vs
        (subst (λ z. FitEach s d typing g.of.optional z vs) (sym (here ∙ ap (element s d) g.is_of)) g.each) i)
        ∙ ap (λ z. itself s d en attributes t k (base_seen s b) (values.sequence vs)
        ++ each_of s d en attributes t (element_in k (base d k)) z vs) here
    value-same q k h b known (values.bag vs) g =
        let here = element-seen b known in
        joined (coded_itself x q.declared b (values.bag vs)) (coded_elements x q b vs)
        ∙ (λ i. alone q k h b (values.bag vs) (worth b known (values.bag vs) g) i
        ++ each-same (elements_of x q) (element_in k (base d k)) (sought-element q k h) (element_base x.types.now b)
        (element-numbered b known) g.of.optional vs
        (subst (λ z. FitEach s d typing g.of.optional z vs) (sym (here ∙ ap (element s d) g.is_of)) g.each) i)
        ∙ ap (λ z. itself s d en attributes t k (base_seen s b) (values.bag vs)
        ++ each_of s d en attributes t (element_in k (base d k)) z vs) here

    each-same : (q : Sought) (k : DataType) → IsSought q k → (b : Base) → IsNumberedBase s b → (optional : Bool)
        (vs : Values) → FitEach s d typing optional (base_seen s b) vs
        → F (coded_each x q b vs) ≡ each_of s d en attributes t k (base_seen s b) vs
    each-same q k h b known optional values.none fits = empty
    each-same q k h b known optional (values.more v vs) (inl left, fits) =
        joined (coded_values x q b v) (coded_each x q b vs)
        ∙ (λ i. unset-same q k b v left.1 i ++ each-same q k h b known optional vs fits i)
    each-same q k h b known optional (values.more v vs) (inr fit, fits) =
        joined (coded_values x q b v) (coded_each x q b vs)
        ∙ (λ i. value-same q k h b known v fit i ++ each-same q k h b known optional vs fits i)

  -- the values of any value that fits, is left out or is derived
  pub all-same : (q : Sought) (k : DataType) → IsSought q k → (b : Base) → IsNumberedBase s b → (v : Value)
      → ((v ≡ leaf unset) ⊎ (v ≡ leaf derived)) ⊎ Fits s d typing (base_seen s b) v
      → F (coded_values x q b v) ≡ values_of s d en attributes t k (base_seen s b) v
  all-same q k h b known v (inl (inl e)) = unset-same q k b v e
  all-same q k h b known v (inl (inr e)) =
      ap (λ w. F (coded_values x q b w)) e ∙ empty ∙ ap (values_of s d en attributes t k (base_seen s b)) (sym e)
  all-same q k h b known v (inr fits) = value-same q k h b known v fits
