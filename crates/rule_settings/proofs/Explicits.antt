-- Values of explicit attributes, by what these are declared as.
use Rattle.std.specs.Prelude.{◌≡◌, ℕ, ◌<◌, Bool, true, false, List, [], ◌∷◌, length, map, Option, Some, None, slice_get}
use Rattle.std.proofs.Common.{refl, sym, ap, subst, ◌∙◌, inl, inr, get_or}
use Rattle.std.proofs.lemmas.Option.{slice_get-get_or, slice_get_within}
use Rattle.step_values.specs.Values.{Value}
use Rattle.express_syntax.specs.Schemas.{Schema, Explicit, DataType}
use Rattle.schema_semantics.specs.Names.{Among, DeclaresExplicit}
use Rattle.schema_semantics.specs.Attributes.{Place}
use Rattle.schema_semantics.specs.Faults.{IsResolved}
use Rattle.schema_semantics.specs.Names.{Name}
use Rattle.schema_semantics.proofs.Lists.{among-map, among-flat, every-at}
use Rattle.schema_explicit_attributes.specs.Places.{all_places}
use Rattle.conformance.specs.Bases.{Domain, IsDomain, base}
use Rattle.conformance.specs.Entities.{Entities, AreEntities, data_types, declarations_by, is_derived, is_optional}
use Rattle.conformance.specs.Populations.{Slot, Instance, instance_at, first_base, value_in, value_of}
use Rattle.conformance.specs.Conforming.{ValueFits, SlotFits, Conforms, typing_of, PopulationConforms}
use Rattle.conformance.specs.Fits.{Fits}
use Rattle.schema_underlying_types.specs.declared.base.Base.{Base}
use Rattle.schema_underlying_types.specs.BaseViews.{base_seen}
use Rattle.schema_underlying_types.specs.Tables.{IsNumberedBase}
use Rattle.schema_constraints.specs.RuleViews.{or_nowhere, place_at}
use Rattle.conformance.specs.Values.{datum, datum_at, first_declared}
use Rattle.conformance.proofs.Closed.{declares_so}
use Rattle.conformance.proofs.Led.{at_name, at_place}
use Rattle.rule_values.specs.declared.types.ValueTypes.{ValueTypes}
use Rattle.rule_values.specs.TableValues.{coded_datum}
use Rattle.rule_values.specs.Tables.{AreValueTypes}
use Rattle.rule_values.proofs.Worth.{all-worth}
use Rattle.rule_names.specs.Tables.{AreDeclared, IsDeclaredAs}

-- the place of a number
pub there : (s : Schema) (q : ℕ) → q < length (all_places s) → (p : Place) × (slice_get (all_places s) q ≡ Some p)
there s q lt = (get_or (all_places s) q ([], []), slice_get-get_or (all_places s) q ([], []) lt)

pub declared_within : (s : Schema) (bases : List Base) → AreDeclared s bases → (q : ℕ) → q < length (all_places s)
    → q < length bases
declared_within s bases are q lt =
    let (p, at) = there s q lt in
    let (b, here, so) = are p q at in
    slice_get_within bases q b here

pub declared_at : (s : Schema) (bases : List Base) → AreDeclared s bases → (q : ℕ) → q < length (all_places s)
    → (b : Base) → slice_get bases q ≡ Some b → IsDeclaredAs s (place_at s q) b
declared_at s bases are q lt b e =
    let (p, at) = there s q lt in
    let (c, here, so) = are p q at in
    let same : c ≡ b = some_is c b (sym here ∙ e) in
    subst (λ r. IsDeclaredAs s r b) (sym (ap or_nowhere at)) (subst (IsDeclaredAs s p) same so)
  where
    some_is : (c b : Base) → Some c ≡ Some b → c ≡ b
    some_is c b h = cc

module _ (s : Schema) (d : Domain) (en : Entities) (are : AreEntities s en) where
  -- the first declaration of an attribute is among those that its values have to fit
  first_type : (types : List Name) (p : Place) → Among p.0 types → DeclaresExplicit s p.0 p.1
      → (k : DataType) × Among k (data_types s en types p) × (first_declared s d en p ≡ base d k)
  first_type types p m h = by (en.declarations p.0 p) refl (declares_so s en are p.0 p.1 h)
    where
      by : (xs : List Explicit) → en.declarations p.0 p ≡ xs → (x : Explicit) × Among x (en.declarations p.0 p)
          → (k : DataType) × Among k (data_types s en types p) × (first_declared s d en p ≡ base d k)
      by [] e (x, some) = absurd (subst (Among x) e some)
      by (y ∷ ys) e some =
          let here : Among y (en.declarations p.0 p) = subst (Among y) (sym e) (inl refl) in (
            y.data_type,
            among-map (λ (x : Explicit). x.data_type) y (declarations_by s en types p)
                (among-flat (λ (t : Name). en.declarations t p) p.0 y types m here),
            ap (λ l. first_base s d en (map (λ (x : Explicit). x.data_type) l)) e,
          )

  module _ (r : IsResolved s) (is_domain : IsDomain s d) (t : ValueTypes) (tabled : AreValueTypes s t) (is : List Instance) where
    value_worth : (derived optional : Bool) (ks : List DataType) (v : Value) (k : DataType) (b : Base) → IsNumberedBase s b
        → base_seen s b ≡ base d k → Among k ks → ValueFits s d (typing_of is) derived optional ks v
        → coded_datum t b v ≡ datum s d (base_seen s b) v
    value_worth true optional ks v k b known seen m h =
        all-worth s d r is_domain t tabled (typing_of is) b known v (inl (inr h))
    value_worth false optional ks v k b known seen m (inl h) =
        all-worth s d r is_domain t tabled (typing_of is) b known v (inl (inl h.1))
    value_worth false optional ks v k b known seen m (inr h) =
        all-worth s d r is_domain t tabled (typing_of is) b known v
        (inr (subst (λ c. Fits s d (typing_of is) c v) (sym seen)
        (every-at (λ (j : DataType). Fits s d (typing_of is) (base d j) v) k ks h m)))

    -- a value of an instance that conforms
    slot_worth : (x : Instance) → Conforms s d (typing_of is) en x → (z : Slot) → Among z x.slots → (b : Base)
        → IsNumberedBase s b → base_seen s b ≡ first_declared s d en z.place
        → coded_datum t b z.value ≡ datum s d (base_seen s b) z.value
    slot_worth x c z m b known seen =
        let place = (c.attributes z.place.0 z.place.1).0 (among-map (λ (u : Slot). u.place) z x.slots m) in
        let first = first_type x.types z.place place.0 place.1 in
        value_worth (is_derived s en x.types z.place) (is_optional s en x.types z.place)
        (data_types s en x.types z.place) z.value first.0 b known (seen ∙ first.2) first.1
        (every-at (SlotFits s d (typing_of is) en x.types) z x.slots c.slots m)

    -- the value that an instance has at a place
    pub worth_at : PopulationConforms s d en is → (y : ℕ) (p : Place) (v : Value) → value_of is y p ≡ Some v → (b : Base)
        → IsNumberedBase s b → base_seen s b ≡ first_declared s d en p
        → coded_datum t b v ≡ datum_at s d (first_declared s d en p) (value_of is y p)
    worth_at conforms y p v e b known seen =
        by (instance_at is y) refl e ∙ ap (λ c. datum s d c v) seen ∙ sym (ap (datum_at s d (first_declared s d en p)) e)
      where
        by : (o : Option Instance) → instance_at is y ≡ o → value_in o p ≡ Some v
            → coded_datum t b v ≡ datum s d (base_seen s b) v
        by None at k = absurd (cc)
        by (Some x) at k =
            let (z, m, place, value) = at_place p x.slots v k in
            let here = at_name y is x at in
            subst (λ w. coded_datum t b w ≡ datum s d (base_seen s b) w) value
            (slot_worth x (every-at (Conforms s d (typing_of is) en) x is conforms here.0) z m b known
            (seen ∙ ap (first_declared s d en) (sym place)))
