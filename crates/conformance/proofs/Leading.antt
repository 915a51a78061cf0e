-- An image of a population that conforms conforms.
use Rattle.std.specs.Prelude.{◌≡◌, ℕ, ◌==◌, Bool, true, false, List, [], ◌∷◌, Some, map, ◌↔◌}
use Rattle.std.proofs.Common.{sym, ap, subst, inl, inr, ◌∙◌}
use Rattle.step_values.specs.Leaves as leaves
use Rattle.step_values.specs.Values.{Value, leaf, Agree}
use Rattle.step_values.specs.References.{renamed}
use Rattle.express_syntax.specs.Schemas.{Schema, DataType}
use Rattle.express_syntax.specs.Profile.{Every}
use Rattle.schema_semantics.specs.Names.{Name, Among, DeclaresExplicit}
use Rattle.schema_semantics.specs.Attributes.{Place}
use Rattle.schema_semantics.proofs.Lists.{among-map, from-map, every-at, every-of}
use Rattle.conformance.specs.Bases.{Domain, base}
use Rattle.conformance.specs.Entities.{Entities, abstract_leaves, missing_supertypes, broken_one_ofs, is_derived, is_optional, data_types}
use Rattle.conformance.specs.Populations.{Slot, Instance}
use Rattle.conformance.specs.Fits.{Typing}
use Rattle.conformance.specs.SeparatingMaps.{KeepsApart}
use Rattle.conformance.specs.Conforming.{FitsAll, ValueFits, SlotFits, Conforms, typing_of, PopulationConforms}
use Rattle.conformance.specs.Images.{IsLed, KeepsSlotApart, KeepsInstanceApart, IsTypedImage}
use Rattle.conformance.proofs.Carrying.{unset_led, fits_carried}

derived_led : (w : Value) → Agree (◌==◌) (leaf leaves.derived) w → w ≡ leaf leaves.derived
derived_led (leaf b) e = ap leaf (sym e)
derived_led w e = absurd e

module _ (s : Schema) (d : Domain) (before after : Typing) (h : ℕ → ℕ)
    (typed_alike : (y : ℕ) (types : List Name) → before y ≡ Some types → after (h y) ≡ Some types) where
  all_led : (ks : List DataType) (v w : Value) → Every (λ (k : DataType). KeepsApart s d h (base d k) v) ks
      → Agree (◌==◌) (renamed h v) w → FitsAll s d before ks v → FitsAll s d after ks w
  all_led [] v w g e f = tt
  all_led (k ∷ ks) v w g e f =
      (fits_carried s d before after h typed_alike (base d k) v w f.0 g.0 e, all_led ks v w g.1 e f.1)

  value_led : (derived optional : Bool) (ks : List DataType) (v w : Value)
      → Every (λ (k : DataType). KeepsApart s d h (base d k) v) ks → Agree (◌==◌) (renamed h v) w
      → ValueFits s d before derived optional ks v → ValueFits s d after derived optional ks w
  value_led true optional ks v w g e f = derived_led w (subst (λ x. Agree (◌==◌) (renamed h x) w) f e)
  value_led false optional ks v w g e (inl f) =
      inl (f.0, unset_led w (subst (λ x. Agree (◌==◌) (renamed h x) w) f.1 e))
  value_led false optional ks v w g e (inr f) = inr (all_led ks v w g e f)

  module _ (en : Entities) where
    module _ (i j : Instance) (e : IsLed h i j) (g : KeepsInstanceApart s d en h i) (c : Conforms s d before en i) where
      slot_led : (y : Slot) → Among y j.slots → SlotFits s d after en i.types y
      slot_led y m =
          let old = e.values y m in
          let x = old.0 in
          subst (λ (p : Place). ValueFits s d after (is_derived s en i.types p) (is_optional s en i.types p)
          (data_types s en i.types p) y.value) old.2
          (value_led (is_derived s en i.types x.place) (is_optional s en i.types x.place)
          (data_types s en i.types x.place)
          x.value y.value (every-at (KeepsSlotApart s d en h i.types) x i.slots g old.1) old.3
          (every-at (SlotFits s d before en i.types) x i.slots c.slots old.1))

      old_place : (p : Place) → Among p (map (λ (y : Slot). y.place) j.slots)
          → Among p (map (λ (x : Slot). x.place) i.slots)
      old_place p m =
          let new = from-map (λ (y : Slot). y.place) j.slots p m in
          let old = e.values new.0 new.1 in
          subst (λ q. Among q (map (λ (x : Slot). x.place) i.slots)) (old.2 ∙ new.2)
          (among-map (λ (x : Slot). x.place) old.0 i.slots old.1)

      new_place : (p : Place) → Among p (map (λ (x : Slot). x.place) i.slots)
          → Among p (map (λ (y : Slot). y.place) j.slots)
      new_place p m =
          let old = from-map (λ (x : Slot). x.place) i.slots p m in
          subst (λ q. Among q (map (λ (y : Slot). y.place) j.slots)) old.2 (e.places old.0 old.1)

      instance_led : Conforms s d after en j
      instance_led =
          record {
            leaves = subst (λ t. abstract_leaves s en t ≡ 0) e.types c.leaves;
            supertypes = subst (λ t. missing_supertypes s en t ≡ 0) e.types c.supertypes;
            one_ofs = subst (λ t. broken_one_ofs s en t ≡ 0) e.types c.one_ofs;
            attributes = λ n a. subst (λ t. Among (n, a) (map (λ (y : Slot). y.place) j.slots)
                ↔ (Among n t × DeclaresExplicit s n a)) e.types
                ((λ m. (c.attributes n a).0 (old_place (n, a) m)), (λ m. new_place (n, a) ((c.attributes n a).1 m)));
            slots = subst (λ t. Every (SlotFits s d after en t) j.slots) e.types
                (every-of (SlotFits s d after en i.types) j.slots slot_led);
          }

pub images_conform : (s : Schema) (d : Domain) (en : Entities) (h : ℕ → ℕ) (is js : List Instance)
    → IsTypedImage s d en h is js → PopulationConforms s d en is → PopulationConforms s d en js
images_conform s d en h is js image c =
    every-of (Conforms s d (typing_of js) en) js
    (λ j m. let from = image.led j m in
    instance_led s d (typing_of is) (typing_of js) h image.types en from.0 j from.2 from.3
    (every-at (Conforms s d (typing_of is) en) from.0 is c from.1))
