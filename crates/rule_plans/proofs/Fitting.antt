-- The value of an attribute, as its first declaration asks for it.
use Rattle.std.specs.Prelude.{◌≡◌, Bool, true, false, List, [], ◌∷◌, map, ◌⊎◌}
use Rattle.std.proofs.Common.{refl, sym, ap, subst, inl, inr}
use Rattle.step_values.specs.Leaves.{unset, derived}
use Rattle.step_values.specs.Values.{Value, leaf}
use Rattle.express_syntax.specs.Schemas.{Schema, Explicit, DataType}
use Rattle.schema_semantics.specs.Names.{Name, Among, DeclaresExplicit, own_names}
use Rattle.schema_semantics.specs.Attributes.{Place}
use Rattle.schema_semantics.proofs.Lists.{among-map, among-flat, from-flat, every-at}
use Rattle.schema_semantics.proofs.Supertypes.{entity-name}
use Rattle.schema_attributes.proofs.Telling.{among-own}
use Rattle.conformance.specs.Bases.{Domain, base}
use Rattle.conformance.specs.Entities.{Entities, AreEntities, AreThose, DeclaresSo, is_derived, is_optional, data_types, declarations_by}
use Rattle.conformance.specs.Populations.{Slot, Instance, first_base}
use Rattle.conformance.specs.Fits.{Typing, Fits}
use Rattle.conformance.specs.Conforming.{FitsAll, ValueFits, SlotFits, Conforms}
use Rattle.conformance.specs.Values.{first_declared}

-- what holds of one of a list is among those of which it holds
pub those-among : {A : Type 0} (P : A → Type 0) (x : A) (xs ys : List A) → AreThose P xs ys → Among x xs → P x
    → Among x ys
those-among P x [] ys h m p = elim m [ ]
those-among P x (z ∷ xs) ys (inl (q, zs, is, more)) (inl e) p = subst (Among x) (sym is) (inl e)
those-among P x (z ∷ xs) ys (inl (q, zs, is, more)) (inr m) p =
    subst (Among x) (sym is) (inr (those-among P x xs zs more m p))
those-among P x (z ∷ xs) ys (inr (never, more)) (inl e) p = absurd (never (subst P (sym e) p))
those-among P x (z ∷ xs) ys (inr (never, more)) (inr m) p = those-among P x xs ys more m p

module _ (s : Schema) (d : Domain) (en : Entities) (g : AreEntities s en) (typing : Typing) where
  -- an attribute that an entity declares has a declaration by it
  declared-by : (e a : Name) → DeclaresExplicit s e a → (x : Explicit) × Among x (en.declarations e (e, a))
  declared-by e a (n, at, m) =
      let (x, there, names) = from-flat (λ (y : Explicit). own_names y.attributes) a n.explicits m in (
        x,
        those-among (DeclaresSo s n (e, a)) x n.explicits (en.declarations e (e, a)) (g.declarations e n at (e, a)) there
            (inl ((entity-name s e n at).1, among-own x.attributes a names)),
      )

  -- what fits all that an attribute is declared as fits what its entity declares it as
  first-fits : (types : List Name) (p : Place) (v : Value) → Among p.0 types → DeclaresExplicit s p.0 p.1
      → FitsAll s d typing (data_types s en types p) v → Fits s d typing (first_declared s d en p) v
  first-fits types p v m h all =
      by (en.declarations p.0 p) refl (declared-by p.0 p.1 h)
    where
      by : (xs : List Explicit) → en.declarations p.0 p ≡ xs → (x : Explicit) × Among x (en.declarations p.0 p)
          → Fits s d typing (first_declared s d en p) v
      by [] e (x, inside) = elim (subst (Among x) e inside) [ ]
      by (z ∷ zs) e k =
          let here : Among z (en.declarations p.0 p) = subst (Among z) (sym e) (inl refl) in
          let among : Among z.data_type (data_types s en types p) =
          among-map (λ (x : Explicit). x.data_type) z (declarations_by s en types p)
          (among-flat (λ t. en.declarations t p) p.0 z types m here) in
          subst (λ b. Fits s d typing b v)
          (sym (ap (λ (xs : List Explicit). first_base s d en (map (λ (x : Explicit). x.data_type) xs)) e))
          (every-at (λ (k : DataType). Fits s d typing (base d k) v) z.data_type (data_types s en types p) all among)

  -- A value of an instance that conforms is left out or derived, or it fits what its attribute is declared as by the
  -- entity of its place.
  pub declared-fits : (i : Instance) → Conforms s d typing en i → (x : Slot) → Among x i.slots
      → ((x.value ≡ leaf unset) ⊎ (x.value ≡ leaf derived)) ⊎ Fits s d typing (first_declared s d en x.place) x.value
  declared-fits i c x m =
      by (is_derived s en i.types x.place) (is_optional s en i.types x.place)
      (every-at (SlotFits s d typing en i.types) x i.slots c.slots m)
    where
      there : Among x.place.0 i.types × DeclaresExplicit s x.place.0 x.place.1
      there = (c.attributes x.place.0 x.place.1).0 (among-map (λ (y : Slot). y.place) x i.slots m)

      by : (removed optional : Bool)
          → ValueFits s d typing removed optional (data_types s en i.types x.place) x.value
          → ((x.value ≡ leaf unset) ⊎ (x.value ≡ leaf derived))
          ⊎ Fits s d typing (first_declared s d en x.place) x.value
      by true optional h = inl (inr h)
      by false optional (inl (may, h)) = inl (inl h)
      by false optional (inr all) = inr (first-fits i.types x.place x.value there.0 there.1 all)
