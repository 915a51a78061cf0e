-- The values of instances, and of their rows, by place.
use Rattle.std.specs.Prelude.{◌≡◌, ℕ, ◌==◌, List, [], ◌∷◌, Some}
use Rattle.std.proofs.Common.{sym, subst, ◌∙◌, inl, inr}
use Rattle.step_values.specs.Values.{Value, Agree, AgreeEach}
use Rattle.step_values.specs.References.{renamed, renamed_each, EachReference, EachReferenceOf}
use Rattle.value_equality.specs.Rows.{Row}
use Rattle.conformance.specs.PlainRows.{or_unset, values_at, IsRowOf}
use Rattle.express_syntax.specs.Schemas.{Schema}
use Rattle.schema_semantics.specs.Names.{Name, Among, explicit_names, DeclaresExplicit}
use Rattle.schema_semantics.specs.Attributes.{Place, own_places}
use Rattle.schema_semantics.proofs.Lists.{among-map, among-flat}
use Rattle.schema_semantics.proofs.Recursion.{to-any, from-any}
use Rattle.schema_semantics.proofs.Supertypes.{entity-name}
use Rattle.conformance.specs.Entities.{own_in, own_places_of}
use Rattle.conformance.specs.Populations.{Slot, Instance, slot_at}
use Rattle.conformance.proofs.Rowed.{places}
use Rattle.merge_theorems.specs.Layout.{IsLaidOut}

-- what holds of the references of a row holds of those at a place
pub references_at : (R : ℕ → Type 0) (xs : List Slot) (ps : List Place) → EachReferenceOf R (values_at xs ps)
    → (p : Place) → Among p ps → (v : Value) → slot_at xs p ≡ Some v → EachReference R v
references_at R xs [] h p m v e = elim m [ ]
references_at R xs (q ∷ ps) h p (inl same) v e =
    subst (λ o. EachReference R (or_unset o)) e
    (subst (λ (r : Place). EachReference R (or_unset (slot_at xs r))) same h.0)
references_at R xs (q ∷ ps) h p (inr m) v e = references_at R xs ps h.1 p m v e

-- values of rows that agree do so at each place
pub agree_at : (h : ℕ → ℕ) (xs zs : List Slot) (ps : List Place)
    → AgreeEach (◌==◌) (renamed_each h (values_at xs ps)) (values_at zs ps) → (p : Place) → Among p ps
    → (v w : Value) → slot_at xs p ≡ Some v → slot_at zs p ≡ Some w → Agree (◌==◌) (renamed h v) w
agree_at h xs zs [] a p m v w e f = elim m [ ]
agree_at h xs zs (q ∷ ps) a p (inl same) v w e f =
    subst (λ o. Agree (◌==◌) (renamed h v) (or_unset o)) f
    (subst (λ o. Agree (◌==◌) (renamed h (or_unset o)) (or_unset (slot_at zs p))) e
    (subst (λ (r : Place). Agree (◌==◌) (renamed h (or_unset (slot_at xs r))) (or_unset (slot_at zs r))) same a.0))
agree_at h xs zs (q ∷ ps) a p (inr m) v w e f = agree_at h xs zs ps a.1 p m v w e f

module _ (s : Schema) where
  -- a declared attribute is one of the places of its entity
  own_place : (e a : Name) → DeclaresExplicit s e a → Among (e, a) (own_places_of s e)
  own_place e a (x, at, m) =
      let known = entity-name s e x at in
      subst (λ o. Among (e, a) (own_in o)) (sym at)
      (subst (λ q. Among (q, a) (own_places x)) known.1
      (among-map (λ (b : Name). (x.name, b)) a (explicit_names x) m))

  -- the places of a row are all those of an instance
  pub place_in : (x : Instance) → IsLaidOut s x → (p : Row) → IsRowOf s x p → (y : Slot) → Among y x.slots
      → Among y.place (places s p)
  place_in x laid p row y m =
      let known = (laid.attributes y.place.0 y.place.1).0 (among-map (λ (z : Slot). z.place) y x.slots m) in
      among-flat (own_places_of s) y.place.0 y.place p.types
      (from-any y.place.0 p.types (row.types.same y.place.0 ∙ to-any y.place.0 x.types known.0))
      (own_place y.place.0 y.place.1 known.1)
