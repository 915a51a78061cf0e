-- What is asked of names in a resolved schema makes its data types known.
use Rattle.std.specs.Prelude.{◌≡◌, List, [], ◌∷◌, ◌++◌, map, flat_map}
use Rattle.std.proofs.Common.{refl, inl, inr, sym, subst}
use Rattle.express_syntax.specs.Schemas.{Schema, type, entity, Entity, Explicit, Derived, Inverse, Attribute, own, Underlying, enumeration, select, data_type, DataType, Collection, alone, in_set, in_bag}
use Rattle.express_syntax.specs.Profile.{Every}
use Rattle.schema_semantics.specs.Names.{Name, Among, listed, IsEntity, supertypes_of}
use Rattle.schema_semantics.specs.Faults.{Demand, an_entity, IsMet, IsResolved, demands, demands_of_declaration, demands_of_underlying, demands_of_data_type, demands_of_attribute, demands_of_supertype, demands_of_explicit, demands_of_derived, demands_of_inverse}
use Rattle.schema_semantics.specs.Attributes.{collected}
use Rattle.schema_semantics.proofs.Lists.{among-left, among-right, among-flat, every-at, every-of}
use Rattle.schema_data_types.specs.NumberedTypes.{whole_underlying}
use Rattle.schema_data_types.specs.ShapeTables.{IsKnown}
use Rattle.schema_data_types.specs.Laws.{IsKnownInverse, AreKnownOf, DataTypesAreKnown}

every-mapped : {A B : Type 0} (P : B → Type 0) (f : A → B) (xs : List A) → ((x : A) → Among x xs → P (f x))
    → Every P (map f xs)
every-mapped P f [] h = tt
every-mapped P f (x ∷ xs) h = (h x (inl refl), every-mapped P f xs (λ y m. h y (inr m)))

module _ (s : Schema) (r : IsResolved s) where
  asked-known : (k : DataType) → ((d : Demand) → Among d (demands_of_data_type k) → Among d (demands s)) → IsKnown s k
  asked-known k h =
      every-of (IsMet s) (demands_of_data_type k) (λ d m. every-at (IsMet s) d (demands s) r.known (h d m))

  behind-known : (u : Underlying) → ((d : Demand) → Among d (demands_of_underlying u) → Among d (demands s))
      → Every (IsKnown s) (whole_underlying u)
  behind-known (enumeration items) h = tt
  behind-known (select items) h = tt
  behind-known (data_type k) h = (asked-known k h, tt)

  collected-known : (c : Collection) (n : Name) → IsEntity s n → IsKnown s (collected c n)
  collected-known alone n h = (inr h, tt)
  collected-known (in_set b) n h = (inr h, tt)
  collected-known (in_bag b) n h = (inr h, tt)

  module _ (e : Entity) (m : Among (entity e) s.declarations) where
    heads : List Demand
    heads = demands_of_supertype e.supertype ++ map an_entity (supertypes_of e)

    explicits : List Demand
    explicits = flat_map (demands_of_explicit (supertypes_of e)) e.explicits

    deriveds : List Demand
    deriveds = flat_map (demands_of_derived (supertypes_of e)) (listed e.derived)

    inverses : List Demand
    inverses = flat_map (λ (i : Inverse). demands_of_inverse i.attribute i) (listed e.inverses)

    in-schema : (d : Demand) → Among d (((heads ++ explicits) ++ deriveds) ++ inverses) → Among d (demands s)
    unfolding heads explicits deriveds inverses
    in-schema d h = among-flat demands_of_declaration (entity e) d s.declarations m h

    explicit-asked : (x : Explicit) → Among x e.explicits → (d : Demand) → Among d (demands_of_data_type x.data_type)
        → Among d (demands s)
    unfolding explicits
    explicit-asked x at d h =
        in-schema d (among-left d ((heads ++ explicits) ++ deriveds) inverses
        (among-left d (heads ++ explicits) deriveds (among-right d heads explicits
        (among-flat (demands_of_explicit (supertypes_of e)) x d e.explicits at
        (among-right d (flat_map (demands_of_attribute (supertypes_of e)) x.attributes)
        (demands_of_data_type x.data_type) h)))))

    derived-asked : (x : Derived) → Among x (listed e.derived) → (d : Demand)
        → Among d (demands_of_data_type x.data_type) → Among d (demands s)
    unfolding deriveds
    derived-asked x at d h =
        in-schema d (among-left d ((heads ++ explicits) ++ deriveds) inverses
        (among-right d (heads ++ explicits) deriveds
        (among-flat (demands_of_derived (supertypes_of e)) x d (listed e.derived) at
        (among-right d (demands_of_attribute (supertypes_of e) x.attribute)
        (demands_of_data_type x.data_type) h))))

    inverse-asked : (i : Inverse) (n : Name) → Among i (listed e.inverses) → i.attribute ≡ own n
        → Among (an_entity i.entity) (demands s)
    unfolding inverses
    inverse-asked i n at is =
        in-schema (an_entity i.entity) (among-right (an_entity i.entity) ((heads ++ explicits) ++ deriveds) inverses
        (among-flat (λ (j : Inverse). demands_of_inverse j.attribute j) i (an_entity i.entity) (listed e.inverses) at
        (subst (λ (a : Attribute). Among (an_entity i.entity) (demands_of_inverse a i)) (sym is) (inl refl))))

    entity-known : AreKnownOf s e
    entity-known = (
      every-mapped (IsKnown s) (λ (x : Explicit). x.data_type) e.explicits
          (λ x at. asked-known x.data_type (explicit-asked x at)),
      every-mapped (IsKnown s) (λ (x : Derived). x.data_type) (listed e.derived)
          (λ x at. asked-known x.data_type (derived-asked x at)),
      every-of (IsKnownInverse s) (listed e.inverses)
          (λ i at n is. collected-known i.collection i.entity
          (every-at (IsMet s) (an_entity i.entity) (demands s) r.known (inverse-asked i n at is))),
    )

pub data-types-are-known : DataTypesAreKnown
data-types-are-known s r = (
  λ t m. behind-known s r t.underlying (λ d h. among-flat demands_of_declaration (type t) d s.declarations m h),
  λ e m. entity-known s r e m,
)
