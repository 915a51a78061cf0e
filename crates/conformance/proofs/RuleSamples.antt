-- What a schema of points, placements and groups says of its attributes, as functions, and instances that are written
-- short, for the examples.
use Rattle.std.specs.Prelude.{ℕ, ◌&&◌, ◌||◌, pos, Bool, false, cond, List, [], ◌∷◌, filter, Option, Some, None, codes, bytes_eq}
use Rattle.std.specs.List.{list_any}
use Rattle.step_literals.specs.declared.literal.items.Item.TheVariants.{Code}
use Rattle.step_values.specs.Leaves as leaves
use Rattle.step_values.specs.Values as values
use Rattle.step_values.specs.Values.{Value, leaf, reference, sequence, Values, none, more}
use Rattle.express_syntax.specs.Schemas.{Declaration, entity, Attribute, own, redeclared, Explicit, DataType}
use Rattle.schema_semantics.specs.Names.{Name, declaration_of}
use Rattle.schema_semantics.specs.Attributes.{Place}
use Rattle.schema_semantics.proofs.Geo.{geo, having, LOCATION, AXIS, COORDS, ITEM, LOOP, GROUP, NOTE, NODE, BUNDLE, POINT, PLACEMENT}
use Rattle.conformance.specs.Bases as bases
use Rattle.conformance.specs.Bases.{Domain}
use Rattle.conformance.specs.Entities.{Entities, own_places_of}
use Rattle.conformance.specs.Populations.{Slot, Instance}
use Rattle.conformance.proofs.GeoRules.{ID, MEMBERS, SUBJECT}

-- names of entities alone are asked
abbrev pub geo_domain : Domain
geo_domain =
    record { bound = λ b. None; width = λ w. None; of_name = λ n. bases.entity n; is_item = λ m n. false }

abbrev explicits_in : Option Declaration → List Explicit
explicits_in (Some (entity e)) = e.explicits
explicits_in d = []

abbrev is_own_name : Name → Attribute → Bool
is_own_name a (own n) = bytes_eq n a
is_own_name a (redeclared q n) = false

abbrev pub geo_entities : Entities
geo_entities = record {
  is_kind_of = λ a b. bytes_eq a b || (bytes_eq b ITEM && (bytes_eq a LOOP || bytes_eq a GROUP));
  places = own_places_of geo;
  declarations = λ n p. cond (bytes_eq n p.0) (filter (λ (x : Explicit). list_any (is_own_name p.1) x.attributes)
      (explicits_in (declaration_of geo.declarations n))) [];
  derives = λ n p. false;
}

-- The entities of the sample, in which each attribute has this data type.
abbrev pub all_of : DataType → Entities
all_of k = record geo_entities { declarations = λ n p. having p.1 k ∷ [] }

abbrev pub instance : ℕ → List Name → List Slot → Instance
instance n types slots = record { name = n; section = 0; types = types; slots = slots }

abbrev pub slot : Place → Value → Slot
slot p v = record { place = p; value = v }

abbrev pub references : List ℕ → Values
references [] = none
references (y ∷ ys) = more (reference y) (references ys)

-- a string of one letter
abbrev pub letter : ℕ → Value
letter c = leaf (leaves.text (Code c ∷ []))

abbrev pub a_point : ℕ → ℕ → Instance
a_point n x =
    instance n (POINT ∷ []) (slot (POINT, COORDS) (sequence (more (leaf (leaves.number (pos x))) none)) ∷ [])

abbrev pub a_placement : ℕ → ℕ → Instance
a_placement n y =
    instance n (PLACEMENT ∷ []) (slot (PLACEMENT, LOCATION) (reference y)
    ∷ slot (PLACEMENT, AXIS) (leaf leaves.unset) ∷ [])

abbrev pub a_note : ℕ → Value → Instance
a_note n v = instance n (NOTE ∷ []) (slot (NOTE, codes "WORDS") (letter 97) ∷ slot SUBJECT v ∷ [])

abbrev pub a_group : ℕ → Value → List ℕ → Instance
a_group n id ys = instance n (ITEM ∷ GROUP ∷ []) (slot ID id ∷ slot MEMBERS (values.bag (references ys)) ∷ [])

abbrev pub a_loop : ℕ → List ℕ → Instance
a_loop n ys = instance n (ITEM ∷ LOOP ∷ []) (slot (LOOP, codes "CORNERS") (sequence (references ys)) ∷ [])

abbrev pub a_node : ℕ → ℕ → Instance
a_node n y = instance n (NODE ∷ []) (slot (NODE, codes "NEXT") (reference y) ∷ [])

abbrev pub a_bundle : ℕ → List ℕ → Instance
a_bundle n ys = instance n (BUNDLE ∷ []) (slot (BUNDLE, codes "MEMBERS") (values.bag (references ys)) ∷ [])
