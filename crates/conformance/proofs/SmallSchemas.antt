-- The functions of a small schema as computed by recursion, at most so deep, for the examples. A redeclaration
-- has to name the entity that declares the attribute.
use Rattle.std.specs.Prelude.{ℕ, zero, suc, ◌||◌, nat_lt, ℤ, pos, Bool, true, false, cond, List, [], ◌++◌, length, flat_map, Option, Some, None, bytes_eq}
use Rattle.std.specs.List.{list_any, filter}
use Rattle.std.specs.Str.Parse.{digits_value}
use Rattle.express_syntax.specs.Schemas.{Schema, Declaration, type, entity, Attribute, own, redeclared, Explicit, Derived, Bound, value, Width, width, Underlying, select, data_type, named}
use Rattle.schema_semantics.specs.Names.{Name, listed, declaration_of, supertypes_of}
use Rattle.schema_semantics.specs.Attributes.{Place, once, own_places, same_place}
use Rattle.conformance.specs.Bases.{Base, Domain, base_of_underlying}
use Rattle.conformance.specs.Bases as bases
use Rattle.conformance.specs.Entities.{Entities}

-- a number of fewer digits than the largest of 64 bits
abbrev pub small_number : List ℕ → Option ℤ
small_number t = cond (nat_lt (length t) 19) (Some (pos (digits_value 10 t))) None

abbrev pub bound_of : Bound → Option ℤ
bound_of (value None t) = small_number t
bound_of b = None

abbrev pub width_of : Width → Option ℤ
width_of (width t) = small_number t
width_of w = None

abbrev pub is_select : Base → Bool
is_select (bases.select m) = true
is_select b = false

module _ (s : Schema) where
  abbrev pub base_at : Domain → Name → Option Declaration → Base
  base_at d n (Some (type t)) = base_of_underlying d n t.underlying
  base_at d n (Some (entity e)) = bases.entity n
  base_at d n x = bases.integer

  abbrev pub is_item_at : Domain → Name → Name → Bool
  is_item_at d n m = cond (is_select (d.of_name m)) (d.is_item m n) (bytes_eq m n)

  abbrev pub is_item_of : Domain → Underlying → Name → Bool
  is_item_of d (select items) n = list_any (is_item_at d n) items
  is_item_of d (data_type (named m)) n = d.is_item m n
  is_item_of d u n = false

  abbrev pub is_item_in : Domain → Option Declaration → Name → Bool
  is_item_in d (Some (type t)) n = is_item_of d t.underlying n
  is_item_in d x n = false

  abbrev pub domain_of : ℕ → Domain
  domain_of zero =
      record { bound = bound_of; width = width_of; of_name = λ n. bases.integer; is_item = λ m n. false }
  domain_of (suc k) =
      record {
        bound = bound_of;
        width = width_of;
        of_name = λ n. base_at (domain_of k) n (declaration_of s.declarations n);
        is_item = λ m n. is_item_in (domain_of k) (declaration_of s.declarations m) n;
      }

  abbrev pub redeclares : Place → Attribute → Bool
  redeclares p (own a) = false
  redeclares p (redeclared q a) = same_place (q, a) p

  abbrev pub declares_so : Name → Place → Attribute → Bool
  declares_so e p (own a) = same_place (e, a) p
  declares_so e p x = redeclares p x

  abbrev pub supertypes_in : Option Declaration → List Name
  supertypes_in (Some (entity e)) = supertypes_of e
  supertypes_in x = []

  abbrev pub explicits_in : Option Declaration → List Explicit
  explicits_in (Some (entity e)) = e.explicits
  explicits_in x = []

  abbrev pub derived_in : Option Declaration → List Derived
  derived_in (Some (entity e)) = listed e.derived
  derived_in x = []

  abbrev pub places_in : Option Declaration → List Place
  places_in (Some (entity e)) = own_places e
  places_in x = []

  abbrev pub is_kind : ℕ → Name → Name → Bool
  is_kind zero a b = bytes_eq a b
  is_kind (suc k) a b =
      bytes_eq a b || list_any (λ m. is_kind k m b) (supertypes_in (declaration_of s.declarations a))

  abbrev pub places : ℕ → Name → List Place
  places zero n = []
  places (suc k) n =
      once (flat_map (places k) (supertypes_in (declaration_of s.declarations n))
      ++ places_in (declaration_of s.declarations n))

  abbrev pub entities_of : ℕ → Entities
  entities_of k = record {
    is_kind_of = is_kind k;
    places = places k;
    declarations = λ n p. filter (λ (x : Explicit). list_any (declares_so n p) x.attributes)
        (explicits_in (declaration_of s.declarations n));
    derives = λ n p. list_any (λ (d : Derived). redeclares p d.attribute)
        (derived_in (declaration_of s.declarations n));
  }
