-- Attributes: the order of their values in an instance, the entity that declares each first, and
-- what redeclares it (ISO 10303-11, 9.2.1 and 9.2.3).
use Rattle.std.specs.Prelude.{◌≡◌, ℕ, zero, suc, Bool, cond, ◌&&◌, List, [], ◌∷◌, ◌++◌, map, flat_map, ◌⊎◌, bytes_eq}
use Rattle.std.specs.List.{list_any}
use Rattle.express_syntax.specs.Schemas.{Schema, Entity, Attribute, own, redeclared, Explicit, Derived, Inverse, Collection, alone, in_set, in_bag, DataType, named, bag, set}
use Rattle.express_syntax.specs.Profile.{Every}
use Rattle.schema_semantics.specs.Names.{Name, OneOf, Among, IsFirst, listed, entities, supertypes_of, IsEntity, IsEntityAt, Declares, DeclaresExplicit, explicit_names}
use Rattle.schema_semantics.specs.Faults.{holder_of}
use Rattle.schema_semantics.specs.Shapes.{AreAlikeTypes}

-- An attribute: the entity that declares it, and its name.
abbrev pub Place : Type 0
Place = Name × Name

abbrev pub same_place : Place → Place → Bool
same_place p q = bytes_eq p.0 q.0 && bytes_eq p.1 q.1

-- The list without the attributes in `before`, and without repeats.
abbrev pub without : List Place → List Place → List Place
without before [] = []
without before (p ∷ ps) =
    cond (list_any (same_place p) before) (without before ps) (p ∷ without (p ∷ before) ps)

-- The list without repeats: the first of equal attributes stays.
abbrev pub once : List Place → List Place
once ps = without [] ps

-- The explicit attributes that an entity declares, without redeclared ones.
abbrev pub own_places : Entity → List Place
own_places e = map (λ (n : Name). (e.name, n)) (explicit_names e)

-- The explicit attributes of an entity, by recursion: those of its supertypes in turn, then its
-- own, without repeats (ISO 10303-11, 9.2.3.3; ISO 10303-21, 11.2.5).
abbrev pub ArePlaces : Schema → (Name → List Place) → Type 0
ArePlaces s places =
    Every (λ (e : Entity). places e.name ≡ once (flat_map places (supertypes_of e) ++ own_places e)) (entities s)

-- `ps` are the explicit attributes of the entity `n`.
abbrev pub IsPlaces : Schema → Name → List Place → Type 0
IsPlaces s n ps = IsEntity s n × (places : Name → List Place) × ArePlaces s places × (places n ≡ ps)

-- The supertype chain of an entity: the entity, then the chain of each of its supertypes in turn.
abbrev pub AreLines : Schema → (Name → List Name) → Type 0
AreLines s line = Every (λ (e : Entity). line e.name ≡ e.name ∷ flat_map line (supertypes_of e)) (entities s)

-- `p` is the first in the supertype chain of the entity `q`, beginning with `q` itself, for which
-- `P` holds.
abbrev pub IsNearest : Schema → (Name → Type 0) → Name → Name → Type 0
IsNearest s P q p = IsEntity s q × (line : Name → List Name) × AreLines s line × IsFirst P (line q) p

-- `SELF\q.a` means the attribute `a` that `p` declares (ISO 10303-11, 9.2.3.4).
abbrev pub IsOrigin : Schema → Name → Name → Name → Type 0
IsOrigin s q a p = IsNearest s (λ (n : Name). Declares s n a) q p

-- The inverse attribute inverts the explicit attribute, with the name after FOR, that `p` declares
-- (ISO 10303-11, 9.2.1.3).
abbrev pub IsInverted : Schema → Inverse → Name → Type 0
IsInverted s i p = IsNearest s (λ (n : Name). DeclaresExplicit s n i.inverted) (holder_of i.holder i.entity) p

-- The data type of an inverse attribute (ISO 10303-11, 9.2.1.3).
abbrev pub collected : Collection → Name → DataType
collected alone e = named e
collected (in_set b) e = set b (named e)
collected (in_bag b) e = bag b (named e)

-- `e` declares its attribute `a` with this data type.
abbrev pub DeclaresAs : Name → DataType → Entity → Type 0
DeclaresAs a k e =
    OneOf (λ (x : Explicit). Among (own a) x.attributes × (x.data_type ≡ k)) e.explicits
    ⊎ (OneOf (λ (d : Derived). (d.attribute ≡ own a) × (d.data_type ≡ k)) (listed e.derived)
    ⊎ OneOf (λ (i : Inverse). (i.attribute ≡ own a) × (collected i.collection i.entity ≡ k)) (listed e.inverses))

-- `p` declares `a` with this data type.
abbrev pub IsFirstType : Schema → Name → Name → DataType → Type 0
IsFirstType s p a k = (e : Entity) × IsEntityAt s p e × DeclaresAs a k e

-- The attribute `x` of a declaration redeclares the attribute `a` of `p`.
abbrev pub IsRedeclaration : Schema → Attribute → Name → Name → Type 0
IsRedeclaration s x p a = (q : Name) × (x ≡ redeclared q a) × IsOrigin s q a p

-- The attribute `a` of `p` may be redeclared with this data type: it has the shape of the first
-- one.
abbrev pub HasFirstShape : Schema → Name → Name → DataType → Type 0
HasFirstShape s p a k = (first : DataType) × IsFirstType s p a first × AreAlikeTypes s first k

-- `e` redeclares the attribute `a` of `p` with this data type: as an explicit attribute of the
-- first shape, or as a derived one.
abbrev pub RedeclaresAs : Schema → Name → Name → DataType → Entity → Type 0
RedeclaresAs s p a k e =
    OneOf (λ (x : Explicit). OneOf (λ (y : Attribute). IsRedeclaration s y p a) x.attributes
    × (x.data_type ≡ k) × HasFirstShape s p a k) e.explicits
    ⊎ OneOf (λ (d : Derived). IsRedeclaration s d.attribute p a × (d.data_type ≡ k)) (listed e.derived)

-- The attribute `a` of `p` is declared or redeclared with this data type.
abbrev pub MayHaveType : Schema → Name → Name → DataType → Type 0
MayHaveType s p a k = IsFirstType s p a k ⊎ OneOf (RedeclaresAs s p a k) (entities s)

-- a derived attribute: its entity, and its number in DERIVE, counted from 0
abbrev pub Derivation : Type 0
Derivation = Name × ℕ

-- `x` is the `n`-th element of the list, counted from 0.
abbrev pub IsNth : {A : Type 0} → List A → ℕ → A → Type 0
IsNth [] n x = ⊥
IsNth (y ∷ ys) zero x = y ≡ x
IsNth (y ∷ ys) (suc n) x = IsNth ys n x

-- `d` is the declaration of this derived attribute.
abbrev pub IsDerivation : Schema → Derivation → Derived → Type 0
IsDerivation s (e, n) d = (x : Entity) × IsEntityAt s e x × IsNth (listed x.derived) n d

-- The derived attribute gives the attribute `a` of `p` its value: it declares or redeclares it.
abbrev pub Derives : Schema → Name → Name → Derivation → Type 0
Derives s p a (e, n) =
    (d : Derived) × IsDerivation s (e, n) d
    × (((d.attribute ≡ own a) × (e ≡ p)) ⊎ IsRedeclaration s d.attribute p a)
