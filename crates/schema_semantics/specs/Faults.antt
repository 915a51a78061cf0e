-- What is wrong with the names of a schema, and which fault is reported (ISO 10303-11, 9 and 10).
use Rattle.std.specs.Prelude.{◌≡◌, ℕ, ◌+◌, List, [], ◌∷◌, ◌++◌, Option, None, Some, map, ◌⊎◌, flat_map}
use Rattle.graphs.specs.Graphs.{Leads}
use Rattle.express_syntax.specs.Schemas.{Schema, Declaration, type, entity, skipped, TypeDeclaration, Entity, Attribute, own, redeclared, Explicit, Derived, Inverse, Underlying, enumeration, select, data_type, DataType, named, array, list, bag, set, Supertype, of_one_of}
use Rattle.express_syntax.specs.declared.fault.NameFault.{NameFault}
use Rattle.express_syntax.specs.declared.fault.NameFault.TheVariants.{UnknownName, DuplicateName, SupertypeCycle, TypeCycle}
use Rattle.express_syntax.specs.Profile.{Every}
use Rattle.schema_semantics.specs.Names.{Name, OneOf, Among, IsFirst, Nowhere, listed, entities, types, IsEntity, IsType, IsBelow, IsKindOf, HasAttribute, HasExplicit, IsMadeOf, supertypes_of, attribute_names}

-- What a name has to be where the text uses it.
pub data Demand : Type 0 where
  -- A defined type or an entity.
  a_type : Name → Demand
  -- An entity.
  an_entity : Name → Demand
  -- The attribute in `SELF\supertype.attribute`: the supertype is one of these names of SUBTYPE OF
  -- or a supertype of one, and it has the attribute.
  inherited : List Name → Name → Name → Demand
  -- An explicit attribute of an entity or of one of its supertypes.
  inverted : Name → Name → Demand

-- The demand is met.
abbrev pub IsMet : Schema → Demand → Type 0
IsMet s (a_type n) = IsType s n ⊎ IsEntity s n
IsMet s (an_entity n) = IsEntity s n
IsMet s (inherited supertypes q a) = OneOf (λ (p : Name). IsKindOf s p q) supertypes × HasAttribute s q a
IsMet s (inverted q a) = HasExplicit s q a

-- The name of which the demand requires something.
abbrev pub asked : Demand → Name
asked (a_type n) = n
asked (an_entity n) = n
asked (inherited supertypes q a) = a
asked (inverted q a) = a

-- The demands of the names in a data type.
abbrev pub demands_of_data_type : DataType → List Demand
demands_of_data_type (named n) = a_type n ∷ []
demands_of_data_type (array b o u k) = demands_of_data_type k
demands_of_data_type (list b u k) = demands_of_data_type k
demands_of_data_type (bag b k) = demands_of_data_type k
demands_of_data_type (set b k) = demands_of_data_type k
demands_of_data_type k = []

-- The demands of an attribute in a declaration. A redeclaration is of an attribute of a supertype
-- (ISO 10303-11, 9.2.3.4).
abbrev pub demands_of_attribute : List Name → Attribute → List Demand
demands_of_attribute supertypes (own n) = []
demands_of_attribute supertypes (redeclared q a) = an_entity q ∷ inherited supertypes q a ∷ []

-- The operands of ONEOF have to be entities (ISO 10303-11, 9.2.5).
abbrev pub demands_of_supertype : Supertype → List Demand
demands_of_supertype (of_one_of names) = map an_entity names
demands_of_supertype s = []

abbrev pub demands_of_holder : Option Name → List Demand
demands_of_holder None = []
demands_of_holder (Some q) = an_entity q ∷ []

-- The entity that has the inverted attribute: the one before the attribute's name, if any,
-- otherwise the one that refers.
abbrev pub holder_of : Option Name → Name → Name
holder_of None e = e
holder_of (Some q) e = q

-- The demands of an inverse attribute; none for a redeclared one (ISO 10303-11, 9.2.1.3).
abbrev pub demands_of_inverse : Attribute → Inverse → List Demand
demands_of_inverse (own n) i =
    an_entity i.entity ∷ (demands_of_holder i.holder ++ inverted (holder_of i.holder i.entity) i.inverted ∷ [])
demands_of_inverse (redeclared q a) i = []

abbrev pub demands_of_explicit : List Name → Explicit → List Demand
demands_of_explicit supertypes x =
    flat_map (demands_of_attribute supertypes) x.attributes ++ demands_of_data_type x.data_type

abbrev pub demands_of_derived : List Name → Derived → List Demand
demands_of_derived supertypes d = demands_of_attribute supertypes d.attribute ++ demands_of_data_type d.data_type

abbrev pub demands_of_entity : Entity → List Demand
demands_of_entity e =
    demands_of_supertype e.supertype ++ map an_entity (supertypes_of e)
    ++ flat_map (demands_of_explicit (supertypes_of e)) e.explicits
    ++ flat_map (demands_of_derived (supertypes_of e)) (listed e.derived)
    ++ flat_map (λ (i : Inverse). demands_of_inverse i.attribute i) (listed e.inverses)

abbrev pub demands_of_underlying : Underlying → List Demand
demands_of_underlying (enumeration items) = []
demands_of_underlying (select items) = map a_type items
demands_of_underlying (data_type k) = demands_of_data_type k

abbrev pub demands_of_declaration : Declaration → List Demand
demands_of_declaration (type t) = demands_of_underlying t.underlying
demands_of_declaration (entity e) = demands_of_entity e
demands_of_declaration (skipped p) = []

-- All demands of a schema, in the order of the text.
abbrev pub demands : Schema → List Demand
demands s = flat_map demands_of_declaration s.declarations

-- A declared name, with the scope in which it has to be unique: 0 is the schema, `n` its `n`-th
-- declaration (ISO 10303-11, 10.1).
abbrev pub Declared : Type 0
Declared = ℕ × Name

abbrev pub enumerated_items : Underlying → List Name
enumerated_items (enumeration items) = items
enumerated_items u = []

abbrev pub in_scope : ℕ → List Name → List Declared
in_scope n names = map (λ (m : Name). (n, m)) names

abbrev pub declared_from : ℕ → List Declaration → List Declared
declared_from n [] = []
declared_from n (type t ∷ ds) = (0, t.name) ∷ (in_scope n (enumerated_items t.underlying) ++ declared_from (n + 1) ds)
declared_from n (entity e ∷ ds) = (0, e.name) ∷ (in_scope n (attribute_names e) ++ declared_from (n + 1) ds)
declared_from n (skipped p ∷ ds) = declared_from (n + 1) ds

-- All declared names of a schema, in the order of the text.
abbrev pub declared : Schema → List Declared
declared s = declared_from 1 s.declarations

-- `x` is in the list twice.
abbrev pub StandsTwice : {A : Type 0} → List A → A → Type 0
StandsTwice [] x = ⊥
StandsTwice (y ∷ ys) x = ((y ≡ x) × Among x ys) ⊎ StandsTwice ys x

-- `n` is the first name that isn't what its use requires.
abbrev pub IsFirstUnknownName : Schema → Name → Type 0
IsFirstUnknownName s n = (d : Demand) × IsFirst (λ (d : Demand). IsMet s d → ⊥) (demands s) d × (asked d ≡ n)

-- `x` is the first element of the list that is a repeat: it is in `before`, or earlier in the list.
abbrev pub IsFirstAgain : {A : Type 0} → List A → List A → A → Type 0
IsFirstAgain before [] x = ⊥
IsFirstAgain before (y ∷ ys) x =
    (Among y before × (y ≡ x)) ⊎ ((Among y before → ⊥) × IsFirstAgain (y ∷ before) ys x)

-- `n` is the first declared name that repeats an earlier one of its scope.
abbrev pub IsDuplicate : Schema → Name → Type 0
IsDuplicate s n = (scope : ℕ) × IsFirstAgain [] (declared s) (scope, n)

-- The entity is a proper supertype of itself (ISO 10303-11, 9.2.3).
abbrev pub IsAboveItself : Schema → Name → Type 0
IsAboveItself s n = IsBelow s n n

-- The defined type is made of itself: by names and SELECTs, with no aggregate between
-- (ISO 10303-11, 8.3.2 and 8.4.2).
abbrev pub IsMadeOfItself : Schema → Name → Type 0
IsMadeOfItself s n = Leads (IsMadeOf s) (named n) (named n)

-- `n` is the first entity that is a proper supertype of itself.
abbrev pub IsOwnSupertype : Schema → Name → Type 0
IsOwnSupertype s n = IsFirst (IsAboveItself s) (map (λ (e : Entity). e.name) (entities s)) n

-- `n` is the first defined type that is made of itself.
abbrev pub IsOwnPart : Schema → Name → Type 0
IsOwnPart s n = IsFirst (IsMadeOfItself s) (map (λ (t : TypeDeclaration). t.name) (types s)) n

-- A fault shows first at this name, whatever the other faults.
abbrev pub ShowsAt : Schema → NameFault → Name → Type 0
ShowsAt s UnknownName = IsFirstUnknownName s
ShowsAt s DuplicateName = IsDuplicate s
ShowsAt s SupertypeCycle = IsOwnSupertype s
ShowsAt s TypeCycle = IsOwnPart s

-- The fault shows at no name.
abbrev pub IsFreeOf : Schema → NameFault → Type 0
IsFreeOf s f = Nowhere (ShowsAt s f)

-- The fault that is reported: the first of the four that shows, at its first name.
abbrev pub IsFault : Schema → NameFault → Name → Type 0
IsFault s UnknownName n = IsFirstUnknownName s n
IsFault s DuplicateName n = IsFreeOf s UnknownName × IsDuplicate s n
IsFault s SupertypeCycle n = IsFreeOf s UnknownName × IsFreeOf s DuplicateName × IsOwnSupertype s n
IsFault s TypeCycle n =
    IsFreeOf s UnknownName × IsFreeOf s DuplicateName × IsFreeOf s SupertypeCycle × IsOwnPart s n

-- The names are resolved: each is what its use requires, none is declared twice in its scope, and
-- no entity is a supertype of itself and no defined type is made of itself.
pub record IsResolved (s : Schema) : Type 0 where
  pub known : Every (IsMet s) (demands s)
  pub once : (x : Declared) → StandsTwice (declared s) x → ⊥
  pub no_supertype_cycle : Nowhere (IsAboveItself s)
  pub no_type_cycle : Nowhere (IsMadeOfItself s)
