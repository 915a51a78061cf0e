-- What a schema declares, which entity is a subtype of which, and what defined types are made of
-- (ISO 10303-11, 8.3, 8.4 and 9.2).
use Rattle.std.specs.Prelude.{◌≡◌, ℕ, List, [], ◌∷◌, ◌++◌, Option, None, Some, map, ◌⊎◌, flat_map, Bool, false, cond, bytes_eq}
use Rattle.graphs.specs.Graphs.{Leads}
use Rattle.express_syntax.specs.Schemas.{Schema, Declaration, type, entity, skipped, TypeDeclaration, Entity, Attribute, own, redeclared, Explicit, Derived, Inverse, Underlying, select, data_type, DataType, named}

-- A name, in capitals.
abbrev pub Name : Type 0
Name = List ℕ

-- `P` holds of an element of the list.
abbrev pub OneOf {ℓ} : {A : Type ℓ} → (A → Type 0) → List A → Type 0
OneOf P [] = ⊥
OneOf P (x ∷ xs) = P x ⊎ OneOf P xs

-- `x` is in the list.
abbrev pub Among : {A : Type 0} → A → List A → Type 0
Among x xs = OneOf (λ y. y ≡ x) xs

-- `x` is the first element of the list for which `P` holds.
abbrev pub IsFirst : {A : Type 0} → (A → Type 0) → List A → A → Type 0
IsFirst P [] x = ⊥
IsFirst P (y ∷ ys) x = (P y × (y ≡ x)) ⊎ ((P y → ⊥) × IsFirst P ys x)

-- `a` is `b`, or steps of `S` lead from `a` to `b`: the reflexive and transitive closure.
abbrev pub IsOrLeads : {A : Type 0} → (A → A → Type 0) → A → A → Type 0
IsOrLeads S a b = (a ≡ b) ⊎ Leads S a b

-- `P` holds of no name.
abbrev pub Nowhere : (Name → Type 0) → Type 0
Nowhere P = (n : Name) → P n → ⊥

-- The elements that a clause lists; empty if the clause is absent.
abbrev pub listed : {A : Type 0} → Option (List A) → List A
listed None = []
listed (Some xs) = xs

abbrev pub entities_of : List Declaration → List Entity
entities_of [] = []
entities_of (type t ∷ ds) = entities_of ds
entities_of (entity e ∷ ds) = e ∷ entities_of ds
entities_of (skipped s ∷ ds) = entities_of ds

abbrev pub type_declarations_of : List Declaration → List TypeDeclaration
type_declarations_of [] = []
type_declarations_of (type t ∷ ds) = t ∷ type_declarations_of ds
type_declarations_of (entity e ∷ ds) = type_declarations_of ds
type_declarations_of (skipped s ∷ ds) = type_declarations_of ds

abbrev pub entities : Schema → List Entity
entities s = entities_of s.declarations

abbrev pub types : Schema → List TypeDeclaration
types s = type_declarations_of s.declarations

-- The name of a declared type or entity. Functions, rules and constants are neither.
abbrev pub declared_name : Declaration → Option Name
declared_name (type t) = Some t.name
declared_name (entity e) = Some e.name
declared_name (skipped p) = None

abbrev pub is_named : Name → Option Name → Bool
is_named n None = false
is_named n (Some m) = bytes_eq m n

-- A name stands for the first type or entity that has it (ISO 10303-11, 10.3).
abbrev pub declaration_of : List Declaration → Name → Option Declaration
declaration_of [] n = None
declaration_of (d ∷ ds) n = cond (is_named n (declared_name d)) (Some d) (declaration_of ds n)

-- `n` stands for the entity `e`.
abbrev pub IsEntityAt : Schema → Name → Entity → Type 0
IsEntityAt s n e = declaration_of s.declarations n ≡ Some (entity e)

-- `n` stands for the defined type `t`.
abbrev pub IsTypeAt : Schema → Name → TypeDeclaration → Type 0
IsTypeAt s n t = declaration_of s.declarations n ≡ Some (type t)

abbrev pub IsEntity : Schema → Name → Type 0
IsEntity s n = (e : Entity) × IsEntityAt s n e

abbrev pub IsType : Schema → Name → Type 0
IsType s n = (t : TypeDeclaration) × IsTypeAt s n t

-- `n` is a defined type with this underlying type (ISO 10303-11, 8.3).
abbrev pub StandsFor : Schema → Name → Underlying → Type 0
StandsFor s n u = (t : TypeDeclaration) × IsTypeAt s n t × (t.underlying ≡ u)

-- The names of the supertypes after SUBTYPE OF (ISO 10303-11, 9.2.3).
abbrev pub supertypes_of : Entity → List Name
supertypes_of e = listed e.subtype_of

-- `a` is declared as a subtype of `b`.
abbrev pub IsSubtypeOf : Schema → Name → Name → Type 0
IsSubtypeOf s a b = (e : Entity) × IsEntityAt s a e × Among b (supertypes_of e)

-- `b` is a proper supertype of `a`: the transitive closure (ISO 10303-11, 9.2.3.3).
abbrev pub IsBelow : Schema → Name → Name → Type 0
IsBelow s a b = Leads (IsSubtypeOf s) a b

-- `a` is `b` or a subtype of `b`: the reflexive and transitive closure.
abbrev pub IsKindOf : Schema → Name → Name → Type 0
IsKindOf s a b = IsOrLeads (IsSubtypeOf s) a b

-- The names of these attributes, without the redeclared ones (ISO 10303-11, 9.2.3.4).
abbrev pub own_names : List Attribute → List Name
own_names [] = []
own_names (own n ∷ more) = n ∷ own_names more
own_names (redeclared e n ∷ more) = own_names more

-- The names of the entity's own explicit attributes (ISO 10303-11, 9.2.1.1).
abbrev pub explicit_names : Entity → List Name
explicit_names e = flat_map (λ (x : Explicit). own_names x.attributes) e.explicits

-- The names of the entity's own derived attributes (ISO 10303-11, 9.2.1.2).
abbrev pub derived_names : Entity → List Name
derived_names e = own_names (map (λ (d : Derived). d.attribute) (listed e.derived))

-- The names of the entity's own inverse attributes (ISO 10303-11, 9.2.1.3).
abbrev pub inverse_names : Entity → List Name
inverse_names e = own_names (map (λ (i : Inverse). i.attribute) (listed e.inverses))

-- The names of the entity's own attributes: explicit, then derived, then inverse ones.
abbrev pub attribute_names : Entity → List Name
attribute_names e = explicit_names e ++ derived_names e ++ inverse_names e

-- The entity `p` itself declares the attribute `a`.
abbrev pub Declares : Schema → Name → Name → Type 0
Declares s p a = (e : Entity) × IsEntityAt s p e × Among a (attribute_names e)

abbrev pub DeclaresExplicit : Schema → Name → Name → Type 0
DeclaresExplicit s p a = (e : Entity) × IsEntityAt s p e × Among a (explicit_names e)

-- `e` has the attribute `a` that `p` declares: its own, or inherited from a supertype
-- (ISO 10303-11, 9.2.3.3).
abbrev pub Has : Schema → Name → Name → Name → Type 0
Has s e p a = IsKindOf s e p × Declares s p a

abbrev pub HasAttribute : Schema → Name → Name → Type 0
HasAttribute s e a = (p : Name) × Has s e p a

abbrev pub HasExplicit : Schema → Name → Name → Type 0
HasExplicit s e a = (p : Name) × IsKindOf s e p × DeclaresExplicit s p a

-- The first data type is the name of a defined type, and the second is its underlying data type
-- (ISO 10303-11, 8.3.2).
abbrev pub Renames : Schema → DataType → DataType → Type 0
Renames s (named a) k = StandsFor s a (data_type k)
Renames s k l = ⊥

-- The first data type is the name of a SELECT, and the second is one of its items
-- (ISO 10303-11, 8.4.2).
abbrev pub HasItem : Schema → DataType → DataType → Type 0
HasItem s (named a) (named b) = (items : List Name) × StandsFor s a (select items) × Among b items
HasItem s k l = ⊥

-- One step from the name of a defined type to what it is made of: its underlying data type or an
-- item. The elements of an aggregate don't count.
abbrev pub IsMadeOf : Schema → DataType → DataType → Type 0
IsMadeOf s k l = Renames s k l ⊎ HasItem s k l
