-- The rules of a schema for a whole population: uniqueness rules and inverse attributes.
use Rattle.std.specs.Prelude.{◌≡◌, ⊤, ℕ, ◌+◌, ℤ, Bool, true, false, List, [], ◌∷◌, map, filter, flat_map, Option, ◌↔◌, IsTrue}
use Rattle.express_syntax.specs.Schemas as schemas
use Rattle.express_syntax.specs.Schemas.{Schema, Entity, Attribute, own, redeclared, Inverse, Unique, Collection}
use Rattle.schema_semantics.specs.declared.unchecked.Reason.{Reason}
use Rattle.schema_semantics.specs.Names.{Name, OneOf, Among, listed, entities, Has, Declares, DeclaresExplicit}
use Rattle.schema_semantics.specs.Attributes.{Place, IsInverted}
use Rattle.schema_semantics.specs.Parts.{label_of, UniqueHasReason}
use Rattle.conformance.specs.Bases.{Domain, lower_bound, upper_bound}

-- A uniqueness rule: no two instances of the entity have the same combination of values of these
-- attributes (ISO 10303-11, 9.2.2.1).
pub record UniqueRule : Type 0 where
  -- The entity that declares the rule.
  pub entity : Name
  pub label : Name
  -- The rule is checked; otherwise it has no findings.
  pub is_checked : Bool
  -- The explicit attributes that the rule names.
  pub places : List Place

-- How an inverse attribute holds the instances that refer: one instance, a SET of them, or a BAG of
-- them. A SET or BAG has a lower and an upper bound, if given and checked (ISO 10303-11, 9.2.1.3).
pub data Gathering : Type 0 where
  alone : Gathering
  in_set : Option ℤ → Option ℤ → Gathering
  in_bag : Option ℤ → Option ℤ → Gathering

-- An inverse attribute: its value is formed by the instances of the entity `referrer` that refer by
-- the explicit attribute `inverted`.
pub record InverseAttribute : Type 0 where
  -- The entity that declares the inverse attribute.
  pub entity : Name
  pub name : Name
  pub gathering : Gathering
  -- The entity whose instances refer, and the explicit attribute by which they refer.
  pub referrer : Name
  pub inverted : Place

-- The uniqueness rules and the inverse attributes of a schema, in the order of the text.
pub record Rules : Type 0 where
  pub uniques : List UniqueRule
  pub inverses : List InverseAttribute

-- A uniqueness rule as the schema states it: its entity, its label, and the attributes that it
-- names.
pub record UniquenessStatement : Type 0 where
  pub entity : Name
  pub label : Name
  pub attributes : List Attribute

-- The rules of a UNIQUE clause, numbered from `n`. A rule without a label has the label `?` and its
-- number.
abbrev pub statements_from : Name → ℕ → List Unique → List UniquenessStatement
statements_from e n [] = []
statements_from e n (u ∷ us) =
    record { entity = e; label = label_of n u.label; attributes = u.attributes } ∷ statements_from e (n + 1) us

-- The uniqueness rules of a schema as it states them, in the order of the text.
abbrev pub statements : Schema → List UniquenessStatement
statements s = flat_map (λ (e : Entity). statements_from e.name 1 (listed e.uniques)) (entities s)

-- A name in a uniqueness rule of `e` means the attribute `a` of `p`. A plain name means each
-- attribute with this name that `e` has. After `SELF\q` a name means the attribute that `q` itself
-- declares, otherwise each that `q` inherits. In a rule that is checked each name means one
-- attribute, and `q` is `e` or a supertype of `e`.
abbrev pub MeansAttribute : Schema → Name → Attribute → Name → Name → Type 0
MeansAttribute s e (own n) p a = (n ≡ a) × Has s e p a
MeansAttribute s e (redeclared q n) p a = (n ≡ a) × Has s q p a × (Declares s q a → p ≡ q)

-- A name in a uniqueness rule of `e` means the attribute `a` of `p`, which is explicit.
abbrev pub NamesPlace : Schema → Name → Attribute → Place → Type 0
NamesPlace s e x (p, a) = MeansAttribute s e x p a × DeclaresExplicit s p a

-- `u` is the meaning of the uniqueness rule `x`. The rule is checked if each of its names means one
-- attribute that is explicit. Whether or not it is checked, its attributes are all explicit ones
-- that its names mean.
pub record IsUniqueRule (s : Schema) (x : UniquenessStatement) (u : UniqueRule) : Type 0 where
  pub entity : u.entity ≡ x.entity
  pub label : u.label ≡ x.label
  pub checked : IsTrue u.is_checked ↔ ((r : Reason) → UniqueHasReason s x.entity x.attributes r → ⊥)
  pub places : (p : Place) → Among p u.places ↔ OneOf (λ (a : Attribute). NamesPlace s x.entity a p) x.attributes

abbrev pub is_own : Attribute → Bool
is_own (own a) = true
is_own (redeclared q a) = false

-- The inverse attributes of a schema, each with the entity that declares it. Redeclarations are
-- left out: the first declaration applies (ISO 10303-11, 9.2.3.4).
abbrev pub declared_inverses : Schema → List (Name × Inverse)
declared_inverses s =
    flat_map (λ (e : Entity). map (λ (i : Inverse). (e.name, i)) (filter (λ (i : Inverse). is_own i.attribute)
    (listed e.inverses))) (entities s)

abbrev pub gathering_of : Domain → Collection → Gathering
gathering_of d schemas.alone = alone
gathering_of d (schemas.in_set b) = in_set (lower_bound d b) (upper_bound d b)
gathering_of d (schemas.in_bag b) = in_bag (lower_bound d b) (upper_bound d b)

-- `i` is the meaning of the inverse attribute `x`. It inverts the nearest explicit attribute with
-- the name that follows FOR.
pub record IsInverseAttribute (s : Schema) (d : Domain) (x : Name × Inverse) (i : InverseAttribute) : Type 0 where
  pub entity : i.entity ≡ x.0
  pub name : x.1.attribute ≡ own i.name
  pub gathering : i.gathering ≡ gathering_of d x.1.collection
  pub referrer : i.referrer ≡ x.1.entity
  pub holder : IsInverted s x.1 i.inverted.0
  pub attribute : i.inverted.1 ≡ x.1.inverted

-- The lists are equally long, and `R` holds of the elements at each position.
abbrev pub InTurn : {A B : Type 0} → (A → B → Type 0) → List A → List B → Type 0
InTurn R [] [] = ⊤
InTurn R (x ∷ xs) (y ∷ ys) = R x y × InTurn R xs ys
InTurn R xs ys = ⊥

-- `rules` are the uniqueness rules and the inverse attributes of the schema.
pub record AreRules (s : Schema) (d : Domain) (rules : Rules) : Type 0 where
  pub uniques : InTurn (IsUniqueRule s) (statements s) rules.uniques
  pub inverses : InTurn (IsInverseAttribute s d) (declared_inverses s) rules.inverses
