-- The types that an expression may have, as a set (ISO 10303-11, 12).
use Rattle.std.specs.Prelude.{◌≡◌, ◌≢◌, Bool, false, List, [], ◌∷◌, ◌⊎◌}
use Rattle.express_syntax.specs.declared.expression.Function.{Function}
use Rattle.express_syntax.specs.declared.expression.Function.TheVariants as functions
use Rattle.express_syntax.specs.Trees.{Tree, Trees, Qualifiers, Root, Literal, literal, signed, reference, parenthesized, aggregate, interval, query, call, nvl, negation, conjunction, disjunction, comparison, none, one, plain, attribute, group, index, number, text, codes_of_text, bits, constant, indeterminate}
use Rattle.express_syntax.specs.Trees as trees
use Rattle.express_syntax.specs.Schemas.{Schema, DataType, enumeration}
use Rattle.express_syntax.specs.Schemas as schemas
use Rattle.schema_semantics.specs.Names.{Name, OneOf, Among, IsFirst, IsOrLeads, IsKindOf, StandsFor, IsEntity, Has, Renames}
use Rattle.schema_semantics.specs.Shapes.{Atom, value, instance, Sort, a_number, a_logical, a_string, a_binary, an_item, an_aggregate, IsOf}
use Rattle.schema_semantics.specs.Attributes.{MayHaveType, Derivation, Derives}

abbrev pub Set : Type 1
Set = Atom → Type 0

abbrev pub Empty : Set
Empty x = ⊥

abbrev pub Either : Set → Set → Set
Either M N x = M x ⊎ N x

-- The values of this sort that are of no SELECT.
abbrev pub Only : Sort → Set
Only t x = x ≡ value t false

-- The elements of the aggregates in a set.
abbrev pub Elements : Schema → Set → Set
Elements s M x = (k : DataType) × (w : Bool) × M (value (an_aggregate k) w) × IsOf s k x

-- The entities in a set, and their subtypes.
abbrev pub WithSubtypes : Schema → Set → Set
WithSubtypes s M (value x w) = ⊥
WithSubtypes s M (instance n) = (e : Name) × M (instance e) × IsKindOf s n e

-- A reference to the attribute with this name: of the entities in a set, or of one entity as in
-- `\entity.attribute` (ISO 10303-11, 12.7.3 and 12.7.4).
pub data AttributeReference : Type 1 where
  of_set : Set → Name → AttributeReference
  of_entity : Name → Name → AttributeReference

abbrev pub attribute_name : AttributeReference → Name
attribute_name (of_set M a) = a
attribute_name (of_entity e a) = a

-- The reference may mean the attribute that `p` declares. For a set, an entity in it has this
-- attribute. For one entity it is its own attribute, otherwise the only one that it inherits.
abbrev pub MayTake : Schema → AttributeReference → Name → Type 0
MayTake s (of_set M a) p = (e : Name) × M (instance e) × Has s e p a
MayTake s (of_entity e a) p =
    IsEntity s e × Has s e p a × ((p ≡ e) ⊎ ((q : Name) → Has s e q a → q ≡ p))

-- An entity in the set has two attributes with this name.
abbrev pub TakesTwo : Schema → AttributeReference → Type 0
TakesTwo s (of_set M a) =
    (e : Name) × (p : Name) × (q : Name) × M (instance e) × Has s e p a × Has s e q a × (p ≢ q)
TakesTwo s (of_entity e a) = ⊥

-- The reference means no attribute, or two of one entity.
abbrev pub IsUnclear : Schema → AttributeReference → Type 0
IsUnclear s q = ((p : Name) → MayTake s q p → ⊥) ⊎ TakesTwo s q

-- The derived attribute gives its value to an attribute that the reference may mean.
abbrev pub MayUse : Schema → Derivation → AttributeReference → Type 0
MayUse s d q = (p : Name) × MayTake s q p × Derives s p (attribute_name q) d

-- The types of the attributes that the reference may mean.
abbrev pub OfTaken : Schema → AttributeReference → Set
OfTaken s q x = (p : Name) × (k : DataType) × MayTake s q p × MayHaveType s p (attribute_name q) k × IsOf s k x

-- The attribute references that a reference goes through, and the types that it may have in the
-- end.
pub record Path : Type 1 where
  pub attributes : List AttributeReference
  pub may : Set

abbrev pub path_with_attribute : AttributeReference → Path → Path
path_with_attribute q t = record { attributes = q ∷ t.attributes; may = t.may }

-- The path of the qualifiers after an expression whose types are a set. `.attribute` applies to
-- subtypes too, and an index takes the elements (ISO 10303-11, 12.6.1 and 12.7).
abbrev pub path_behind : Schema → Set → Qualifiers → Path
path_behind s M plain = record { attributes = []; may = M }
path_behind s M (attribute a qs) =
    path_with_attribute (of_set (WithSubtypes s M) a) (path_behind s (OfTaken s (of_set (WithSubtypes s M) a)) qs)
path_behind s M (group e a qs) = path_with_attribute (of_entity e a) (path_behind s (OfTaken s (of_entity e a)) qs)
path_behind s M (index i qs) = path_behind s (Elements s M) qs

-- A variable of a QUERY, with the types that it may have (ISO 10303-11, 12.6.7).
pub record QueryVariable : Type 1 where
  pub name : Name
  pub may : Set

-- `n` is the name of a variable. Lists of variables begin with the innermost one.
abbrev pub IsVariable : List QueryVariable → Name → Type 0
IsVariable [] n = ⊥
IsVariable (v ∷ vs) n = (v.name ≡ n) ⊎ IsVariable vs n

-- The types of the innermost variable with this name.
abbrev pub OfVariable : List QueryVariable → Name → Set
OfVariable [] n x = ⊥
OfVariable (v ∷ vs) n x = ((v.name ≡ n) × v.may x) ⊎ ((v.name ≢ n) × OfVariable vs n x)

-- `n` is an item of the enumeration for which `t` stands, through any names (ISO 10303-11, 8.4.1).
abbrev pub IsItemOf : Schema → Name → Name → Type 0
IsItemOf s t n =
    (e : Name) × (items : List Name) × IsOrLeads (Renames s) (schemas.named t) (schemas.named e)
    × StandsFor s e (enumeration items) × Among n items

-- The types of a literal.
abbrev pub OfLiteral : Literal → Set
OfLiteral (number t) = Only a_number
OfLiteral (text t) = Only a_string
OfLiteral (codes_of_text t) = Only a_string
OfLiteral (bits t) = Only a_binary
OfLiteral (constant l) = Only a_logical
OfLiteral indeterminate = Empty

-- What the beginning of a reference means.
pub data Meaning : Type 0 where
  -- SELF
  itself : Meaning
  variable : Meaning
  attribute_of_self : Meaning
  -- `type.item`
  item_of_type : Meaning
  item : Meaning

-- A meaning that a reference may have; `self` are the types of SELF, `vs` the variables around the
-- reference. A bare name is a variable, an attribute of SELF (also if only a subtype has it), the
-- type in `type.item`, or an item of an enumeration (ISO 10303-11, 10.2 and 12.7.1).
abbrev pub MayMean : Schema → Set → List QueryVariable → Root → Qualifiers → Meaning → Type 0
MayMean s self vs trees.own qs itself = Unit {0}
MayMean s self vs (trees.named n) qs variable = IsVariable vs n
MayMean s self vs (trees.named n) qs attribute_of_self = (p : Name) × MayTake s (of_set (WithSubtypes s self) n) p
MayMean s self vs (trees.named n) (attribute i qs) item_of_type = IsItemOf s n i
MayMean s self vs (trees.named n) qs item = (t : Name) × IsItemOf s t n
MayMean s self vs r qs m = ⊥

-- The meaning of a reference: the first possible one, in this order.
abbrev pub Means : Schema → Set → List QueryVariable → Root → Qualifiers → Meaning → Type 0
Means s self vs r qs m =
    IsFirst (MayMean s self vs r qs) (itself ∷ variable ∷ attribute_of_self ∷ item_of_type ∷ item ∷ []) m

-- The path of a reference with this meaning. For an attribute of SELF it is that of `SELF.name`.
-- The first qualifier of `type.item` belongs to its meaning.
abbrev pub path : Schema → Set → List QueryVariable → Root → Qualifiers → Meaning → Path
path s self vs trees.own qs itself = path_behind s self qs
path s self vs (trees.named n) qs variable = path_behind s (OfVariable vs n) qs
path s self vs (trees.named n) qs attribute_of_self = path_behind s self (attribute n qs)
path s self vs (trees.named n) (attribute i qs) item_of_type = path_behind s (Only an_item) qs
path s self vs (trees.named n) qs item = path_behind s (Only an_item) qs
path s self vs r qs m = record { attributes = []; may = Empty }

-- The types of a reference.
abbrev pub OfReference : Schema → Set → List QueryVariable → Root → Qualifiers → Set
OfReference s self vs r qs x = (m : Meaning) × Means s self vs r qs m × (path s self vs r qs m).may x

-- The reference means nothing, or a name in it is unclear.
abbrev pub IsUnclearReference : Schema → Set → List QueryVariable → Root → Qualifiers → Type 0
IsUnclearReference s self vs r qs =
    ((m : Meaning) → MayMean s self vs r qs m → ⊥)
    ⊎ ((m : Meaning) × Means s self vs r qs m × OneOf (IsUnclear s) (path s self vs r qs m).attributes)

-- The value of the reference may depend on the derived attribute.
abbrev pub ReferenceMayUse : Schema → Set → Derivation → List QueryVariable → Root → Qualifiers → Type 0
ReferenceMayUse s self d vs r qs =
    (m : Meaning) × Means s self vs r qs m × OneOf (MayUse s d) (path s self vs r qs m).attributes

-- The types of a call of a built-in function (ISO 10303-11, 15). TYPEOF has a value only as the
-- right operand of IN.
abbrev pub OfCall : Function → Set
OfCall functions.Exists = Only a_logical
OfCall functions.Sizeof = Only a_number
OfCall functions.Hiindex = Only a_number
OfCall functions.Loindex = Only a_number
OfCall functions.Typeof = Empty

-- The aggregates in a set, as a QUERY makes them anew, so that they are of no SELECT
-- (ISO 10303-11, 12.6.7). If the set has no aggregates, there are none.
abbrev pub Aggregates : Set → Set
Aggregates M (value (an_aggregate k) false) = (w : Bool) × M (value (an_aggregate k) w)
Aggregates M x = ⊥

-- The types that an expression may have; `self` are the types of SELF, `vs` the variables around
-- the expression.
abbrev pub May : Schema → Set → List QueryVariable → Tree → Set
May s self vs (literal l) = OfLiteral l
May s self vs (signed sign n) = Only a_number
May s self vs (reference r qs) = OfReference s self vs r qs
May s self vs (parenthesized x) = May s self vs x
May s self vs (aggregate xs) = Empty
May s self vs (interval low above x below high) = Only a_logical
May s self vs (query v source condition) = Aggregates (May s self vs source)
May s self vs (call f x) = OfCall f
May s self vs (nvl x y) = Either (May s self vs x) (May s self vs y)
May s self vs (negation x) = Only a_logical
May s self vs (conjunction x xs) = Only a_logical
May s self vs (disjunction x xs) = Only a_logical
May s self vs (comparison x r y) = Only a_logical
