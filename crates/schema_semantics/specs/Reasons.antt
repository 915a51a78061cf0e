-- Why a rule or a derived attribute isn't checked, by the types that its expressions may have
-- (ISO 10303-11, 12).
use Rattle.std.specs.Prelude.{◌≡◌, ℕ, Bool, true, false, List, [], ◌∷◌, ◌++◌, map, ◌⊎◌}
use Rattle.step_literals.specs.declared.literal.items.Item.TheVariants.{Code}
use Rattle.express_lexer.specs.Meanings.{simple_text, characters_of, encoded_text, codes_of}
use Rattle.express_syntax.specs.declared.expression.Function.TheVariants as functions
use Rattle.express_syntax.specs.declared.expression.Relation.TheVariants as relations
use Rattle.express_syntax.specs.Trees.{Tree, Trees, Alternatives, Qualifiers, Root, Literal, literal, signed, reference, parenthesized, aggregate, interval, query, call, nvl, negation, conjunction, disjunction, comparison, none, one, finish, another, plain, attribute, group, index, text, codes_of_text}
use Rattle.express_syntax.specs.Schemas.{Schema, DataType, named, Body, parsed, set_aside}
use Rattle.schema_semantics.specs.declared.unchecked.Reason.{Reason}
use Rattle.schema_semantics.specs.declared.unchecked.Reason.TheVariants as reasons
use Rattle.schema_semantics.specs.Names.{Name, IsEntity, IsType}
use Rattle.schema_semantics.specs.Shapes.{value, instance, Sort, a_string, a_binary, an_item, an_aggregate, IsOverSelect}
use Rattle.schema_semantics.specs.Attributes.{Derivation}
use Rattle.schema_semantics.specs.Sets.{Set, Empty, Either, Elements, QueryVariable, IsUnclearReference, ReferenceMayUse, May}

-- The types of these expressions together.
abbrev pub OfTrees : Schema → Set → List QueryVariable → Trees → Set
OfTrees s self vs none = Empty
OfTrees s self vs (one x xs) = Either (May s self vs x) (OfTrees s self vs xs)

-- The types of the elements of the right operand of IN (ISO 10303-11, 12.2.3).
abbrev pub ElementsOf : Schema → Set → List QueryVariable → Tree → Set
ElementsOf s self vs (aggregate xs) = OfTrees s self vs xs
ElementsOf s self vs (parenthesized x) = ElementsOf s self vs x
ElementsOf s self vs y = Elements s (May s self vs y)

-- The variable of a QUERY has the types of the elements of its source.
abbrev pub bound_to : Schema → Set → List QueryVariable → Name → Tree → QueryVariable
bound_to s self vs v source = record { name = v; may = Elements s (May s self vs source) }

-- Some part of an expression is at fault. `Here` says so of a part, with the variables around it
-- and whether it is the right operand of IN. `AtPath` says so of a reference.
module _ (s : Schema) (self : Set) (Here : Bool → List QueryVariable → Tree → Type 0)
    (AtPath : List QueryVariable → Root → Qualifiers → Type 0) where
  abbrev mutual
    pub Somewhere : Bool → List QueryVariable → Tree → Type 0
    Somewhere w vs (literal l) = Here w vs (literal l)
    Somewhere w vs (signed sign n) = Here w vs (signed sign n)
    Somewhere w vs (reference r qs) = AtPath vs r qs ⊎ InIndices vs qs
    Somewhere w vs (parenthesized x) = Somewhere w vs x
    Somewhere w vs (aggregate xs) = Here w vs (aggregate xs) ⊎ InTrees vs xs
    Somewhere w vs (interval low above x below high) =
        Here w vs (interval low above x below high)
        ⊎ (Somewhere false vs low ⊎ (Somewhere false vs x ⊎ Somewhere false vs high))
    Somewhere w vs (query v source condition) =
        Somewhere false vs source ⊎ Somewhere false (bound_to s self vs v source ∷ vs) condition
    Somewhere w vs (call f x) = Here w vs (call f x) ⊎ Somewhere false vs x
    Somewhere w vs (nvl x y) = Somewhere false vs x ⊎ Somewhere false vs y
    Somewhere w vs (negation x) = Somewhere false vs x
    Somewhere w vs (conjunction x xs) = Somewhere false vs x ⊎ InTrees vs xs
    Somewhere w vs (disjunction x xs) = Somewhere false vs x ⊎ InAlternatives vs xs
    Somewhere w vs (comparison x relations.In y) =
        Here w vs (comparison x relations.In y) ⊎ (Somewhere false vs x ⊎ Somewhere true vs y)
    Somewhere w vs (comparison x r y) =
        Here w vs (comparison x r y) ⊎ (Somewhere false vs x ⊎ Somewhere false vs y)

    pub InTrees : List QueryVariable → Trees → Type 0
    InTrees vs none = ⊥
    InTrees vs (one x xs) = Somewhere false vs x ⊎ InTrees vs xs

    pub InAlternatives : List QueryVariable → Alternatives → Type 0
    InAlternatives vs finish = ⊥
    InAlternatives vs (another j x xs) = Somewhere false vs x ⊎ InAlternatives vs xs

    pub InIndices : List QueryVariable → Qualifiers → Type 0
    InIndices vs plain = ⊥
    InIndices vs (attribute a qs) = InIndices vs qs
    InIndices vs (group e a qs) = InIndices vs qs
    InIndices vs (index i qs) = Somewhere false vs i ⊎ InIndices vs qs

abbrev pub NoTree : Bool → List QueryVariable → Tree → Type 0
NoTree w vs x = ⊥

abbrev pub NoPath : List QueryVariable → Root → Qualifiers → Type 0
NoPath vs r qs = ⊥

-- `[..]` that isn't the right operand of IN.
abbrev pub IsLooseAggregate : Bool → List QueryVariable → Tree → Type 0
IsLooseAggregate false vs (aggregate xs) = Unit {0}
IsLooseAggregate w vs x = ⊥

-- The literal is the string of these characters, plain or encoded (ISO 10303-11, 7.5.5).
abbrev pub IsString : Literal → List ℕ → Type 0
IsString (text t) cs = (content : List ℕ) × (t ≡ simple_text content) × (characters_of content ≡ map Code cs)
IsString (codes_of_text t) cs = (digits : List ℕ) × (t ≡ encoded_text digits) × (codes_of digits ≡ map Code cs)
IsString l cs = ⊥

-- The expression is the string `SCHEMA.NAME`, in capitals, in parentheses or not
-- (ISO 10303-11, 15.25).
abbrev pub SaysName : Schema → Tree → Name → Type 0
SaysName s (literal l) n = IsString l (s.name ++ 46 ∷ n)
SaysName s (parenthesized x) n = SaysName s x n
SaysName s x n = ⊥

-- The set has a value that is neither an instance nor of a SELECT.
abbrev pub HasBareValue : Set → Type 0
HasBareValue M = (x : Sort) × M (value x false)

-- `x IN TYPEOF(y)` has a known value. `x` names an entity; or it names a defined type that isn't
-- over a SELECT, and each value of `y` is an instance or of a SELECT, so that its type is known.
abbrev pub IsTypeTest : Schema → Set → List QueryVariable → Tree → Tree → Type 0
IsTypeTest s self vs x y =
    (n : Name) × SaysName s x n
    × (IsEntity s n ⊎ (IsType s n × (IsOverSelect s (named n) → ⊥) × (HasBareValue (May s self vs y) → ⊥)))

-- The right operand of IN is `TYPEOF(y)`, and `x IN TYPEOF(y)` has no known value.
abbrev pub IsBadTypeTest : Schema → Set → List QueryVariable → Tree → Tree → Type 0
IsBadTypeTest s self vs x (call functions.Typeof y) = IsTypeTest s self vs x y → ⊥
IsBadTypeTest s self vs x (parenthesized y) = IsBadTypeTest s self vs x y
IsBadTypeTest s self vs x y = ⊥

-- TYPEOF isn't the right operand of IN, or the value of `x IN TYPEOF(y)` isn't known.
abbrev pub IsBadTypeof : Schema → Set → Bool → List QueryVariable → Tree → Type 0
IsBadTypeof s self false vs (call functions.Typeof x) = Unit {0}
IsBadTypeof s self w vs (comparison x relations.In y) = IsBadTypeTest s self vs x y
IsBadTypeof s self w vs x = ⊥

-- The set has instances or aggregates, which aren't compared by value (ISO 10303-11, 12.2.1 and
-- 12.2.2).
abbrev pub MayBeDeep : Set → Type 0
MayBeDeep M = ((e : Name) × M (instance e)) ⊎ ((k : DataType) × (w : Bool) × M (value (an_aggregate k) w))

-- The sort is that of strings, binaries or items of enumerations, which aren't ordered.
abbrev pub IsUnordered : Sort → Type 0
IsUnordered a_string = Unit {0}
IsUnordered a_binary = Unit {0}
IsUnordered an_item = Unit {0}
IsUnordered x = ⊥

abbrev pub MayBeUnordered : Set → Type 0
MayBeUnordered M = (x : Sort) × (w : Bool) × IsUnordered x × M (value x w)

abbrev pub BothDeep : Set → Set → Type 0
BothDeep M N = MayBeDeep M × MayBeDeep N

-- The operator compares two values that may be instances or aggregates, or orders values that may
-- have no order.
abbrev pub IsBadKind : Schema → Set → Bool → List QueryVariable → Tree → Type 0
IsBadKind s self w vs (comparison x relations.Equal y) = BothDeep (May s self vs x) (May s self vs y)
IsBadKind s self w vs (comparison x relations.NotEqual y) = BothDeep (May s self vs x) (May s self vs y)
IsBadKind s self w vs (comparison x relations.In y) = BothDeep (May s self vs x) (ElementsOf s self vs y)
IsBadKind s self w vs (comparison x r y) = MayBeUnordered (May s self vs x) ⊎ MayBeUnordered (May s self vs y)
IsBadKind s self w vs (interval low above x below high) =
    MayBeUnordered (May s self vs low) ⊎ (MayBeUnordered (May s self vs x) ⊎ MayBeUnordered (May s self vs high))
IsBadKind s self w vs x = ⊥

abbrev pub HasLooseAggregate : Schema → Set → Tree → Type 0
HasLooseAggregate s self x = Somewhere s self IsLooseAggregate NoPath false [] x

abbrev pub HasUnclearName : Schema → Set → Tree → Type 0
HasUnclearName s self x = Somewhere s self NoTree (IsUnclearReference s self) false [] x

abbrev pub HasBadTypeof : Schema → Set → Tree → Type 0
HasBadTypeof s self x = Somewhere s self (IsBadTypeof s self) NoPath false [] x

abbrev pub HasBadKind : Schema → Set → Tree → Type 0
HasBadKind s self x = Somewhere s self (IsBadKind s self) NoPath false [] x

-- The value of the body may depend on this derived attribute.
abbrev pub BodyMayUse : Schema → Set → Body → Derivation → Type 0
BodyMayUse s self (parsed x) d = Somewhere s self NoTree (ReferenceMayUse s self d) false [] x
BodyMayUse s self (set_aside r) d = ⊥

-- The body itself gives this reason not to be checked.
abbrev pub GivesReason : Schema → Set → Body → Reason → Type 0
GivesReason s self (set_aside r) reasons.Profile = Unit {0}
GivesReason s self (parsed x) reasons.Profile = HasLooseAggregate s self x
GivesReason s self (parsed x) reasons.Name = HasUnclearName s self x
GivesReason s self (parsed x) reasons.Typeof = HasBadTypeof s self x
GivesReason s self (parsed x) reasons.Kind = HasBadKind s self x
GivesReason s self b r = ⊥
