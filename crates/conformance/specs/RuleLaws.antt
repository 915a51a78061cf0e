-- The laws of inverse attributes, of uniqueness rules and of pins.
use Rattle.std.specs.Prelude.{◌≡◌, ⊤, ℕ, ◌<◌, ◌==◌, Bool, IsTrue, true, List, [], ◌∷◌, ◌++◌, map, length, count_by, Some, ◌⊎◌, ◌↔◌}
use Rattle.std.specs.List.{IsDistinct}
use Rattle.step_values.specs.Values.{Value, Values, AgreeEach}
use Rattle.step_values.specs.References.{EachReference, EachBagReference}
use Rattle.value_equality.specs.Rows.{Row, IsName, IsPopulation, BagsArePinned}
use Rattle.value_equality.specs.Images.{IsImage}
use Rattle.value_equality.specs.ValueEquality.{Keeps, IsValueEquality}
use Rattle.express_syntax.specs.Schemas.{Schema, Attribute}
use Rattle.express_syntax.specs.Profile.{Every}
use Rattle.schema_semantics.specs.Names.{OneOf, Among}
use Rattle.schema_semantics.specs.Faults.{IsResolved}
use Rattle.schema_semantics.specs.Attributes.{Place}
use Rattle.conformance.specs.Choices.{MergeOptions}
use Rattle.conformance.specs.Bases.{Domain}
use Rattle.conformance.specs.ParameterFits.{is_listed}
use Rattle.conformance.specs.Entities.{Entities}
use Rattle.conformance.specs.Populations.{Slot, Instance, types_at}
use Rattle.conformance.specs.SeparatingMaps.{Occurs}
use Rattle.conformance.specs.Images.{KeepsInstanceApart}
use Rattle.conformance.specs.Rules.{UniqueRule, InverseAttribute, Rules, UniquenessStatement, NamesPlace, IsUniqueRule, AreRules}
use Rattle.conformance.specs.Referrers.{times, references, holds, inverse_value, inverse_of}
use Rattle.conformance.specs.RuleFindings.{key, repeats, unique_findings, may_hold, inverse_findings}
use Rattle.conformance.specs.Pins.{IsInverseSide, StandTogether, IsPinnedElsewhere, IsWeaklyPinned, IsGentlyPinned, IsPlainlyPinned}

-- A schema whose names are resolved determines what breaks its rules and what is pinned. It has one
-- list of inverse attributes.
abbrev pub RulesAreOne : Type 0
RulesAreOne = (s : Schema) (d : Domain) (en : Entities) (p q : Rules) → IsResolved s → AreRules s d p → AreRules s d q
    → (is : List Instance)
    → (p.inverses ≡ q.inverses)
    × (unique_findings p is ≡ unique_findings q is) × (inverse_findings p is ≡ inverse_findings q is)
    × ((y : ℕ) (a : Place) → inverse_of p.inverses is y a ≡ inverse_of q.inverses is y a)
    × ((chosen : MergeOptions) (y : ℕ) → IsPinnedElsewhere s d en p chosen is y → IsPinnedElsewhere s d en q chosen is y)

-- Each name in a uniqueness rule that is checked means exactly one attribute, which is explicit.
abbrev pub CheckedNamesMeanOne : Type 0
CheckedNamesMeanOne = (s : Schema) (x : UniquenessStatement) (u : UniqueRule) → IsUniqueRule s x u → IsTrue u.is_checked
    → (a : Attribute) → Among a x.attributes → (((p : Place) → NamesPlace s x.entity a p → ⊥) → ⊥)
    × ((p q : Place) → NamesPlace s x.entity a p → NamesPlace s x.entity a q → p ≡ q)

abbrev pub names : List Instance → List ℕ
names is = map (λ (x : Instance). x.name) is

-- Each reference names an instance.
abbrev pub IsClosed : List Instance → Type 0
IsClosed is =
    Every (λ (i : Instance). Every (λ (x : Slot). EachReference (λ y. Among y (names is)) x.value) i.slots) is

-- A value refers to an instance exactly if the number of its references to the instance is
-- positive.
abbrev pub ReferencesAreCounted : Type 0
ReferencesAreCounted = (y : ℕ) (v : Value) → Occurs y v ↔ (0 < times y v)

-- If no two instances have the same name, the inverse attribute of `y` holds each instance that
-- refers as often as `holds` says.
abbrev pub ReferrersAreCounted : Type 0
ReferrersAreCounted = (is : List Instance) (i : InverseAttribute) (y : ℕ) → IsDistinct (◌==◌) (names is)
    → IsTrue (is_listed i.entity (types_at is y)) → (x : Instance) → Among x is → IsTrue (is_listed i.referrer x.types)
    → count_by (λ z. x.name == z) (inverse_value is i y) ≡ holds i.gathering (references x i.inverted y)

-- If no two instances have the same name, the instances on a side of an inverse attribute are those
-- that it holds, and those at which it holds one.
abbrev pub InverseSidesAreHeld : Type 0
InverseSidesAreHeld = (is : List Instance) (i : InverseAttribute) (y : ℕ) → IsDistinct (◌==◌) (names is)
    → IsInverseSide is y i ↔ ((z : ℕ) × (Among z (inverse_value is i y) ⊎ Among y (inverse_value is i z)))

-- Two instances have keys that agree value by value.
abbrev pub ShareKey : UniqueRule → Instance → Instance → Type 0
ShareKey u x z =
    (vs : Values) × (ws : Values) × (key u x ≡ Some vs) × (key u z ≡ Some ws) × AgreeEach (◌==◌) vs ws

-- An instance is reported as a repeat exactly if an earlier one has its key.
abbrev pub RepeatsComeLater : Type 0
RepeatsComeLater = (u : UniqueRule) (is : List Instance) (x : Instance)
    → Among x (repeats u [] is)
    ↔ ((before : List Instance) × (after : List Instance) × (is ≡ before ++ x ∷ after) × OneOf (ShareKey u x) before)

-- No instance shares its key with another in the list.
abbrev pub HaveUniqueKeys : UniqueRule → List Instance → Type 0
HaveUniqueKeys u [] = ⊤
HaveUniqueKeys u (x ∷ xs) = Every (λ z. ShareKey u z x → ⊥) xs × HaveUniqueKeys u xs

-- There is no finding of uniqueness rules exactly if the keys of each rule that is checked are
-- unique.
abbrev pub NoFindingExactlyWhereKeysAreUnique : Type 0
NoFindingExactlyWhereKeysAreUnique = (rules : Rules) (is : List Instance)
    → (unique_findings rules is ≡ [])
    ↔ Every (λ (u : UniqueRule). IsTrue u.is_checked → HaveUniqueKeys u is) rules.uniques

-- There is no finding of inverse attributes exactly if each inverse attribute of each instance
-- holds as many instances as it may.
abbrev pub NoFindingExactlyWhereBoundsHold : Type 0
NoFindingExactlyWhereBoundsHold = (rules : Rules) (is : List Instance)
    → (inverse_findings rules is ≡ [])
    ↔ Every (λ (x : Instance). Every (λ (i : InverseAttribute). IsTrue (is_listed i.entity x.types)
    → IsTrue (may_hold i.gathering (length (inverse_value is i x.name)))) rules.inverses) is

-- An instance that the weak rules pin is pinned by the gentle rules.
abbrev pub WeakPinsAreGentle : Type 0
WeakPinsAreGentle = (s : Schema) (d : Domain) (en : Entities) (rules : Rules) (chosen : MergeOptions) (is : List Instance)
    (E : ℕ → ℕ → Bool) (y : ℕ) → IsWeaklyPinned s d en rules chosen is y → IsGentlyPinned s d en rules chosen is E y

-- An instance that the gentle rules pin is pinned by the plain rules.
abbrev pub GentlePinsArePlain : Type 0
GentlePinsArePlain = (s : Schema) (d : Domain) (en : Entities) (rules : Rules) (chosen : MergeOptions) (is : List Instance)
    (E : ℕ → ℕ → Bool) (y : ℕ) → IsGentlyPinned s d en rules chosen is E y → IsPlainlyPinned s d en rules chosen is y

-- There is a test of weak pins, and a test of gentle pins for each relation of classes.
abbrev pub PinsHaveTests : Type 0
PinsHaveTests = (s : Schema) (d : Domain) (en : Entities) (rules : Rules) (chosen : MergeOptions) (is : List Instance)
    → ((weak : ℕ → Bool) × ((y : ℕ) → IsTrue (weak y) ↔ IsWeaklyPinned s d en rules chosen is y))
    × ((E : ℕ → ℕ → Bool) → (gentle : ℕ → Bool)
    × ((y : ℕ) → IsTrue (gentle y) ↔ IsGentlyPinned s d en rules chosen is E y))

-- If each reference names an instance, each name that the plain rules pin is that of an instance.
abbrev pub PinnedAreThere : Type 0
PinnedAreThere = (s : Schema) (d : Domain) (en : Entities) (rules : Rules) (chosen : MergeOptions) (is : List Instance)
    → IsClosed is → (y : ℕ) → IsPlainlyPinned s d en rules chosen is y → Among y (names is)

-- Each reference in a SET or BAG of more than one value names a pinned instance, if at least the weak
-- pins are pinned.
abbrev pub BagReferencesArePinned : Type 0
BagReferencesArePinned = (s : Schema) (d : Domain) (en : Entities) (rules : Rules) (chosen : MergeOptions)
    (is : List Instance) (pinned : ℕ → Bool)
    → ((y : ℕ) → IsWeaklyPinned s d en rules chosen is y → IsTrue (pinned y))
    → (i : Instance) → Among i is → (x : Slot) → Among x i.slots → EachBagReference (λ y. pinned y ≡ true) x.value

-- A relation that keeps under gentle pins, and that relates only instances of one class, relates no
-- two elements of a LIST or ARRAY OF UNIQUE.
abbrev pub ElementsAreToldApart : Type 0
ElementsAreToldApart = (s : Schema) (d : Domain) (en : Entities) (rules : Rules) (chosen : MergeOptions)
    (is : List Instance) (E R : ℕ → ℕ → Bool) (pinned : ℕ → Bool) (rows : List Row)
    → ((y : ℕ) → IsGentlyPinned s d en rules chosen is E y → IsTrue (pinned y))
    → Keeps rows pinned R → ((y z : ℕ) → R y z ≡ true → E y z ≡ true)
    → (y z : ℕ) → OneOf (StandTogether s d en y z) is → R y z ≡ true → y ≡ z

-- More pins relate fewer instances: what value equality relates under many pins, it relates under
-- fewer.
abbrev pub PinsPartClasses : Type 0
PinsPartClasses = (rows : List Row) (few many : ℕ → Bool) (E F : ℕ → ℕ → Bool) → IsPopulation rows
    → ((y : ℕ) → IsTrue (few y) → IsTrue (many y)) → IsValueEquality rows few E → IsValueEquality rows many F
    → (y z : ℕ) → F y z ≡ true → E y z ≡ true

-- If each reference in a bag of more than one value names a pinned instance, an image under many pins
-- maps two instances to one only if value equality under fewer pins relates them.
abbrev pub ImagesStayInClasses : Type 0
ImagesStayInClasses = (P Q : List Row) (few many : ℕ → Bool) (E : ℕ → ℕ → Bool) (h : ℕ → ℕ) → IsPopulation P
    → BagsArePinned P many → ((y : ℕ) → IsTrue (few y) → IsTrue (many y)) → IsImage P Q h many
    → IsValueEquality P few E → (y z : ℕ) → IsName P y → IsName P z → h y ≡ h z → E y z ≡ true

-- If the classes are those of value equality under weak pins, value equality under gentle pins
-- relates no two elements of a LIST or ARRAY OF UNIQUE.
abbrev pub ElementsAreNotMerged : Type 0
ElementsAreNotMerged = (s : Schema) (d : Domain) (en : Entities) (rules : Rules) (chosen : MergeOptions)
    (is : List Instance) (rows : List Row) (weak gentle : ℕ → Bool) (E F : ℕ → ℕ → Bool) → IsPopulation rows
    → ((y : ℕ) → IsTrue (weak y) → IsWeaklyPinned s d en rules chosen is y)
    → ((y : ℕ) → IsGentlyPinned s d en rules chosen is E y → IsTrue (gentle y))
    → IsValueEquality rows weak E → IsValueEquality rows gentle F
    → (y z : ℕ) → OneOf (StandTogether s d en y z) is → F y z ≡ true → y ≡ z

-- A map keeps the elements of SETs, and of what is OF UNIQUE, apart if it maps no other instance to
-- the image of a gently pinned one, and only instances of one class to the same image.
abbrev pub GentlePinsKeepApart : Type 0
GentlePinsKeepApart = (s : Schema) (d : Domain) (en : Entities) (rules : Rules) (chosen : MergeOptions)
    (is : List Instance) (E : ℕ → ℕ → Bool) (h : ℕ → ℕ) (pinned : ℕ → Bool)
    → ((y : ℕ) → IsGentlyPinned s d en rules chosen is E y → IsTrue (pinned y))
    → ((y z : ℕ) → Among y (names is) → Among z (names is) → IsTrue (pinned z) → h y ≡ h z → y ≡ z)
    → ((y z : ℕ) → Among y (names is) → Among z (names is) → h y ≡ h z → E y z ≡ true)
    → IsClosed is → (i : Instance) → Among i is → KeepsInstanceApart s d en h i
