-- The laws of the meaning of attributes, expressions and domain rules, and of what images keep of
-- it.
use Rattle.std.specs.Prelude.{◌≡◌, ◌≢◌, ◌↔◌, ℕ, suc, ◌<◌, ◌==◌, nat_lt, pos, ◌^◌, Bool, false, IsTrue, List, [], map, Option, None, Some, bytes_eq, if◌then◌else◌}
use Rattle.std.specs.List.{IsDistinct}
use Rattle.step_structures.specs.Trees.{ExchangeRow, File, rows_of}
use Rattle.express_syntax.specs.declared.expression.Logical.{Logical}
use Rattle.express_syntax.specs.declared.expression.Logical.TheVariants.{False, Unknown, True}
use Rattle.express_syntax.specs.Trees.{Tree}
use Rattle.express_syntax.specs.Schemas.{Schema}
use Rattle.express_syntax.specs.Profile.{Every}
use Rattle.schema_semantics.specs.Names.{OneOf, Among}
use Rattle.schema_semantics.specs.Attributes.{Derivation}
use Rattle.schema_semantics.specs.Faults.{IsResolved}
use Rattle.conformance.specs.Choices.{MergeOptions}
use Rattle.conformance.specs.Bases.{Domain}
use Rattle.conformance.specs.Entities.{Entities, AreEntities, records, named_entity, unknown_entities}
use Rattle.conformance.specs.Populations.{Instance, population_of, instance_at}
use Rattle.conformance.specs.Conforming.{PopulationConforms}
use Rattle.conformance.specs.Rules.{UniqueRule, InverseAttribute, Rules}
use Rattle.conformance.specs.RuleFindings.{unique_findings, inverse_findings}
use Rattle.conformance.specs.Pins.{IsInKey, IsInverseSide, IsPinnedElsewhere}
use Rattle.conformance.specs.RuleLaws.{names, IsClosed}
use Rattle.express_logic.specs.Literals.{whole_units}
use Rattle.express_logic.specs.Data.{list, Datum, indeterminate, number, instance, aggregate, Data}
use Rattle.express_logic.specs.Holdings.{element_at}
use Rattle.conformance.specs.Operations.{says, indexed}
use Rattle.conformance.specs.Expressions.{or_this, means}
use Rattle.conformance.specs.Attributes.{Formula, Attributes, AreAttributes}
use Rattle.conformance.specs.Meanings.{setting, derived_value, meaning}
use Rattle.conformance.specs.DomainRules.{DomainRule, AreDomainRules}
use Rattle.conformance.specs.DomainFindings.{selves, outcome, rule_findings}
use Rattle.conformance.specs.AlikeValues.{Alike}
use Rattle.conformance.specs.MeaningImages.{IsInstanceName, HasPlacesOnce, LeadsBy, IsLedTo, ReferrersAreLed, IsKept}

-- A schema whose names are resolved determines the meaning of its attributes, whatever the
-- population.
abbrev pub AttributesAreOne : Type 0
AttributesAreOne = (s : Schema) (inverses : List InverseAttribute) → IsResolved s → (a b : Attributes)
    → AreAttributes s inverses a → AreAttributes s inverses b → a ≡ b

-- A schema has one list of domain rules that are checked.
abbrev pub DomainRulesAreOne : Type 0
DomainRulesAreOne = (s : Schema) (ps qs : List DomainRule) → AreDomainRules s ps → AreDomainRules s qs → ps ≡ qs

-- Each reference of a population that conforms names an instance.
abbrev pub ConformingAreClosed : Type 0
ConformingAreClosed = (s : Schema) (d : Domain) (en : Entities) → AreEntities s en → (is : List Instance)
    → PopulationConforms s d en is → IsClosed is

-- The keywords of an instance are entities, and no two of them are equal.
abbrev pub HasDistinctEntities : Schema → Entities → ExchangeRow → Type 0
HasDistinctEntities s en r = (unknown_entities s en r.form ≡ 0) × IsDistinct bytes_eq (map named_entity (records r.form))

-- If the keywords of each instance of a file are distinct entities, no instance has two values for
-- one attribute.
abbrev pub FilesHavePlacesOnce : Type 0
FilesHavePlacesOnce = (s : Schema) (d : Domain) (en : Entities) → IsResolved s → AreEntities s en → (f : File)
    → Every (HasDistinctEntities s en) (rows_of f.sections) → Every HasPlacesOnce (population_of s d en f)

-- Each instance of `js` is the image of one of `is`.
abbrev pub IsOnto : List Instance → List Instance → (ℕ → ℕ) → Type 0
IsOnto is js h =
    (z : Instance) → Among z js
    → (y : ℕ) × (x : Instance) × (instance_at is y ≡ Some x) × (instance_at js (h y) ≡ Some z)

-- If `z` is on a side of one of these inverse attributes, `h` maps no other instance to the image
-- of `z`.
abbrev pub TellsSidesApart : List InverseAttribute → List Instance → (ℕ → ℕ) → Type 0
TellsSidesApart inverses is h =
    (y z : ℕ) → IsInstanceName is y → OneOf (IsInverseSide is z) inverses → h y ≡ h z → y ≡ z

-- A map that distinguishes the instances on the sides of inverse attributes maps the values of
-- these attributes.
abbrev pub InverseValuesAreLed : Type 0
InverseValuesAreLed = (inverses : List InverseAttribute) (is js : List Instance) (h : ℕ → ℕ)
    → IsDistinct (◌==◌) (names is) → IsDistinct (◌==◌) (names js) → IsLedTo is js h → IsOnto is js h
    → TellsSidesApart inverses is h → ReferrersAreLed inverses is js h

-- If one of these uniqueness rules concerns `z`, `h` maps no other instance to the image of `z`.
abbrev pub TellsKeysApart : List UniqueRule → List Instance → (ℕ → ℕ) → Type 0
TellsKeysApart uniques is h =
    (y z : ℕ) → IsInstanceName is y → OneOf (IsInKey is z) uniques → h y ≡ h z → y ≡ z

-- If a map distinguishes the instances that uniqueness rules concern, and no instance breaks such a
-- rule, then no instance of the image breaks one.
abbrev pub KeysStayUnique : Type 0
KeysStayUnique = (rules : Rules) (is js : List Instance) (h : ℕ → ℕ) → IsDistinct (◌==◌) (names js)
    → IsLedTo is js h → IsOnto is js h → TellsKeysApart rules.uniques is h
    → unique_findings rules is ≡ [] → unique_findings rules js ≡ []

-- If a map maps the values of inverse attributes too, and no instance breaks their bounds, then no
-- instance of the image breaks them.
abbrev pub InverseBoundsStay : Type 0
InverseBoundsStay = (rules : Rules) (is js : List Instance) (h : ℕ → ℕ) → IsKept rules.inverses is js h
    → IsOnto is js h → inverse_findings rules is ≡ [] → inverse_findings rules js ≡ []

-- A map that maps no other instance to the image of a pinned one distinguishes the instances on the
-- sides of inverse attributes, and those that uniqueness rules concern. More instances may be
-- pinned than the rules require.
abbrev pub PinsTellApart : Type 0
PinsTellApart = (s : Schema) (d : Domain) (en : Entities) (rules : Rules) (chosen : MergeOptions) (is : List Instance)
    (h : ℕ → ℕ) (pinned : ℕ → Bool) → IsClosed is
    → ((y : ℕ) → IsPinnedElsewhere s d en rules chosen is y → IsTrue (pinned y))
    → ((y z : ℕ) → Among y (names is) → Among z (names is) → IsTrue (pinned z) → h y ≡ h z → y ≡ z)
    → TellsSidesApart rules.inverses is h × TellsKeysApart rules.uniques is h

-- In an image an expression has its former value, with references mapped.
abbrev pub ImagesKeepMeanings : Type 0
ImagesKeepMeanings = (s : Schema) (d : Domain) (en : Entities) (inverses : List InverseAttribute)
    (attributes : Attributes) → AreAttributes s inverses attributes
    → (is js : List Instance) (h : ℕ → ℕ) → IsKept inverses is js h
    → (me you : Datum) → Alike (LeadsBy is h) me you → (x : Tree)
    → Alike (LeadsBy is h) (meaning s d en attributes is me x) (meaning s d en attributes js you x)

-- A domain rule has the same outcome at an instance and at its image.
abbrev pub ImagesKeepRules : Type 0
ImagesKeepRules = (s : Schema) (d : Domain) (en : Entities) (inverses : List InverseAttribute)
    (attributes : Attributes) → AreAttributes s inverses attributes
    → (is js : List Instance) (h : ℕ → ℕ) → IsKept inverses is js h
    → (y : ℕ) (x z : Instance) → instance_at is y ≡ Some x → instance_at js (h y) ≡ Some z → (r : DomainRule)
    → outcome s d en attributes is x r ≡ outcome s d en attributes js z r

-- If no instance breaks a domain rule, no instance of an image breaks one.
abbrev pub NoBreachInImages : Type 0
NoBreachInImages = (s : Schema) (d : Domain) (en : Entities) (inverses : List InverseAttribute)
    (attributes : Attributes) → AreAttributes s inverses attributes
    → (rules : List DomainRule) (is js : List Instance) (h : ℕ → ℕ) → IsKept inverses is js h → IsOnto is js h
    → rule_findings s d en attributes is rules ≡ [] → rule_findings s d en attributes js rules ≡ []

-- If no instance breaks a uniqueness rule, an inverse attribute's bounds or a domain rule, then no
-- instance of an image that respects pins breaks one.
abbrev pub ImagesBreakNoRule : Type 0
ImagesBreakNoRule = (s : Schema) (d : Domain) (en : Entities) (rules : Rules) (chosen : MergeOptions)
    (attributes : Attributes) → AreAttributes s rules.inverses attributes → (domain_rules : List DomainRule)
    (is js : List Instance) (h : ℕ → ℕ) (pinned : ℕ → Bool)
    → IsDistinct (◌==◌) (names is) → IsDistinct (◌==◌) (names js) → IsLedTo is js h → IsOnto is js h
    → ((y : ℕ) → IsPinnedElsewhere s d en rules chosen is y → IsTrue (pinned y))
    → ((y z : ℕ) → Among y (names is) → Among z (names is) → IsTrue (pinned z) → h y ≡ h z → y ≡ z)
    → unique_findings rules is ≡ [] → inverse_findings rules is ≡ []
    → rule_findings s d en attributes is domain_rules ≡ []
    → (unique_findings rules js ≡ []) × (inverse_findings rules js ≡ [])
    × (rule_findings s d en attributes js domain_rules ≡ [])

-- `self` is one of the values of SELF for which the rule is evaluated at the instance, and the rule
-- is `p` for it.
abbrev pub SaysOf : Schema → Domain → Entities → Attributes → List Instance → Instance → DomainRule → Datum → Logical
    → Type 0
SaysOf s d en attributes is x r self p =
    Among self (selves s d en attributes x r.holder) × (says (meaning s d en attributes is self r.condition) ≡ p)

-- At an instance a rule is
-- - FALSE exactly if it is FALSE for one of the values of SELF;
-- - UNKNOWN exactly if it is FALSE for none of them and isn't TRUE for one;
-- - TRUE exactly if it is TRUE for all of them.
abbrev pub OutcomesAreLeast : Type 0
OutcomesAreLeast = (s : Schema) (d : Domain) (en : Entities) (attributes : Attributes) (is : List Instance)
    (x : Instance) (r : DomainRule)
    → ((outcome s d en attributes is x r ≡ False) ↔ ((self : Datum) × SaysOf s d en attributes is x r self False))
    × ((outcome s d en attributes is x r ≡ Unknown)
    ↔ (((self : Datum) → SaysOf s d en attributes is x r self False → ⊥)
    × ((self : Datum) × (p : Logical) × SaysOf s d en attributes is x r self p × (p ≢ True))))
    × ((outcome s d en attributes is x r ≡ True)
    ↔ ((self : Datum) (p : Logical) → SaysOf s d en attributes is x r self p → p ≡ True))

-- There is no finding of domain rules exactly if no rule is FALSE at an instance.
abbrev pub NoFindingExactlyWhereNoRuleIsFalse : Type 0
NoFindingExactlyWhereNoRuleIsFalse = (s : Schema) (d : Domain) (en : Entities) (attributes : Attributes)
    (is : List Instance) (rules : List DomainRule)
    → (rule_findings s d en attributes is rules ≡ [])
    ↔ ((x : Instance) → Among x is → (r : DomainRule) → Among r rules → outcome s d en attributes is x r ≢ False)

-- The formula exists, and its rank is below `n`.
abbrev pub is_below : ℕ → Option Formula → Bool
is_below n None = false
is_below n (Some f) = nat_lt f.rank n

-- The values of the derived attributes with a rank below `n`; all others are indeterminate.
abbrev pub lesser_values : Schema → Domain → Entities → Attributes → List Instance → ℕ → ℕ → Derivation → Datum
lesser_values s d en attributes is n y e =
    if is_below n (attributes.formula e) then derived_value s d en attributes is y e else indeterminate

-- At an instance a derived attribute that isn't set aside has the value of its expression, with the
-- instance for SELF. In that expression the derived attributes of lesser rank have their values,
-- and all others are indeterminate.
abbrev pub DerivedAreTheirExpressions : Type 0
DerivedAreTheirExpressions = (s : Schema) (d : Domain) (en : Entities) (attributes : Attributes) (is : List Instance)
    (e : Derivation) (f : Formula) → attributes.formula e ≡ Some f → (y : ℕ)
    → derived_value s d en attributes is y e
    ≡ means (setting s d en attributes is (lesser_values s d en attributes is f.rank)) [] (instance y) f.expression

-- Indexing a LIST gives the element at that position, counted from 1, if any, otherwise
-- indeterminate.
abbrev pub ElementsOfListsAreInOrder : Type 0
ElementsOfListsAreInOrder = (ds : Data) (i : ℕ) → suc i < 2 ^ 63
    → indexed (aggregate list ds) (number (whole_units (pos (suc i)))) ≡ or_this (element_at i ds) indeterminate
