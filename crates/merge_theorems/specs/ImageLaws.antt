-- Laws of typed populations whose rows are mapped.
use Rattle.std.specs.Prelude.{◌≡◌, ℕ, Bool, IsTrue, List, []}
use Rattle.step_structures.specs.Trees.{File, rows_of}
use Rattle.step_structures.specs.Fits.{the_rules, FitsFile}
use Rattle.value_equality.specs.Rows.{Row}
use Rattle.value_equality.specs.ValueEquality.{IsValueEquality}
use Rattle.express_syntax.specs.Schemas.{Schema}
use Rattle.express_syntax.specs.Profile.{Every}
use Rattle.schema_semantics.specs.Names.{Among}
use Rattle.schema_semantics.specs.Names.{Name}
use Rattle.conformance.specs.Choices.{MergeOptions}
use Rattle.conformance.specs.Bases.{Domain}
use Rattle.conformance.specs.Entities.{Entities}
use Rattle.conformance.specs.Findings.{findings}
use Rattle.conformance.specs.Populations.{Instance, population_of}
use Rattle.conformance.specs.Conforming.{PopulationConforms}
use Rattle.conformance.specs.PopulationLaws.{AreOf}
use Rattle.conformance.specs.Rules.{Rules}
use Rattle.conformance.specs.RuleFindings.{unique_findings, inverse_findings}
use Rattle.conformance.specs.Pins.{IsWeaklyPinned, IsGentlyPinned}
use Rattle.conformance.specs.RuleLaws.{names}
use Rattle.conformance.specs.Attributes.{Attributes, AreAttributes}
use Rattle.conformance.specs.DomainRules.{DomainRule}
use Rattle.conformance.specs.DomainFindings.{rule_findings}
use Rattle.conformance.specs.MeaningImages.{IsLedTo}
use Rattle.conformance.specs.MeaningLaws.{IsOnto}
use Rattle.merge_theorems.specs.Layout.{IsLaidOut, HasKeywordsOnce}
use Rattle.merge_theorems.specs.Images.{MapsRows}

-- In a file that is read, no keyword occurs twice in one instance.
abbrev pub KeywordsStandOnce : Type 0
KeywordsStandOnce = (f : File) → FitsFile the_rules f → Every HasKeywordsOnce (rows_of f.sections)

-- The instances of a file without findings are laid out, if no keyword occurs twice in one of them.
abbrev pub FilesAreLaidOut : Type 0
FilesAreLaidOut = (s : Schema) (d : Domain) (en : Entities) → AreOf s d en
    → (others : List Name) (f : File) → findings s d en others f ≡ [] → Every HasKeywordsOnce (rows_of f.sections)
    → Every (IsLaidOut s) (population_of s d en f)

-- If rows are mapped so, h maps their instances to instances of the image and reaches each of
-- these. It maps no other instance to the image of a pinned one.
abbrev pub ImagesOfRowsAreLed : Type 0
ImagesOfRowsAreLed = (s : Schema) (is js : List Instance) (P Q : List Row) (h : ℕ → ℕ) (pinned : ℕ → Bool)
    → MapsRows s is js P Q h pinned
    → IsLedTo is js h × IsOnto is js h
    × ((y z : ℕ) → Among y (names is) → Among z (names is) → IsTrue (pinned z) → h y ≡ h z → y ≡ z)

-- Let each instance be pinned that the gentle rules pin, with the classes of value equality under
-- weak pins. Then the instances of the image conform and break no rule (of uniqueness, of inverse
-- attributes or of a domain), if the original instances conform and break none.
abbrev pub ImagesOfRowsConform : Type 0
ImagesOfRowsConform = (s : Schema) (d : Domain) (en : Entities) (rules : Rules) (chosen : MergeOptions)
    (attributes : Attributes) → AreAttributes s rules.inverses attributes → (domain_rules : List DomainRule)
    (is js : List Instance) (P Q : List Row) (h : ℕ → ℕ) (weak pinned : ℕ → Bool) (E : ℕ → ℕ → Bool)
    → MapsRows s is js P Q h pinned
    → ((y : ℕ) → IsTrue (weak y) → IsWeaklyPinned s d en rules chosen is y) → IsValueEquality P weak E
    → ((y : ℕ) → IsGentlyPinned s d en rules chosen is E y → IsTrue (pinned y))
    → PopulationConforms s d en is → unique_findings rules is ≡ [] → inverse_findings rules is ≡ []
    → rule_findings s d en attributes is domain_rules ≡ []
    → PopulationConforms s d en js × (unique_findings rules js ≡ []) × (inverse_findings rules js ≡ [])
    × (rule_findings s d en attributes js domain_rules ≡ [])
