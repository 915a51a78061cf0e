-- The laws of populations that conform.
use Rattle.std.specs.Prelude.{◌≡◌, ℕ, Bool, IsTrue, true, List, [], ◌↔◌}
use Rattle.step_structures.specs.Trees.{File, rows_of}
use Rattle.express_syntax.specs.Schemas.{Schema}
use Rattle.express_syntax.specs.Profile.{Every}
use Rattle.schema_semantics.specs.Names.{Name}
use Rattle.schema_semantics.specs.Faults.{IsResolved}
use Rattle.conformance.specs.Bases.{Domain, IsDomain}
use Rattle.conformance.specs.Entities.{Entities, AreEntities}
use Rattle.conformance.specs.Findings.{is_of_schema, findings}
use Rattle.conformance.specs.Populations.{Instance, population_of}
use Rattle.conformance.specs.Conforming.{PopulationConforms}
use Rattle.conformance.specs.Images.{KeepsInstanceApart, IsTypedImage}
use Rattle.conformance.specs.RewrittenFiles.{IsRewritten}
use Rattle.conformance.specs.CollectionMembers.{StandsInBag, StandsInUnique}
use Rattle.conformance.specs.RecordSpellings.{IsRowSpelt}

-- These functions are the meaning of the data types and entities of a schema whose names are
-- resolved.
pub record AreOf (s : Schema) (d : Domain) (en : Entities) : Type 0 where
  pub resolved : IsResolved s
  pub domain : IsDomain s d
  pub entities : AreEntities s en

-- A file has no findings exactly if it calls the schema by its own name or one of these others, its
-- records are spelled as their entities require, and its population conforms.
abbrev pub NoFindingsExactlyWhereItConforms : Type 0
NoFindingsExactlyWhereItConforms = (s : Schema) (d : Domain) (en : Entities) → AreOf s d en
    → (others : List Name) (f : File) → (findings s d en others f ≡ [])
    ↔ ((is_of_schema s others f ≡ true) × Every (IsRowSpelt s d en) (rows_of f.sections)
    × PopulationConforms s d en (population_of s d en f))

-- If the instances that occur in SETs and BAGs that pin them, or in what is OF UNIQUE, among the
-- values of `i` are pinned, a map that maps no two pinned instances to one keeps the elements of these values apart.
abbrev pub KeepsApartWhatStandsTogether : Type 0
KeepsApartWhatStandsTogether = (s : Schema) (d : Domain) (en : Entities) (h : ℕ → ℕ) (pinned : ℕ → Bool)
    (in_sets : Bool) → ((y z : ℕ) → IsTrue (pinned y) → IsTrue (pinned z) → h y ≡ h z → y ≡ z) → (i : Instance)
    → ((y : ℕ) → StandsInBag s d en in_sets y i → IsTrue (pinned y))
    → ((y : ℕ) → StandsInUnique s d en y i → IsTrue (pinned y)) → KeepsInstanceApart s d en h i

-- If a population conforms, so does each image of it.
abbrev pub ImagesConform : Type 0
ImagesConform = (s : Schema) (d : Domain) (en : Entities) (h : ℕ → ℕ) (is js : List Instance)
    → IsTypedImage s d en h is js → PopulationConforms s d en is → PopulationConforms s d en js

-- If a file has no findings, a file that is rewritten from it has none.
abbrev pub NoFindingsInRewritten : Type 0
NoFindingsInRewritten = (s : Schema) (d : Domain) (en : Entities) → AreOf s d en → (h : ℕ → ℕ)
    (others : List Name) (f g : File) → IsRewritten s d en h f g
    → findings s d en others f ≡ [] → findings s d en others g ≡ []
