-- The population of an exchange structure that conforms to a schema.
use Rattle.std.specs.Prelude.{◌≡◌, List, []}
use Rattle.express_syntax.specs.Schemas.{Schema}
use Rattle.step_structures.specs.Trees.{File}
use Rattle.step_exchange.specs.Exchanges.{structure}
use Rattle.step_exchange.specs.declared.structure.Exchange.{Exchange}
use Rattle.step_values.specs.steps.Building.{Kept}
use Rattle.schema_semantics.specs.Names.{Name}
use Rattle.conformance.specs.Bases.{Domain, IsDomain}
use Rattle.conformance.specs.Entities.{Entities, AreEntities}
use Rattle.conformance.specs.Findings.{findings}
use Rattle.conformance.specs.Populations.{Instance, population_of}
use Rattle.population_rows.specs.declared.rows.Rows.{Rows}
use Rattle.typed_populations.specs.Rows.{instances_seen, section_numbers}
use Rattle.typed_populations.specs.PopulationTables.{IsWhole}

-- there are functions that give the data types and the entities of a schema their meaning
abbrev pub HasFunctions : Schema → Type 0
HasFunctions s = ((d : Domain) × IsDomain s d) × ((en : Entities) × AreEntities s en)

-- There are functions that give the schema its meaning. By all such functions the file, which may call the schema
-- by these other names, has no findings, and its population is is.
abbrev pub IsTyped : Schema → List Name → File → List Instance → Type 0
IsTyped s others f is = HasFunctions s
    × ((d : Domain) (en : Entities) → IsDomain s d → AreEntities s en
    → (findings s d en others f ≡ []) × (is ≡ population_of s d en f))

-- the instances that these rows and values of an exchange structure represent
abbrev pub typed_seen : Schema → Exchange → Rows → Kept → List Instance
typed_seen s x t v =
    instances_seen s t.forms.items x.names (section_numbers 0 0 x.sections.items) t.form_of.items v.rows

-- The tables are consistent, the exchange structure has no findings, and the tables represent its population.
pub record IsPopulation (s : Schema) (others : List Name) (x : Exchange) (t : Rows) (v : Kept) : Type 0 where
  pub whole : IsWhole s x.names t v
  pub typed : IsTyped s others (structure x) (typed_seen s x t v)
