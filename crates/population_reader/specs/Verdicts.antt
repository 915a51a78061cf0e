-- What `populate` returns.
use Rattle.std.specs.Prelude.{◌≡◌, ◌≢◌, List, []}
use Rattle.express_syntax.specs.Schemas.{Schema}
use Rattle.schema_names.specs.Schemas.{the_schema}
use Rattle.schema_types.specs.declared.types.ResolvedTypes.{ResolvedTypes}
use Rattle.step_structures.specs.Trees.{File}
use Rattle.schema_semantics.specs.Names.{Name}
use Rattle.conformance.specs.OtherNames.{other_names}
use Rattle.conformance.specs.Bases.{Domain, IsDomain}
use Rattle.conformance.specs.Entities.{Entities, AreEntities}
use Rattle.conformance.specs.Findings.{findings}
use Rattle.conformance.specs.declared.finding.Finding.{Finding}
use Rattle.step_exchange.specs.Exchanges.{structure}
use Rattle.step_exchange.specs.declared.structure.Exchange.{Exchange}
use Rattle.population_reader.specs.declared.populate.Verdict.{Verdict}
use Rattle.population_reader.specs.declared.populate.Verdict.TheVariants.{Typed, Faulty}
use Rattle.typed_populations.specs.PopulationViews.{population_seen}
use Rattle.typed_populations.specs.TypedPopulations.{HasFunctions, IsTyped}

-- There are functions that give the schema its meaning. By all such functions fs are the findings of the file,
-- which may call the schema by these other names, and there is at least one.
abbrev pub IsFaulty : Schema → List Name → File → List Finding → Type 0
IsFaulty s others f fs = HasFunctions s
    × ((d : Domain) (en : Entities) → IsDomain s d → AreEntities s en → fs ≡ findings s d en others f) × (fs ≢ [])

-- the verdict of an exchange structure, by the types of its schema: its population, or its findings
abbrev pub IsVerdict : ResolvedTypes → Exchange → Verdict → Type 0
IsVerdict t x (Typed p) = (p.types.now ≡ t) × (p.exchange.now ≡ x)
    × IsTyped (the_schema t.names) (other_names t.names.schema.now) (structure x) (population_seen p)
IsVerdict t x (Faulty fs) = IsFaulty (the_schema t.names) (other_names t.names.schema.now) (structure x) fs.items
