use Rattle.std.proofs.Common.{◌≡◌, drop, map}
use Rattle.express_syntax.specs.Profile.{Every}
use Rattle.conformance.specs.Bases.{Domain}
use Rattle.conformance.specs.Entities.{Entities}
use Rattle.conformance.specs.Findings.{misfit_of}
use Rattle.schema_names.specs.Schemas.{the_schema}
use Rattle.schema_underlying_types.specs.BaseViews.{type_at}
use Rattle.schema_underlying_types.specs.Tables.{NamesKnownType}
use Rattle.population_findings.specs.steps.Judging.{AreOf, target_by}
use Rattle.population_findings.proofs.misfits.first_misfit.Given as goal

abbrev pub invariant-loop-number : goal.invariant-loop-number
invariant-loop-number l =
    (d : Domain) → (en : Entities) → AreOf l.judge d en
    → Every (λ k. NamesKnownType (the_schema l.judge.bases.names.now) (type_at (the_schema l.judge.bases.names.now) k))
    l.data_types
    → misfit_of (the_schema l.judge.bases.names.now) d en (target_by l.judge)
    (map (type_at (the_schema l.judge.bases.names.now)) (drop l.number-index l.data_types)) l.param
    ≡ misfit_of (the_schema l.judge.bases.names.now) d en (target_by l.judge)
    (map (type_at (the_schema l.judge.bases.names.now)) l.data_types) l.param
