use Rattle.std.proofs.Common.{◌≡◌, ◌≤◌, take, map}
use Rattle.step_exchange.specs.Views.{record_in}
use Rattle.schema_names.specs.Schemas.{the_schema}
use Rattle.population_findings.specs.steps.Keywords.{unknown_among}
use Rattle.population_findings.proofs.keywords.unknown_partials.Given as goal

abbrev pub invariant-loop-i : goal.invariant-loop-i
invariant-loop-i l =
    (l.unknown ≡ unknown_among (the_schema l.names) (map record_in (take l.i l.partials)))
    × (l.unknown ≤ l.i)
