use Rattle.std.proofs.Common.{◌*◌, ◌+◌}
use Rattle.conformance.specs.Bases.{Domain, IsDomain}
use Rattle.schema_names.specs.Schemas.{the_schema}
use Rattle.schema_underlying_types.specs.BaseViews.{base_seen}
use Rattle.conformance.specs.Elements.{HasUniqueAmong}
use Rattle.step_values.proofs.Walks.{after}
use Rattle.step_values.proofs.Weights.{weight, weight_of}
use Rattle.population_pins.specs.steps.Gathering.{GathersUpTo}
use Rattle.population_pins.specs.steps.Elements.{Asks}
use Rattle.population_pins.proofs.unique_lists.+walk.Given as goal

abbrev pub decreases-gather_in_value : goal.decreases-gather_in_value
decreases-gather_in_value a = 4 * weight a.value.now

abbrev pub decreases-gather_in_elements : goal.decreases-gather_in_elements
decreases-gather_in_elements a = 4 * weight_of a.values.now + 2

abbrev pub decreases-gather_in_each : goal.decreases-gather_in_each
decreases-gather_in_each a = 4 * weight_of a.values.now + 1

abbrev pub invariant-gather_in_each-loop-i : goal.invariant-gather_in_each-loop-i
invariant-gather_in_each-loop-i l = (d : Domain) → IsDomain (the_schema l.bases.names.now) d
    → GathersUpTo
    (λ q. HasUniqueAmong (the_schema l.bases.names.now) d (Asks q) (base_seen (the_schema l.bases.names.now) l.base)
    l.values)
    (λ q. HasUniqueAmong (the_schema l.bases.names.now) d (Asks q) (base_seen (the_schema l.bases.names.now) l.base)
    (after l.i l.values)) l.fn.weak l.weak
