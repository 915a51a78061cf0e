use Rattle.std.proofs.Common.{◌*◌, ◌+◌, ◌≡◌, take}
use Rattle.conformance.specs.Bases.{Domain, IsDomain}
use Rattle.conformance.specs.ParameterFits.{element, values_as}
use Rattle.schema_names.specs.Schemas.{the_schema}
use Rattle.schema_underlying_types.specs.BaseViews.{base_seen}
use Rattle.step_records.specs.Cells.{all_of}
use Rattle.step_records.specs.Params.{node_value}
use Rattle.step_records.proofs.Weights.{weight, weights}
use Rattle.parameter_fits.specs.steps.Pushing.{PushesEach}
use Rattle.parameter_fits.proofs.values.+values.Given as goal

abbrev pub invariant-push_each-loop-i : goal.invariant-push_each-loop-i
invariant-push_each-loop-i l = record {
  names : l.builder.names ≡ l.initial.builder.names;
  pushed : (d : Domain) → IsDomain (the_schema l.bases.names.now) d → PushesEach l.initial.builder l.builder
      (values_as (the_schema l.bases.names.now) d
      (element (the_schema l.bases.names.now) d (base_seen (the_schema l.bases.names.now) l.base))
      (all_of (take l.i l.params)));
}

abbrev pub decreases-push_value : goal.decreases-push_value
decreases-push_value a = 4 * weight a.param.now + 1

abbrev pub decreases-push_node : goal.decreases-push_node
decreases-push_node a = 4 * weight (node_value a.node)

abbrev pub decreases-push_typed : goal.decreases-push_typed
decreases-push_typed a = 4 * weight a.inner.now + 2

abbrev pub decreases-push_list : goal.decreases-push_list
decreases-push_list a = 4 * weights a.params.now + 2

abbrev pub decreases-push_each : goal.decreases-push_each
decreases-push_each a = 4 * weights a.params.now + 1

abbrev pub decreases-push_element : goal.decreases-push_element
decreases-push_element a = 4 * weight a.param + 3

abbrev pub decreases-push_inside : goal.decreases-push_inside
decreases-push_inside a = 4 * weight a.param + 2
