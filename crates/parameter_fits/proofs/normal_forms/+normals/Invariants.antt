use Rattle.std.proofs.Common.{◌*◌, ◌+◌, take}
use Rattle.conformance.specs.Bases.{Domain, IsDomain}
use Rattle.conformance.specs.ParameterFits.{values_as}
use Rattle.schema_names.specs.Schemas.{the_schema}
use Rattle.schema_underlying_types.specs.BaseViews.{base_seen}
use Rattle.step_records.specs.Cells.{all_of}
use Rattle.step_records.specs.Params.{node_value}
use Rattle.step_records.proofs.Weights.{weight, weights}
use Rattle.step_values.specs.NormalForms.{AreNormal}
use Rattle.parameter_fits.specs.steps.Named.{each_by_name}
use Rattle.parameter_fits.proofs.normal_forms.+normals.Given as goal

abbrev pub invariant-normal_values-loop-i : goal.invariant-normal_values-loop-i
invariant-normal_values-loop-i l = (d : Domain) → IsDomain (the_schema l.bases.names.now) d → AreNormal (each_by_name
    (values_as (the_schema l.bases.names.now) d (base_seen (the_schema l.bases.names.now) l.base)
    (all_of (take l.i l.params)))) l.forms.items

abbrev pub decreases-normal_value : goal.decreases-normal_value
decreases-normal_value a = 4 * weight a.param.now + 1

abbrev pub decreases-normal_node : goal.decreases-normal_node
decreases-normal_node a = 4 * weight (node_value a.node.now)

abbrev pub decreases-normal_values : goal.decreases-normal_values
decreases-normal_values a = 4 * weights a.params.now + 1
