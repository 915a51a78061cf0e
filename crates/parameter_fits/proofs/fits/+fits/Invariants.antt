use Rattle.std.proofs.Common.{◌*◌, ◌+◌, ◌≡◌, drop}
use Rattle.conformance.specs.Bases.{Domain, IsDomain}
use Rattle.conformance.specs.ParameterFits.{misfit_each}
use Rattle.schema_names.specs.Schemas.{the_schema}
use Rattle.schema_underlying_types.specs.BaseViews.{base_seen}
use Rattle.step_records.specs.Cells.{all_of}
use Rattle.step_records.specs.Params.{node_value}
use Rattle.step_records.proofs.Weights.{weight, weights}
use Rattle.parameter_fits.specs.steps.Targets.{target_of}
use Rattle.parameter_fits.proofs.fits.+fits.Given as goal

-- what is left decides
abbrev pub invariant-misfit_each-loop-i : goal.invariant-misfit_each-loop-i
invariant-misfit_each-loop-i l = (d : Domain) → IsDomain (the_schema l.bases.names.now) d
    → misfit_each (the_schema l.bases.names.now) d (target_of (the_schema l.bases.names.now) l.targets) l.is_optional
    (base_seen (the_schema l.bases.names.now) l.base) (all_of (drop l.i l.params))
    ≡ misfit_each (the_schema l.bases.names.now) d (target_of (the_schema l.bases.names.now) l.targets) l.is_optional
    (base_seen (the_schema l.bases.names.now) l.base) (all_of l.params)

abbrev pub decreases-misfit : goal.decreases-misfit
decreases-misfit a = 4 * weight a.param.now + 1

abbrev pub decreases-misfit_node : goal.decreases-misfit_node
decreases-misfit_node a = 4 * weight (node_value a.node)

abbrev pub decreases-misfit_typed : goal.decreases-misfit_typed
decreases-misfit_typed a = 4 * weight a.inner.now + 2

abbrev pub decreases-misfit_list : goal.decreases-misfit_list
decreases-misfit_list a = 4 * weights a.params.now + 2

abbrev pub decreases-misfit_each : goal.decreases-misfit_each
decreases-misfit_each a = 4 * weights a.params.now + 1

abbrev pub decreases-misfit_one : goal.decreases-misfit_one
decreases-misfit_one a = 4 * weight a.param.now + 2
