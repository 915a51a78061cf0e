use Rattle.std.proofs.Common.{take}
use Rattle.conformance.specs.Bases.{Domain, IsDomain}
use Rattle.conformance.specs.ParameterFits.{values_as, set_ones}
use Rattle.schema_names.specs.Schemas.{the_schema}
use Rattle.schema_underlying_types.specs.BaseViews.{base_seen}
use Rattle.step_records.specs.Cells.{all_of}
use Rattle.step_values.specs.NormalForms.{AreNormal}
use Rattle.parameter_fits.specs.steps.Named.{each_by_name}
use Rattle.parameter_fits.proofs.distinct.set_forms.Given as goal

abbrev pub invariant-loop-i : goal.invariant-loop-i
invariant-loop-i l = (d : Domain) → IsDomain (the_schema l.bases.names.now) d → AreNormal (each_by_name (set_ones
    (values_as (the_schema l.bases.names.now) d (base_seen (the_schema l.bases.names.now) l.base)
    (all_of (take l.i l.params))))) l.forms.items
