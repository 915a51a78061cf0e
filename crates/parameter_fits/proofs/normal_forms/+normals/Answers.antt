use Rattle.std.proofs.Common.{◌≡◌, ◌≤◌, ◌+◌, length, take, subst, sym, arith}
use Rattle.std.proofs.lemmas.List.{take_all}
use Rattle.conformance.specs.ParameterFits.{values_as}
use Rattle.schema_names.specs.Schemas.{the_schema}
use Rattle.schema_underlying_types.specs.BaseViews.{base_seen}
use Rattle.step_records.specs.Cells.{all_of}
use Rattle.step_records.proofs.Weights.{lighter}
use Rattle.step_values.specs.NormalForms.{AreNormal}
use Rattle.parameter_fits.specs.steps.Named.{each_by_name}
use Rattle.parameter_fits.proofs.Forms.{form_next}
use Rattle.parameter_fits.proofs.normal_forms.+normals.Goals as goal

pub normal_values-normal_value-requires : goal.normal_values-normal_value-requires
normal_values-normal_value-requires t c =
    let less = lighter c.args.params.now c.loop-i.i c.at.result c.at.ensures in
    (omega (arith, less, c.decreases), (c.requires.bases, c.requires.numbered))

pub normal_values-loop-i-preserved : goal.normal_values-loop-i-preserved
normal_values-loop-i-preserved t c d h =
    let s = the_schema c.args.bases.now.names.now in
    let b = base_seen s c.args.base in
    subst (AreNormal (each_by_name (values_as s d b (all_of (take (c.loop-i.i + 1) c.args.params.now)))))
    (sym c.in_ok-push.ensures.items)
    (form_next s d b c.args.params.now c.loop-i.i c.at.result c.at.ensures c.loop-i.forms.items
    c.in_ok-normal_value.field-0 (c.loop-i.invariant d h) (c.in_ok-normal_value.ensures d h))

pub normal_values-returns : goal.normal_values-returns
normal_values-returns t c d h =
    let s = the_schema c.args.bases.now.names.now in
    let b = base_seen s c.args.base in
    let over : length c.args.params.now ≤ c.loop-i.i = omega (arith, c.loop-i-test.false, c.len-i-end.ensures) in
    let all : take c.loop-i.i c.args.params.now ≡ c.args.params.now = take_all c.loop-i.i c.args.params.now over in
    subst (λ xs. AreNormal (each_by_name (values_as s d b (all_of xs))) c.loop-i.forms.items)
    all (c.loop-i.invariant d h)
