use Rattle.std.proofs.Common.{◌≡◌, ◌≤◌, ◌+◌, ◌∙◌, length, take, subst, sym, ap, arith}
use Rattle.std.proofs.lemmas.List.{take_all}
use Rattle.conformance.specs.ParameterFits.{values_as, set_ones}
use Rattle.schema_names.specs.Schemas.{the_schema}
use Rattle.schema_underlying_types.specs.BaseViews.{base_seen}
use Rattle.step_records.specs.Cells.{all_of}
use Rattle.step_values.specs.NormalForms.{AreNormal}
use Rattle.parameter_fits.specs.steps.Named.{each_by_name}
use Rattle.parameter_fits.proofs.Forms.{set_next, unset_next}
use Rattle.parameter_fits.proofs.distinct.set_forms.Goals as goal
use Rattle.parameter_fits.proofs.distinct.set_forms.Goals.{then-is_set+in_ok-normal_value+in_ok-push, else-is_set}

pub loop-i-preserved : goal.loop-i-preserved
loop-i-preserved c d h =
    let s = the_schema c.args.bases.now.names.now in
    let b = base_seen s c.args.base in
    let xs = c.args.params.now in
    elim c.if-is_set.branch [
      | then-is_set+in_ok-normal_value+in_ok-push w ↦
          subst (AreNormal (each_by_name (set_ones (values_as s d b (all_of (take (c.loop-i.i + 1) xs))))))
          (sym w.in_ok-push.ensures.items ∙ ap (λ v. v.items) (sym w.forms-is))
          (set_next s d b xs c.loop-i.i c.at-param.result c.at-param.ensures c.loop-i.forms.items
          w.in_ok-normal_value.field-0 (sym (c.is_set.ensures s d b) ∙ w.if-is_set.true) (c.loop-i.invariant d h)
          (w.in_ok-normal_value.ensures d h))
      | else-is_set w ↦
          subst (AreNormal (each_by_name (set_ones (values_as s d b (all_of (take (c.loop-i.i + 1) xs))))))
          (ap (λ v. v.items) (sym w.forms-is))
          (unset_next s d b xs c.loop-i.i c.at-param.result c.at-param.ensures c.loop-i.forms.items
          (sym (c.is_set.ensures s d b) ∙ w.if-is_set.false) (c.loop-i.invariant d h))
    ]

pub returns : goal.returns
returns c d h =
    let s = the_schema c.args.bases.now.names.now in
    let b = base_seen s c.args.base in
    let over : length c.args.params.now ≤ c.loop-i.i = omega (arith, c.loop-i-test.false, c.len-i-end.ensures) in
    let all : take c.loop-i.i c.args.params.now ≡ c.args.params.now = take_all c.loop-i.i c.args.params.now over in
    subst (λ xs. AreNormal (each_by_name (set_ones (values_as s d b (all_of xs)))) c.loop-i.forms.items) all
    (c.loop-i.invariant d h)
