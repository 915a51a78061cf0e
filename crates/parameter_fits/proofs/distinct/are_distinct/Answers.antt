use Rattle.std.proofs.Common.{◌<◌, ◌∙◌, ap, subst}
use Rattle.conformance.specs.ParameterFits.{values_as}
use Rattle.schema_names.specs.Schemas.{the_schema}
use Rattle.schema_underlying_types.specs.BaseViews.{base_seen}
use Rattle.step_records.specs.Cells.{all_of}
use Rattle.step_values.specs.NormalForms.{normal_eq}
use Rattle.parameter_fits.specs.steps.Apart.{neighbours_apart}
use Rattle.parameter_fits.proofs.Forms.{few_distinct, sorted_distinct}
use Rattle.parameter_fits.proofs.distinct.are_distinct.Goals as goal

pub returns-then-len-lt2 : goal.returns-then-len-lt2
returns-then-len-lt2 c d h =
    let s = the_schema c.args.bases.now.names.now in
    few_distinct s d (base_seen s c.args.base) c.args.params.now
    (subst (λ n. n < 2) c.len.ensures c.if-len-lt2.true)

pub returns : goal.returns
returns c d h =
    let s = the_schema c.args.bases.now.names.now in
    c.neighbours_differ.ensures ∙ ap (neighbours_apart normal_eq) c.deref.ensures.value
    ∙ sorted_distinct (values_as s d (base_seen s c.args.base) (all_of c.args.params.now)) c.in_ok-forms.forms.items
    c.sort_unstable.new.self.items (c.in_ok-forms.ensures d h) c.sort_unstable.ensures.permutation
    c.sort_unstable.ensures.sorted
