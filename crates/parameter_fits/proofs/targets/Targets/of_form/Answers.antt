use Rattle.std.proofs.Common.{◌≤◌, map, length, ◌∙◌, sym, ap, subst}
use Rattle.schema_underlying_types.specs.BaseViews.{name_at, or_empty}
use Rattle.conformance.specs.ParameterFits.{of_types}
use Rattle.parameter_fits.specs.steps.Led.{AreNumbered}
use Rattle.parameter_fits.proofs.Numbered.{each_row, row_at, row_over}
use Rattle.parameter_fits.proofs.targets.Targets.of_form.Goals as goal

pub returns-in-Some-clause-numbered : goal.returns-in-Some-clause-numbered
returns-in-Some-clause-numbered c s numbered =
    let rows = c.args.self.now.types.now in
    let found = c.in-Some.ensures.lookup in
    let is = row_at rows c.args.form c.in-Some.types.now found.3.0 found.1 in
    subst (AreNumbered s) (ap or_empty is ∙ sym c.deref.ensures.value)
    (each_row (AreNumbered s) tt rows numbered c.args.form)

pub returns-in-None-clause-led : goal.returns-in-None-clause-led
returns-in-None-clause-led c s =
    let rows = c.args.self.now.types.now in
    let over : length rows ≤ c.args.form = c.in-None.ensures.lookup.3 in
    ap (λ row. of_types (map (name_at s) (or_empty row))) (sym (row_over rows c.args.form over))
