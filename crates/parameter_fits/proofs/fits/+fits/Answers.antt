use Rattle.std.proofs.Common.{◌≡◌, ◌∙◌, true, length, sym, ap, subst, arith}
use Rattle.conformance.specs.ParameterFits.{in_bounds}
use Rattle.schema_names.specs.Schemas.{the_schema}
use Rattle.schema_underlying_types.specs.BaseViews.{base_seen, aggregate_seen}
use Rattle.schema_underlying_types.specs.Tables.{IsNumberedBase}
use Rattle.step_records.proofs.Weights.{lighter}
use Rattle.parameter_fits.specs.steps.Targets.{target_of}
use Rattle.parameter_fits.proofs.Elements.{this_element, later_elements, out_of_bounds, an_element, not_unique, by_distinct}
use Rattle.parameter_fits.proofs.fits.+fits.Goals as goal
use Rattle.parameter_fits.proofs.fits.+fits.Goals.{misfit_list-then-is_some-via-then-is_some, misfit_list-then-is_some-via-else-is_some+then-not-aggregate}

pub misfit_each-misfit_one-requires : goal.misfit_each-misfit_one-requires
misfit_each-misfit_one-requires t c =
    let less = lighter c.args.params.now c.loop-i.i c.at.result c.at.ensures in
    (omega (arith, less, c.decreases), (c.requires.bases, (c.requires.targets, c.requires.numbered)))

pub misfit_each-returns-then-is_some : goal.misfit_each-returns-then-is_some
misfit_each-returns-then-is_some t c d h =
    let s = the_schema c.args.bases.now.names.now in
    this_element s d (target_of s c.args.targets.now) c.args.is_optional (base_seen s c.args.base.now) c.args.params.now
    c.loop-i.i c.at.result c.at.ensures c.in_ok-found.found (c.in_ok-found.ensures d h)
    (sym c.is_some.ensures ∙ c.if-is_some.true)
    ∙ c.loop-i.invariant d h

pub misfit_each-loop-i-preserved : goal.misfit_each-loop-i-preserved
misfit_each-loop-i-preserved t c d h =
    let s = the_schema c.args.bases.now.names.now in
    later_elements s d (target_of s c.args.targets.now) c.args.is_optional (base_seen s c.args.base.now) c.args.params.now
    c.loop-i.i c.at.result c.at.ensures c.in_ok-found.found (c.in_ok-found.ensures d h)
    (sym c.is_some.ensures ∙ c.if-is_some.false)
    ∙ c.loop-i.invariant d h

pub misfit_list-returns-then-not-in_bounds : goal.misfit_list-returns-then-not-in_bounds
misfit_list-returns-then-not-in_bounds t c d h =
    let s = the_schema c.args.bases.now.names.now in
    out_of_bounds s d (target_of s c.args.targets.now) c.args.base.now c.in-Aggregate.aggregate c.in-Aggregate.is
    c.args.params.now
    (ap (in_bounds (aggregate_seen s c.in-Aggregate.aggregate)) (sym c.len.ensures)
    ∙ sym (c.in_bounds.ensures s) ∙ c.if-not-in_bounds.true)

pub misfit_list-returns-then-is_some : goal.misfit_list-returns-then-is_some
misfit_list-returns-then-is_some t c d h =
    let s = the_schema c.args.bases.now.names.now in
    let a = c.in-Aggregate.aggregate in
    let filled : in_bounds (aggregate_seen s a) (length c.args.params.now) ≡ true =
    ap (in_bounds (aggregate_seen s a)) (sym c.len.ensures) ∙ sym (c.in_bounds.ensures s) ∙ c.if-not-in_bounds.false in
    let inside = base_seen s c.of_number-element.result in
    let known = subst (IsNumberedBase s) c.in-Aggregate.is c.requires.numbered in
    elim c.then-is_some.branch [
      | misfit_list-then-is_some-via-then-is_some w ↦
          an_element s d (target_of s c.args.targets.now) c.args.base.now a c.in-Aggregate.is c.args.params.now filled inside
          (c.of_number-element.ensures.says known d h) c.in_ok-found.found (c.in_ok-found.ensures d h)
          (sym c.is_some.ensures ∙ w.if-is_some.true)
      | misfit_list-then-is_some-via-else-is_some+then-not-aggregate w ↦
          not_unique s d (target_of s c.args.targets.now) c.args.base.now a c.in-Aggregate.is c.args.params.now filled inside
          (c.of_number-element.ensures.says known d h) c.in_ok-found.found (c.in_ok-found.ensures d h)
          (sym c.is_some.ensures ∙ w.if-is_some.false) w.if-not-aggregate.true
    ]

pub misfit_list-returns : goal.misfit_list-returns
misfit_list-returns t c d h =
    let s = the_schema c.args.bases.now.names.now in
    let a = c.in-Aggregate.aggregate in
    let filled : in_bounds (aggregate_seen s a) (length c.args.params.now) ≡ true =
    ap (in_bounds (aggregate_seen s a)) (sym c.len.ensures) ∙ sym (c.in_bounds.ensures s) ∙ c.if-not-in_bounds.false in
    let inside = base_seen s c.of_number-element.result in
    let known = subst (IsNumberedBase s) c.in-Aggregate.is c.requires.numbered in
    c.needs.ensures ∙ by_distinct s d (target_of s c.args.targets.now) c.args.base.now a c.in-Aggregate.is c.args.params.now
    filled inside (c.of_number-element.ensures.says known d h) c.in_ok-found.found (c.in_ok-found.ensures d h)
    (sym c.is_some.ensures ∙ c.if-is_some.false) c.if-not-aggregate.false c.in_ok-distinct.distinct
    (c.in_ok-distinct.ensures d h)

pub misfit_node-misfit_reference-found-requires-clause-led : goal.misfit_node-misfit_reference-found-requires-clause-led
misfit_node-misfit_reference-found-requires-clause-led t c =
    c.target.ensures.numbered (the_schema c.args.bases.now.names.now) c.requires.targets
