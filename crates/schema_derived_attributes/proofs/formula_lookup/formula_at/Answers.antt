use Rattle.std.proofs.Common.{◌≡◌, length, slice_get, option_map, ap, sym, subst, ◌∙◌}
use Rattle.std.specs.Option.{option_flatten}
use Rattle.conformance.specs.Attributes.{IsFormula}
use Rattle.schema_derived_attributes.specs.Formulas.{formula_seen, formula_place}
use Rattle.schema_derived_attributes.proofs.Oneness.{one-formula}
use Rattle.schema_derived_attributes.proofs.Placed.{asked-formula, same-there}
use Rattle.schema_derived_attributes.proofs.formula_lookup.formula_at.Goals as goal

pub returns-clause-meant : goal.returns-clause-meant
returns-clause-meant c s known inverses attributes are e k =
    let n = c.args.number in
    let rows = c.args.formulas.now.rows.items in
    let firsts = c.args.formulas.now.firsts.items in
    let o = c.formula_in.result in
    let is : o ≡ option_flatten (slice_get rows (formula_place firsts (length rows) c.args.entity n)) =
    c.formula_in.ensures ∙ ap (λ p. option_flatten (slice_get c.as_slice-rows.result.now p)) c.place_of-place.ensures
    ∙ same-there c.as_slice-rows.result.now rows c.as_slice-firsts.result.now firsts c.args.entity n
    c.as_slice-rows.ensures.value c.as_slice-firsts.ensures.value in
    one-formula s (e, n) (option_map formula_seen o) (attributes.formula (e, n))
    (subst (λ p. IsFormula s (e, n) (option_map formula_seen p)) (sym is)
    (asked-formula s rows known.rows firsts known.firsts e c.args.entity n k)) (are.formulas (e, n))

pub returns-clause-place : goal.returns-clause-place
returns-clause-place c =
    c.formula_in.ensures ∙ ap (λ p. option_flatten (slice_get c.as_slice-rows.result.now p)) c.place_of-place.ensures
    ∙ same-there c.as_slice-rows.result.now c.args.formulas.now.rows.items c.as_slice-firsts.result.now
    c.args.formulas.now.firsts.items c.args.entity c.args.number c.as_slice-rows.ensures.value
    c.as_slice-firsts.ensures.value
