use Rattle.std.proofs.Common.{◌∙◌, ap, sym, Some}
use Rattle.std.proofs.lemmas.Option.{slice_get-get_or}
use Rattle.schema_attribute_sources.proofs.stored_attributes.is_inverse_at.Goals as goal

pub returns-in-Some : goal.returns-in-Some
returns-in-Some c t =
    let found = c.in-Some.ensures.lookup in
    let x = c.in-Some.inverse.now in (
      x,
      slice_get-get_or c.args.inverses.now c.args.number x found.3.0 ∙ ap Some (sym found.1),
      sym c.is_inverse.ensures ∙ t,
    )

pub returns-in-None : goal.returns-in-None
returns-in-None c t = absurd (cc)
