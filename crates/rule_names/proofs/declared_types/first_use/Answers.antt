use Rattle.std.proofs.Common.{◌≡◌, ◌∙◌, ap, sym, subst, slice_get, Some}
use Rattle.std.proofs.lemmas.Option.{slice_get-get_or, slice_get_past}
use Rattle.std.specs.List.{find}
use Rattle.rule_names.specs.steps.Declaring.{is_of, AreFirst}
use Rattle.rule_names.proofs.Indexed.{row-indexed, none-indexed}
use Rattle.rule_names.proofs.declared_types.first_use.Goals as goal

pub first_among-requires : goal.first_among-requires
first_among-requires c =
    let found = c.in-Some.ensures.lookup in
    let i = c.args.entity in
    let t = c.in-Some.index.now in
    let at : slice_get c.args.firsts.now i ≡ Some t =
    slice_get-get_or c.args.firsts.now i t found.3.0 ∙ ap Some (sym found.1) in
    subst (λ us. AreFirst us t) (sym c.uses_at.ensures)
    (row-indexed c.args.uses.now.explicit.items c.args.firsts.now i t c.requires at)

pub returns-in-Some : goal.returns-in-Some
returns-in-Some c = c.first_among.ensures ∙ ap (find (is_of c.args.place)) c.uses_at.ensures

pub returns-in-None : goal.returns-in-None
returns-in-None c =
    sym (none-indexed c.args.uses.now.explicit.items c.args.firsts.now c.args.entity c.args.place c.requires
    (slice_get_past c.args.firsts.now c.args.entity c.in-None.ensures.lookup.3))
