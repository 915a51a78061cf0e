use Rattle.std.proofs.Common.{◌∙◌, ◌++◌, [], ap, sym}
use Rattle.std.specs.List.{cons_option}
use Rattle.std.proofs.lemmas.List.{append-nil}
use Rattle.std.proofs.lemmas.Option.{slice_get_past}
use Rattle.population_forms.proofs.slots.add_use.Goals as goal

pub returns-in_default : goal.returns-in_default
returns-in_default c =
    let none = slice_get_past c.args.uses.now c.args.number c.in_default.ensures.lookup.3 in
    sym (ap (λ o. c.args.found.now.items ++ cons_option o []) none ∙ append-nil c.args.found.now.items)
