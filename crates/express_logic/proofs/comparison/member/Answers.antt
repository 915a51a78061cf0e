use Rattle.std.proofs.Common.{sym, ap, ◌∙◌}
use Rattle.express_logic.specs.Comparison.{member}
use Rattle.express_logic.specs.Views.{scalar_of, datum_of}
use Rattle.express_logic.proofs.Members.{known_is, member_is}
use Rattle.express_logic.proofs.comparison.member.Goals as goal

pub returns-in_default-Aggregate : goal.returns-in_default-Aggregate
returns-in_default-Aggregate g c =
    let x = c.in_default-Aggregate in
    let held = g.V.Held.held in
    let d = datum_of held c.args.a.now in
    member_is d (held x.elements).shape (held x.elements).elements (scalar_of c.bare.result) c.among.result
    (known_is held c.args.a.now x.not-Indeterminate-0) c.bare.ensures c.among.ensures
    ∙ ap (λ b. member d (datum_of held b)) (sym x.is-1)
