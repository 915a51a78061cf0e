use Rattle.std.proofs.Common.{ltb-true, arith}
use Rattle.std.proofs.lemmas.Bool.Decides.{nat_tests}
use Rattle.graphs.proofs.Cuts.{all-below}
use Rattle.graphs.proofs.referrers.are_below.Goals as goal

pub returns : goal.returns
returns c h =
    let some = c.if-at-eq0.false in
    let within = c.if-at-references.false in
    all-below c.args.target c.args.at c.args.references.now c.requires (λ e. grind (arith, nat_tests, e, some))
    (grind (arith, nat_tests, within)) (ltb-true _ _ h)
