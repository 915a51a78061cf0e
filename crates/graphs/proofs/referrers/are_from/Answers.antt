use Rattle.std.proofs.Common.{leb-true, arith}
use Rattle.std.proofs.lemmas.Bool.Decides.{nat_tests}
use Rattle.graphs.proofs.Cuts.{all-from}
use Rattle.graphs.proofs.referrers.are_from.Goals as goal

pub returns : goal.returns
returns c h =
    let within = c.if-at-references.false in
    all-from c.args.target c.args.at c.args.references.now c.requires (grind (arith, nat_tests, within)) (leb-true _ _ h)
