use Rattle.std.proofs.Common.{◌≡◌, ◌-◌, length, take, drop, ap, arith}
use Rattle.rule_names.proofs.qualified_names.content.Goals as goal

pub returns : goal.returns
returns c =
    let n = length c.args.text.now in
    let less : (n - 1) - 1 ≡ n - 2 = omega arith in ap (λ k. take k (drop 1 c.args.text.now)) less
