use Rattle.std.proofs.Common.{arith}
use Rattle.rule_values.proofs.Elements.{not-alone}
use Rattle.rule_values.proofs.values.only_instance.Goals as goal

pub returns-else-names-eq1 : goal.returns-else-names-eq1
returns-else-names-eq1 c =
    let other = c.if-names-eq1.false in not-alone c.args.names.now (λ e. omega (arith, e, other))
