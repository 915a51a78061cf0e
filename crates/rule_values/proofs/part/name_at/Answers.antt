use Rattle.std.proofs.Common.{sym, length}
use Rattle.rule_values.proofs.Elements.{instance-found, instance-missing, is-below, not-below}
use Rattle.rule_values.proofs.part.name_at.Goals as goal

pub returns-in-Some : goal.returns-in-Some
returns-in-Some c =
    let h = c.in-Some.ensures.lookup in
    sym (instance-found c.args.names.now c.args.index c.in-Some.name.now
    (is-below c.args.index (length c.args.names.now) h.0) h.1)

pub returns-in-None : goal.returns-in-None
returns-in-None c =
    let h = c.in-None.ensures.lookup in
    sym (instance-missing c.args.names.now c.args.index (not-below c.args.index (length c.args.names.now) h.0))
