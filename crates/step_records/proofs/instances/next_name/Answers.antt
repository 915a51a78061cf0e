use Rattle.std.proofs.Common.{sym, ap, ◌∙◌, length, arith, inr}
use Rattle.step_records.proofs.RowSteps.{name_refused, name_twice, name_too_many, name_fits}
use Rattle.step_records.proofs.instances.next_name.Goals as goal

pub returns-in_default-clause-name : goal.returns-in_default-clause-name
returns-in_default-clause-name c = inr (name_refused c.args.names.now c.args.token c.refuse.result
    c.in_default.not-Name c.requires c.refuse.ensures)

pub returns-then-branch-clause-name : goal.returns-then-branch-clause-name
returns-then-branch-clause-name c = inr (name_twice c.args.names.now c.args.token c.in-Name.name c.fault_at.result
    c.in-Name.is (sym c.in_ok-contains.ensures.found ∙ c.if-branch.true) c.fault_at.ensures)

pub returns-then-len-ge-INSTANCES-clause-name : goal.returns-then-len-ge-INSTANCES-clause-name
returns-then-len-ge-INSTANCES-clause-name c = inr (name_too_many c.args.names.now c.args.token c.in-Name.name
    c.fault_at-then-len-ge-INSTANCES.result c.in-Name.is (sym c.in_ok-contains.ensures.found ∙ c.if-branch.false)
    (omega (arith, ap length c.in_ok-contains.ensures.same)) c.fault_at-then-len-ge-INSTANCES.ensures)

pub returns-clause-name : goal.returns-clause-name
returns-clause-name c = name_fits c.args.names.now c.args.token c.in-Name.name c.in-Name.is
    (sym c.in_ok-contains.ensures.found ∙ c.if-branch.false) (omega (arith, ap length c.in_ok-contains.ensures.same))
