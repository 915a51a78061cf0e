use Rattle.step_records.proofs.Naming.{first_next}
use Rattle.step_records.proofs.names.look_up.Goals as goal

pub loop-looked_up-preserved : goal.loop-looked_up-preserved
loop-looked_up-preserved c = rw c.in_ok-insert.ensures.keys (first_next c.loop-looked_up.set.keys
    c.loop-looked_up.looked_up c.args.list.now c.loop-looked_up.invariant c.loop-looked_up-test.true)

pub returns-in_err-insert-clause-first : goal.returns-in_err-insert-clause-first
returns-in_err-insert-clause-first c = rw c.in_err-insert.ensures.err c.loop-looked_up.invariant
