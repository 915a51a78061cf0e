use Rattle.std.proofs.Common.{flat_map}
use Rattle.schema_faults.specs.steps.Parts.{inverse_in}
use Rattle.schema_faults.proofs.Declaring.{sees-item, sees-whole}
use Rattle.schema_faults.proofs.parts.see_inverses.Goals as goal

pub loop-inverse-preserved : goal.loop-inverse-preserved
loop-inverse-preserved c =
    sees-item (inverse_in c.args.scope) c.args.inverses.now c.loop-inverse.inverse-index c.args.seen.now
    c.loop-inverse.seen c.see_own.new.seen c.inverse-item.result c.loop-inverse-test.true c.inverse-item.is
    c.loop-inverse.invariant c.in_ok-see_own.ensures

pub returns : goal.returns
returns c =
    sees-whole (flat_map (inverse_in c.args.scope)) c.args.inverses.now c.loop-inverse.inverse-index c.args.seen.now
    c.loop-inverse.seen c.loop-inverse-test.false c.loop-inverse.invariant
