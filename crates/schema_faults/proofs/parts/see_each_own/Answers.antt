use Rattle.std.proofs.Common.{flat_map}
use Rattle.schema_faults.specs.steps.Parts.{own_in}
use Rattle.schema_faults.proofs.Declaring.{sees-item, sees-whole}
use Rattle.schema_faults.proofs.parts.see_each_own.Goals as goal

pub loop-attribute-preserved : goal.loop-attribute-preserved
loop-attribute-preserved c =
    sees-item (own_in c.args.scope) c.args.attributes.now c.loop-attribute.attribute-index c.args.seen.now
    c.loop-attribute.seen c.see_own.new.seen c.attribute-item.result c.loop-attribute-test.true c.attribute-item.is
    c.loop-attribute.invariant c.in_ok-see_own.ensures

pub returns : goal.returns
returns c =
    sees-whole (flat_map (own_in c.args.scope)) c.args.attributes.now c.loop-attribute.attribute-index c.args.seen.now
    c.loop-attribute.seen c.loop-attribute-test.false c.loop-attribute.invariant
