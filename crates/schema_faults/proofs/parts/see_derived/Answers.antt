use Rattle.std.proofs.Common.{flat_map}
use Rattle.schema_faults.specs.steps.Parts.{derived_in}
use Rattle.schema_faults.proofs.Declaring.{sees-item, sees-whole}
use Rattle.schema_faults.proofs.parts.see_derived.Goals as goal

pub loop-derived-preserved : goal.loop-derived-preserved
loop-derived-preserved c =
    sees-item (derived_in c.args.scope) c.args.deriveds.now c.loop-derived.derived-index c.args.seen.now
    c.loop-derived.seen c.see_own.new.seen c.derived-item.result c.loop-derived-test.true c.derived-item.is
    c.loop-derived.invariant c.in_ok-see_own.ensures

pub returns : goal.returns
returns c =
    sees-whole (flat_map (derived_in c.args.scope)) c.args.deriveds.now c.loop-derived.derived-index c.args.seen.now
    c.loop-derived.seen c.loop-derived-test.false c.loop-derived.invariant
