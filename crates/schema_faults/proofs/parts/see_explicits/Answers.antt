use Rattle.std.proofs.Common.{flat_map, subst, ap, ◌∙◌}
use Rattle.schema_semantics.specs.Names.{own_names}
use Rattle.schema_semantics.specs.Faults.{in_scope}
use Rattle.schema_faults.specs.steps.Repeated.{Sees}
use Rattle.schema_faults.specs.steps.Parts.{explicit_in}
use Rattle.schema_faults.proofs.Declaring.{attributes-are, sees-item, sees-whole}
use Rattle.schema_faults.proofs.parts.see_explicits.Goals as goal

pub loop-explicit-preserved : goal.loop-explicit-preserved
loop-explicit-preserved c =
    let k = c.args.scope in
    sees-item (explicit_in k) c.args.explicits.now c.loop-explicit.explicit-index c.args.seen.now c.loop-explicit.seen
    c.see_each_own.new.seen c.explicit-item.result c.loop-explicit-test.true c.explicit-item.is
    c.loop-explicit.invariant
    (subst (Sees c.loop-explicit.seen c.see_each_own.new.seen)
    (attributes-are k c.as_slice.result.now ∙ ap (λ xs. in_scope k (own_names xs)) c.as_slice.ensures)
    c.in_ok-see_each_own.ensures)

pub returns : goal.returns
returns c =
    sees-whole (flat_map (explicit_in c.args.scope)) c.args.explicits.now c.loop-explicit.explicit-index
    c.args.seen.now c.loop-explicit.seen c.loop-explicit-test.false c.loop-explicit.invariant
