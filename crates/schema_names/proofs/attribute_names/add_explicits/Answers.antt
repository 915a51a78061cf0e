use Rattle.std.proofs.Common.{◌<◌, ◌++◌, length, ap, arith, ◌∙◌}
use Rattle.express_syntax.specs.Schemas.{Explicit}
use Rattle.express_syntax.specs.Views.{explicit_of, names_of}
use Rattle.schema_semantics.specs.Names.{own_names}
use Rattle.schema_names.proofs.Rowed.{flat-more}
use Rattle.schema_names.proofs.attribute_names.add_explicits.Goals as goal

pub loop-explicit-preserved : goal.loop-explicit-preserved
loop-explicit-preserved c =
    let xs = c.args.explicits.now in
    let k = c.loop-explicit.explicit-index in
    let lt : k < length xs = omega (arith, c.loop-explicit-test.true) in
    let old = names_of c.loop-explicit.names.items in
    flat-more (λ (x : Explicit). own_names x.attributes) explicit_of xs k c.explicit-item.result
    (names_of c.args.names.now.items) old (names_of c.add_together.new.names.items) lt c.explicit-item.is
    c.loop-explicit.invariant
    (c.in_ok-add_together.ensures ∙ ap (λ ts. old ++ own_names ts) c.as_slice.ensures)
