use Rattle.std.proofs.Common.{◌<◌, length, arith, get_or, None}
use Rattle.std.proofs.lemmas.List.{get_or_default}
use Rattle.schema_attributes.specs.declared.declaration.AttributeDeclaration.{AttributeDeclaration}
use Rattle.schema_attribute_references.proofs.Filtering.{filter-map-more}
use Rattle.schema_attribute_references.proofs.collection.derivations_of.Goals as goal

pub loop-declaration-preserved : goal.loop-declaration-preserved
loop-declaration-preserved c =
    let xs = c.args.declarations.now in
    let at = c.loop-declaration.declaration-index in
    let lt : at < length xs = omega (arith, c.loop-declaration-test.true) in
    let x = get_or xs at (record { entity = 0; data_type = 0; derivation = None }) in
    filter-map-more (λ (x : AttributeDeclaration). x.derivation) xs at x c.loop-declaration.derivations.items
    c.add_some.new.numbers.items lt (get_or_default xs at _ x lt) c.loop-declaration.invariant
    c.in_ok-add_some.ensures
