use Rattle.std.proofs.Common.{◌≡◌, take, filter_map}
use Rattle.schema_attributes.specs.declared.declaration.AttributeDeclaration.{AttributeDeclaration}
use Rattle.schema_attribute_references.proofs.collection.derivations_of.Given as goal

abbrev pub invariant-loop-declaration : goal.invariant-loop-declaration
invariant-loop-declaration l =
    l.derivations.items
    ≡ filter_map (λ (x : AttributeDeclaration). x.derivation) (take l.declaration-index l.declarations)
