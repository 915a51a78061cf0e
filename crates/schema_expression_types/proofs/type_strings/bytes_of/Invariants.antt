use Rattle.std.proofs.Common.{◌≡◌, map, take}
use Rattle.step_literals.specs.declared.literal.items.Item.TheVariants.{Code}
use Rattle.schema_expression_types.proofs.type_strings.bytes_of.Given as goal

abbrev pub invariant-loop-item : goal.invariant-loop-item
invariant-loop-item l = take l.item-index l.items ≡ map Code l.bytes.items
