use Rattle.std.proofs.Common.{take}
use Rattle.std.specs.List.{AllZip}
use Rattle.express_syntax.specs.Views.{declaration_of}
use Rattle.schema_names.specs.steps.Enumerated.{IsItemRow}
use Rattle.schema_names.proofs.enumeration_items.item_rows.Given as goal

abbrev pub invariant-loop-declaration : goal.invariant-loop-declaration
invariant-loop-declaration l =
    AllZip (λ d v. IsItemRow (declaration_of d) v.items) (take l.declaration-index l.declarations) l.rows.items
