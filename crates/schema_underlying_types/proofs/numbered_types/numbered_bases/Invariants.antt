use Rattle.std.proofs.Common.{take, map, []}
use Rattle.express_syntax.specs.Views.{declaration_of}
use Rattle.schema_names.specs.Schemas.{the_schema}
use Rattle.schema_underlying_types.specs.BaseEntries.{GoesOn}
use Rattle.schema_underlying_types.proofs.Going.{given}
use Rattle.schema_underlying_types.proofs.numbered_types.numbered_bases.Given as goal

abbrev pub invariant-loop-declaration : goal.invariant-loop-declaration
invariant-loop-declaration l =
    GoesOn (the_schema l.names) l.declared []
    (given (the_schema l.names) l.declared
    (map declaration_of (take l.declaration-index l.declaration-items))) l.bases.items
