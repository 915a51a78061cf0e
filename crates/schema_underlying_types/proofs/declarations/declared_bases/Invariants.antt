use Rattle.std.proofs.Common.{◌≡◌, length, map, take}
use Rattle.graphs.specs.Orders.{Solves}
use Rattle.schema_names.specs.Schemas.{the_schema}
use Rattle.schema_underlying_types.specs.BaseEntries.{entry}
use Rattle.schema_underlying_types.proofs.Made.{made_of}
use Rattle.schema_underlying_types.proofs.declarations.declared_bases.Given as goal

abbrev pub invariant-loop-a : goal.invariant-loop-a
invariant-loop-a l = record {
  long : length l.declared.items ≡ length l.edges;
  so : Solves (map (λ v. v.items) l.edges) (take l.a-index l.a-items)
      (made_of (the_schema l.names) (map (λ v. v.items) l.data_types.rows.items)) (entry l.declared.items);
}
