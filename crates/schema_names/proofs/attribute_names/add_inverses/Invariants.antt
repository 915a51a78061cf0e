use Rattle.std.proofs.Common.{◌≡◌, ◌++◌, map, take}
use Rattle.express_syntax.specs.Schemas.{Inverse}
use Rattle.express_syntax.specs.Views.{inverse_of, names_of}
use Rattle.schema_semantics.specs.Names.{own_names}
use Rattle.schema_names.proofs.attribute_names.add_inverses.Given as goal

abbrev pub invariant-loop-each : goal.invariant-loop-each
invariant-loop-each l =
    names_of l.names.items
    ≡ names_of l.fn.names.items
    ++ own_names (map (λ (x : Inverse). x.attribute) (map inverse_of (take l.each-index l.inverses)))
