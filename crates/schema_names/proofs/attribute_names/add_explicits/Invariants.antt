use Rattle.std.proofs.Common.{◌≡◌, ◌++◌, map, take}
use Rattle.std.specs.Prelude.{flat_map}
use Rattle.express_syntax.specs.Schemas.{Explicit}
use Rattle.express_syntax.specs.Views.{explicit_of, names_of}
use Rattle.schema_semantics.specs.Names.{own_names}
use Rattle.schema_names.proofs.attribute_names.add_explicits.Given as goal

abbrev pub invariant-loop-explicit : goal.invariant-loop-explicit
invariant-loop-explicit l =
    names_of l.names.items
    ≡ names_of l.fn.names.items
    ++ flat_map (λ (x : Explicit). own_names x.attributes) (map explicit_of (take l.explicit-index l.explicits))
