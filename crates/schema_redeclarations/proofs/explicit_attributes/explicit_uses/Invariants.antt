use Rattle.std.proofs.Common.{◌≡◌, [], map, take, length}
use Rattle.graphs.specs.Rounds.{AreMarks}
use Rattle.express_syntax.specs.Views.{explicit_of}
use Rattle.schema_semantics.specs.Names.{Name}
use Rattle.schema_names.specs.Schemas.{the_schema}
use Rattle.schema_redeclarations.specs.steps.Speaking.{AreOwnAt, names_of, AreUsesOf}
use Rattle.schema_redeclarations.proofs.explicit_attributes.explicit_uses.Given as goal

abbrev pub invariant-loop-n : goal.invariant-loop-n
invariant-loop-n l =
    AreMarks l.marks []
    × (length l.marks ≡ length l.fn.marks)
    × (l.first ≡ length (names_of (take l.n (map explicit_of l.explicits))))
    × ((n : Name) → AreOwnAt (the_schema l.sources.names.now) n l.own 0 (names_of (map explicit_of l.explicits))
    → AreUsesOf (the_schema l.sources.names.now) n (take l.n (map explicit_of l.explicits)) l.uses.items)
