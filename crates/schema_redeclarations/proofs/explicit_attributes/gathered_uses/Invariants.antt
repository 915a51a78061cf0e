use Rattle.std.proofs.Common.{◌≡◌, [], map, take, length}
use Rattle.std.specs.List.{AllZip}
use Rattle.graphs.specs.Rounds.{AreMarks}
use Rattle.express_syntax.specs.Views.{declaration_of}
use Rattle.schema_names.specs.Schemas.{the_schema}
use Rattle.schema_explicit_attributes.specs.Places.{all_places}
use Rattle.schema_redeclarations.specs.steps.Speaking.{AreUsesIn}
use Rattle.schema_redeclarations.proofs.explicit_attributes.gathered_uses.Given as goal

abbrev pub invariant-loop-n : goal.invariant-loop-n
invariant-loop-n l =
    AreMarks l.marks []
    × (length l.marks ≡ length (all_places (the_schema l.sources.names.now)))
    × AllZip (AreUsesIn (the_schema l.sources.names.now)) (take l.n (map declaration_of l.declarations))
    (map (λ v. v.items) l.rows.items)
