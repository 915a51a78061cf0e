use Rattle.std.proofs.Common.{◌≡◌, ◌++◌, map, take}
use Rattle.schema_redeclarations.specs.steps.Speaking.{use_of}
use Rattle.schema_redeclarations.proofs.explicit_attributes.add_uses.Given as goal

abbrev pub invariant-loop-place : goal.invariant-loop-place
invariant-loop-place l =
    l.uses.items
    ≡ l.initial.uses.items ++ take l.place-index (map (use_of l.data_type l.is_optional) l.places)
