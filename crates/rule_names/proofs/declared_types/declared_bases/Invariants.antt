use Rattle.std.proofs.Common.{map, take}
use Rattle.std.specs.List.{AllZip}
use Rattle.schema_names.specs.Schemas.{the_schema}
use Rattle.schema_underlying_types.specs.declared.base.Base.{Base}
use Rattle.schema_types.specs.steps.Graphs.{place_of}
use Rattle.rule_names.specs.Tables.{IsDeclaredAs}
use Rattle.rule_names.proofs.declared_types.declared_bases.Given as goal

abbrev pub invariant-loop-i : goal.invariant-loop-i
invariant-loop-i l =
    AllZip (IsDeclaredAs (the_schema l.types.names)) (take l.i (map place_of l.attributes))
    (map (λ (b : Base). b) l.bases.items)
