use Rattle.std.proofs.Common.{◌≡◌, drop}
use Rattle.std.specs.List.{find}
use Rattle.express_syntax.specs.ExpressionViews.{capitals}
use Rattle.schema_names.specs.Schemas.{the_schema}
use Rattle.schema_explicit_attributes.specs.steps.Owned.{declares_at}
use Rattle.schema_explicit_attributes.proofs.origins.nearest.Given as goal

-- what is left decides
abbrev pub invariant-loop-number : goal.invariant-loop-number
invariant-loop-number l =
    find (declares_at (the_schema l.names) l.meant (capitals l.name)) (drop l.number-index l.line)
    ≡ find (declares_at (the_schema l.names) l.meant (capitals l.name)) l.line
