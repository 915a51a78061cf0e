use Rattle.std.proofs.Common.{◌≡◌, drop}
use Rattle.schema_semantics.specs.Names.{Name}
use Rattle.schema_names.specs.Numbers.{number_from}
use Rattle.schema_names.specs.Schemas.{the_schema}
use Rattle.rule_values.specs.NamedValues.{found}
use Rattle.rule_values.proofs.types.numbers_of.Given as goal

abbrev pub invariant-loop-i : goal.invariant-loop-i
invariant-loop-i l =
    (n : Name) → found l.numbers n ≡ number_from l.i (drop l.i (the_schema l.bases.names.now).declarations) n
