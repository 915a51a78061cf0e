use Rattle.std.proofs.Common.{◌≡◌, map, take, filter_map}
use Rattle.express_syntax.specs.ExpressionViews.{capitals}
use Rattle.schema_names.specs.Numbers.{number_of}
use Rattle.schema_names.specs.Schemas.{the_schema}
use Rattle.schema_names.proofs.declaration_graphs.numbers_of.Given as goal

abbrev pub invariant-loop-word : goal.invariant-loop-word
invariant-loop-word l =
    l.row.items ≡ filter_map (number_of (the_schema l.names)) (map capitals (take l.word-index l.words))
