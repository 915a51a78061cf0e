use Rattle.std.proofs.Common.{◌≡◌, map, take}
use Rattle.step_values.specs.Views.{word_of}
use Rattle.schema_names.specs.Schemas.{the_schema}
use Rattle.schema_underlying_types.specs.BaseViews.{name_at}
use Rattle.typed_populations.proofs.value_order.type_words.Given as goal

abbrev pub invariant-loop-number : goal.invariant-loop-number
invariant-loop-number l =
    map word_of l.words.items ≡ map (name_at (the_schema l.names)) (take l.number-index l.types)
