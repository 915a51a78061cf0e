use Rattle.std.proofs.Common.{◌≡◌}
use Rattle.value_equality.specs.steps.ComputedHeads.{type_lists_within}
use Rattle.value_equality.specs.Views.{type_lists_of}
use Rattle.value_equality.proofs.parts.type_lists_of.Given as goal

abbrev pub invariant-loop-row : goal.invariant-loop-row
invariant-loop-row l = type_lists_of l.type_lists.items ≡ type_lists_within l.yielded
