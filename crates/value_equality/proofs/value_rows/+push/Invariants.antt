use Rattle.std.proofs.Common.{◌≡◌, ◌++◌, map, take}
use Rattle.step_values.specs.Views.{value_of}
use Rattle.value_equality.proofs.value_rows.+push.Given as goal

abbrev pub invariant-push_values-loop-value : goal.invariant-push_values-loop-value
invariant-push_values-loop-value l =
    l.builder ≡ record l.fn.builder {
      pending = l.fn.builder.pending ++ map value_of (take l.value-index l.values);
    }
