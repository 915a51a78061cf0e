use Rattle.std.proofs.Common.{◌≡◌, take, drop, length}
use Rattle.std.specs.List.{AllZip}
use Rattle.value_equality.specs.steps.ComputedHeads.{SettlesTypes}
use Rattle.value_equality.proofs.sorted_types.settle_type_lists.Given as goal

abbrev pub invariant-loop-i : goal.invariant-loop-i
invariant-loop-i l = record {
  same_len : length l.type_lists ≡ length l.fn.type_lists;
  done : AllZip SettlesTypes (take l.i l.fn.type_lists) (take l.i l.type_lists);
  rest : drop l.i l.type_lists ≡ drop l.i l.fn.type_lists;
}
