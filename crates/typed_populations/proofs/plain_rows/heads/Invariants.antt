use Rattle.std.proofs.Common.{◌≡◌, ◌<◌, ◌^◌, take}
use Rattle.std.specs.List.{All}
use Rattle.value_equality.specs.Views.{head_names}
use Rattle.typed_populations.specs.ValueOrder.{heads_made}
use Rattle.typed_populations.proofs.plain_rows.heads.Given as goal

abbrev pub invariant-loop-i : goal.invariant-loop-i
invariant-loop-i l = record {
  made : l.heads.items ≡ heads_made l.formless (take l.i l.sections) (take l.i l.names) (take l.i l.form_of);
  range : All (λ y. y < 2 ^ 64) (head_names l.heads.items);
}
