use Rattle.std.proofs.Common.{◌≡◌, ◌++◌, fold}
use Rattle.std.specs.List.{flat_map}
use Rattle.step_literals.specs.Strings.{clean}
use Rattle.step_literals.specs.ItemKeys.{item_writes}
use Rattle.step_literals.specs.steps.Rests.{clean_items, items_left}
use Rattle.step_literals.proofs.literal.texts.feed_content.Given as goal

abbrev pub invariant-loop-item : goal.invariant-loop-item
invariant-loop-item g l = record {
  fed : l.state ≡ fold g.H.Hasher.write l.initial.state (flat_map item_writes l.yielded);
  shown : l.yielded ++ items_left l.item-iterator ≡ clean_items 1 (clean l.content);
}
