use Rattle.partitions.specs.Views.{layout}
use Rattle.value_equality.specs.Maps.{is_pinned}
use Rattle.merge_classes.proofs.numbered_classes.part.Goals as goal

pub by_values-requires-clause-signatures : goal.by_values-requires-clause-signatures
by_values-requires-clause-signatures c = (is_pinned c.args.pinned.now, c.requires)

pub returns : goal.returns
returns c = record {
  start = layout c.in_ok-parts.parts;
  kinds = c.in_ok-parts.ensures;
  values = c.in_ok-rounds.ensures (is_pinned c.args.pinned.now) c.requires;
}
