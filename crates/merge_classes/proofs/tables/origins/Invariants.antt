use Rattle.std.proofs.Common.{◌≡◌, map, take}
use Rattle.value_equality.specs.TableViews.{origin_of}
use Rattle.merge_classes.specs.Laws.{origin_in}
use Rattle.merge_classes.proofs.tables.origins.Given as goal

abbrev pub invariant-loop-origin : goal.invariant-loop-origin
invariant-loop-origin l = map origin_of l.classes.items ≡ map origin_in (take l.origin-index l.origins)
