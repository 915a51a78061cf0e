use Rattle.std.proofs.Common.{nat_eq}
use Rattle.std.specs.Ordering.{nat_cmp}
use Rattle.std.specs.BTreeSet.{contains}
use Rattle.std.specs.HashMap.{get}
use Rattle.step_values.specs.Maps.{led_by}
use Rattle.value_equality.proofs.Landing.{alone_where}
use Rattle.value_equality.proofs.image.leaves_alone.Goals as goal

pub returns : goal.returns
returns c =
    alone_where (led_by c.args.map.now) (contains nat_cmp c.args.pinned.now) c.args.p.now
    (get nat_eq c.in_ok-sources.sources) c.in_ok-sources.ensures c.are_sources.result c.are_sources.ensures
