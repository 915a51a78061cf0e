use Rattle.std.proofs.Common.{nat_eq}
use Rattle.std.specs.HashSet.{contains}
use Rattle.step_values.specs.Maps.{led_by}
use Rattle.value_equality.proofs.Landing.{onto_where}
use Rattle.value_equality.proofs.image.is_onto.Goals as goal

pub returns : goal.returns
returns c =
    onto_where (led_by c.args.map.now) c.args.p.now c.args.q.now (contains nat_eq c.in_ok-reached.reached)
    c.in_ok-reached.ensures c.are_reached.result c.are_reached.ensures
