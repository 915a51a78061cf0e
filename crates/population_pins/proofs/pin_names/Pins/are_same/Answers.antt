use Rattle.population_pins.proofs.SameNames.{same-pins}
use Rattle.population_pins.proofs.pin_names.Pins.are_same.Goals as goal

pub returns : goal.returns
returns c =
    same-pins c.args.self.now.names c.args.other.now.names c.eq.result c.len-these.ensures.ordered
    c.len-others.ensures.ordered c.eq.ensures
