use Rattle.population_pins.proofs.Pinning.{one-more}
use Rattle.population_pins.proofs.pinned_names.pin.Goals as goal

pub returns : goal.returns
returns c = one-more c.args.pinned.now c.push.new.self c.args.name c.in_ok-push.ensures.items
