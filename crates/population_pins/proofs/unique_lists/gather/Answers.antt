use Rattle.std.proofs.lemmas.Result.{on_ok_weaker}
use Rattle.population_pins.proofs.Beside.{gathers-list}
use Rattle.population_pins.proofs.unique_lists.gather.Goals as goal

pub returns : goal.returns
returns c =
    on_ok_weaker c.pin_inside.result
    (λ p. gathers-list c.args.values.now c.args.weak.now
    (record { names = c.pin_inside.new.pinned; lists = c.add.new.self }) c.in_ok-add.ensures p)
    c.pin_inside.ensures
