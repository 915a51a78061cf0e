use Rattle.std.proofs.Common.{OnOk, ◌++◌, [], ◌∙◌, sym, ap, subst}
use Rattle.population_pins.specs.steps.Classes.{with_name, with_member, AreFirsts, ComesAfter}
use Rattle.population_pins.specs.steps.Pinning.{Pins}
use Rattle.population_pins.proofs.classes.pin_element.Goals as goal

pub returns-in-Some : goal.returns-in-Some
returns-in-Some c before h =
    subst (λ o. OnOk c.pin_beside_first.result (AreFirsts c.pin_beside_first.new.firsts (before ++ with_member o [])
    × Pins (ComesAfter before o) c.args.pinned.now c.pin_beside_first.new.pinned))
    (ap (with_name c.args.name) (sym c.in-Some.is ∙ c.class.ensures)) (c.pin_beside_first.ensures before h)
