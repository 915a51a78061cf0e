use Rattle.commands.proofs.presets.tell_presets.Goals as goal

pub returns : goal.returns
returns g c = c.print.ensures
