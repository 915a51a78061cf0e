use Rattle.std.proofs.Common.{◌∙◌}
use Rattle.parameter_fits.proofs.Numbered.{among_numbers}
use Rattle.parameter_fits.proofs.targets.is_among.Goals as goal

pub returns : goal.returns
returns c s p q = c.contains.ensures.value ∙ among_numbers s c.args.number p c.args.numbers.now q
