use Rattle.std.proofs.Common.{ap, sym, ◌∙◌}
use Rattle.std.specs.Ordering.{is_eq}
use Rattle.step_literals.specs.steps.BitListLemmas.{bits_ties}
use Rattle.step_literals.specs.Values.{bits_value}
use Rattle.step_literals.proofs.literal.binaries.BitsPartialEq.eq.Goals as goal

pub returns : goal.returns
returns c = c.is_eq.ensures ∙ ap is_eq c.cmp.ensures
    ∙ sym (bits_ties (bits_value c.args.self.now) (bits_value c.args.other.now))
