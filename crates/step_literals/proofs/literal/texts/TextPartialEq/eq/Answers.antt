use Rattle.std.proofs.Common.{ap, sym, ◌∙◌}
use Rattle.std.specs.Ordering.{is_eq}
use Rattle.std.specs.Cmp.Lexicographic.{texts_ties}
use Rattle.step_literals.specs.ItemKeys.{text_key}
use Rattle.step_literals.proofs.literal.texts.TextPartialEq.eq.Goals as goal

pub returns-else-eq : goal.returns-else-eq
returns-else-eq c = c.is_eq.ensures ∙ ap is_eq c.cmp.ensures
    ∙ sym (texts_ties (text_key c.args.self.now) (text_key c.args.other.now))
