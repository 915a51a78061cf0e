use Rattle.step_literals.proofs.PieceLemmas.{option_weaker, groups_end, groups_unended}
use Rattle.step_literals.proofs.directives.after_groups.Goals as goal

pub returns : goal.returns
returns c =
    option_weaker c.strip.result c.strip.ensures
    (λ h. groups_unended c.args.width c.hex_count-len.ensures c.if-len-width-ne0.false c.skip.ensures h)
    (λ after h. groups_end c.args.width c.hex_count-len.ensures c.if-len-width-ne0.false c.skip.ensures h)
