use Rattle.std.proofs.Common.{sym, ◌∙◌}
use Rattle.step_records.proofs.Joined.{literal_stands}
use Rattle.step_records.proofs.stretch.literal_place.Goals as goal

pub returns-then-is_literal : goal.returns-then-is_literal
returns-then-is_literal c = λ says. literal_stands c.args.text.now says c.args.cell.kind c.args.cell.at c.args.cell.len
    (sym c.is_literal.ensures ∙ c.if-is_literal.true) c.requires
