use Rattle.std.proofs.Common.{ap, ◌∙◌}
use Rattle.step_records.specs.steps.Building.{built}
use Rattle.step_records.proofs.builder.Builder.reserve.Goals as goal

pub returns-in_err-reserve : goal.returns-in_err-reserve
returns-in_err-reserve c =
    ap (λ k. built c.self.inside.text.now k.column c.self.inside.kept.items k.pending) c.reserve.ensures
    ∙ c.self.view_is

pub returns : goal.returns
returns c =
    (λ i. built c.self.inside.text.now (c.reserve.ensures i).column (c.reserve-2.ensures.items i)
    (c.reserve.ensures i).pending) ∙ c.self.view_is
