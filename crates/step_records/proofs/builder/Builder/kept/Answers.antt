use Rattle.std.proofs.Common.{ap, ◌∙◌}
use Rattle.step_records.specs.steps.Building.{kept_by}
use Rattle.step_records.proofs.Built.{pending_dropped}
use Rattle.step_records.proofs.builder.Builder.kept.Goals as goal

pub of-requires : goal.of-requires
of-requires c =
    let v = c.self.inside in
    rw (c.column.ensures, c.deref.ensures.value) (pending_dropped v.text.now v.cells.column v.kept.items v.cells.pending
    c.self.invariant)

pub returns : goal.returns
returns c =
    let v = c.self.inside in
    c.of.ensures ∙ (λ i. kept_by v.text.now (c.column.ensures i) (c.deref.ensures.value i))
    ∙ ap (λ b. b.kept) c.self.view_is
