use Rattle.std.proofs.Common.{ap, subst, sym}
use Rattle.step_values.specs.steps.Building.{AreRunsOf}
use Rattle.step_values.proofs.rows.ValueRows.cells.Goals as goal

pub returns-clause-rows : goal.returns-clause-rows
returns-clause-rows c =
    let runs = c.self.inside.runs.items in
    subst (λ column. AreRunsOf column c.args.self.now.rows) (sym c.deref.ensures.value)
    ∣ (runs, c.self.invariant, ap (λ k. k.rows) (sym c.self.view_is)) ∣₁
