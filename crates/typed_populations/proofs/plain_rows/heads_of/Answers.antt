use Rattle.std.proofs.Common.{length, sym, subst}
use Rattle.std.proofs.Math.Logic.{∥∥₁_elim}
use Rattle.step_exchange.specs.Sections.{CountsTo}
use Rattle.step_exchange.proofs.Counts.{counts-prop}
use Rattle.typed_populations.proofs.plain_rows.heads_of.Goals as goal

pub row_sections-requires : goal.row_sections-requires
row_sections-requires c =
    let x = c.args.exchange.now in (
      length x.names,
      subst (λ ss. CountsTo 0 ss (length x.names)) (sym c.deref.ensures.value)
          (∥∥₁_elim x.counted (counts-prop 0 x.sections.items (length x.names)) (λ h. h)),
    )
