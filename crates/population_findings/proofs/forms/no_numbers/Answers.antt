use Rattle.std.proofs.Common.{◌≡◌, ℕ, None, sym, subst}
use Rattle.population_findings.specs.steps.Making.{number_in}
use Rattle.population_findings.proofs.Makings.{no-number}
use Rattle.population_findings.proofs.forms.no_numbers.Goals as goal

pub loop-preserved : goal.loop-preserved
loop-preserved c =
    λ (i : ℕ). subst (λ os. number_in os i ≡ None) (sym c.in_ok-push.ensures.items)
    (no-number c.loop.numbers.items c.loop.invariant i)
