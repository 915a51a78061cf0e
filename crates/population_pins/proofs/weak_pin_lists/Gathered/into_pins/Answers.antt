use Rattle.std.proofs.Common.{subst, ◌∙◌}
use Rattle.std.specs.BTreeSet.{IsFromIterResult}
use Rattle.std.specs.Ordering.{nat_cmp}
use Rattle.std.proofs.IntoIterSteps.{All-taken}
use Rattle.population_pins.proofs.weak_pin_lists.Gathered.into_pins.Goals as goal

pub returns-clause-names : goal.returns-clause-names
returns-clause-names c y =
    let h = c.in_ok-names.ensures.ran in
    (subst (λ names. IsFromIterResult nat_cmp names c.in_ok-names.names)
    (All-taken h.0 h.1 ((h.3.2 tt).0, (h.3.0, h.3.1, (h.3.2 tt).1)) ∙ h.2.0) h.4).0 y
