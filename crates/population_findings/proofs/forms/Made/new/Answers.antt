use Rattle.population_findings.proofs.Makings.{none-made}
use Rattle.population_findings.proofs.forms.Made.new.Goals as goal

pub returns : goal.returns
returns c = λ s.
    none-made s _ c.in_ok-no_numbers.ensures c.with_hasher.ensures.empty c.new.ensures.items c.new-2.ensures.items
