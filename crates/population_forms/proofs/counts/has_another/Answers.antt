use Rattle.std.proofs.Common.{rules, tests, not, ◌==◌, ◌&&◌}
use Rattle.std.proofs.lemmas.Iterator.Search.{any_from_yields_List}
use Rattle.std.proofs.lemmas.Iterator.{YieldsList-from_slice}
use Rattle.graphs.specs.Graphs.{has}
use Rattle.population_forms.proofs.counts.has_another.Goals as goal

pub returns : goal.returns
returns c rise =
    any_from_yields_List (λ i. not (i == c.args.first) && has c.args.row.now i) _ _ _ c.any.ensures.ran
    (YieldsList-from_slice c.args.numbers.now cc) (λ x b q k. search (rules, tests, rise))
