use Rattle.std.proofs.Common.{rules, tests, not}
use Rattle.std.proofs.lemmas.Iterator.Consumers.{count_from_yields_List, YieldsList-from_filter}
use Rattle.std.proofs.lemmas.Iterator.{YieldsList-from_slice}
use Rattle.graphs.specs.Graphs.{has}
use Rattle.population_forms.proofs.counts.numbers_outside.Goals as goal

pub returns : goal.returns
returns c rise =
    count_from_yields_List c.filter.result _ c.count.ensures.ran
    (YieldsList-from_filter _ (λ i. not (has c.args.row.now i)) (YieldsList-from_slice c.args.numbers.now cc)
    c.filter.ensures.closure (λ x b q k. search (rules, tests, rise)))
