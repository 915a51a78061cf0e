use Rattle.std.proofs.Common.{rules, tests, ◌∙◌}
use Rattle.std.proofs.lemmas.Iterator.Search.{find_from_yields_List}
use Rattle.std.proofs.lemmas.Iterator.{YieldsList-from_slice}
use Rattle.graphs.specs.Graphs.{has}
use Rattle.population_forms.proofs.counts.first_in.Goals as goal

pub returns : goal.returns
returns c rise =
    c.copied.ensures ∙ find_from_yields_List (has c.args.row.now) _ _ _ c.find.ensures.ran
    (YieldsList-from_slice c.args.numbers.now cc) (λ x b q k. search (rules, tests, rise))
