use Rattle.std.proofs.Common.{rules, tests, ◌∙◌, sym}
use Rattle.std.proofs.lemmas.Iterator.Consumers.{count_from_yields_List, YieldsList-from_filter}
use Rattle.std.proofs.lemmas.Iterator.{YieldsList-from_slice}
use Rattle.population_forms.specs.steps.Marked.{has_two}
use Rattle.population_forms.proofs.Counted.{counted-mapped}
use Rattle.population_forms.proofs.counts.rows_with_two.Goals as goal

pub returns : goal.returns
returns c rise =
    count_from_yields_List c.filter.result _ c.count.ensures.ran
    (YieldsList-from_filter _ (λ v. has_two c.args.row.now v.items) (YieldsList-from_slice c.args.rows.now cc)
    c.filter.ensures.closure (λ x b q k. search (rules, tests, rise)))
    ∙ sym (counted-mapped (λ v. v.items) (has_two c.args.row.now) c.args.rows.now)
