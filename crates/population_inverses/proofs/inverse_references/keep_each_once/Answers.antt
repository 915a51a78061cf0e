use Rattle.std.proofs.Common.{sym, ◌∙◌, ap, min, eqb}
use Rattle.std.proofs.lemmas.List.Filters.{dedup_is}
use Rattle.population_inverses.specs.steps.Targets.{often}
use Rattle.population_inverses.proofs.Once.{often-moved, kept-once}
use Rattle.population_inverses.proofs.inverse_references.keep_each_once.Goals as goal

pub returns : goal.returns
returns c y =
    let sorted = c.sort_unstable.new.self.items in
    ap (often y) (dedup_is eqb sorted c.dedup.new.self.items c.dedup.ensures.filtered)
    ∙ kept-once y sorted c.sort_unstable.ensures.sorted
    ∙ ap (λ n. min n 1) (sym (often-moved y c.args.names.now.items sorted c.sort_unstable.ensures.permutation))
