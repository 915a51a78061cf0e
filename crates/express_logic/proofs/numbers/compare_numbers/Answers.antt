use Rattle.std.proofs.Common.{int_cmp, sym, ◌∙◌}
use Rattle.express_logic.specs.Views.{worth}
use Rattle.express_logic.proofs.Ordered.{counts_by}
use Rattle.express_logic.proofs.numbers.compare_numbers.Goals as goal

pub returns-in-Count-Count : goal.returns-in-Count-Count
returns-in-Count-Count c =
    let x = c.in-Count-Count in
    counts_by x.count x.other c.cmp.result c.cmp.ensures
    ∙ (λ i. int_cmp (worth (sym x.is-0 i)) (worth (sym x.is-1 i)))
