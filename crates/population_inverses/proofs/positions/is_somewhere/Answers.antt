use Rattle.std.specs.Prelude.{is_some}
use Rattle.std.proofs.Common.{rules, tests}
use Rattle.std.proofs.lemmas.Iterator.Search.{any_from_yields_List}
use Rattle.std.proofs.lemmas.Iterator.{YieldsList-from_slice}
use Rattle.population_inverses.proofs.positions.is_somewhere.Goals as goal

pub returns : goal.returns
returns c =
    any_from_yields_List is_some _ _ _ c.any.ensures.ran (YieldsList-from_slice c.args.positions.now cc)
    (λ x b q k. search (rules, tests))
