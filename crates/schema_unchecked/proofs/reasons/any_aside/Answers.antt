use Rattle.std.proofs.Common.{rules, tests, ◌∙◌}
use Rattle.std.proofs.lemmas.Iterator.Search.{any_from_yields_List}
use Rattle.std.proofs.lemmas.Iterator.{YieldsList-from_slice}
use Rattle.schema_unchecked.specs.steps.Surveyed.{is_aside}
use Rattle.schema_unchecked.proofs.reasons.any_aside.Goals as goal

pub returns : goal.returns
returns c =
    any_from_yields_List (is_aside c.args.ranks.now) _ _ _ c.any.ensures.ran (YieldsList-from_slice c.args.uses.now cc)
    (λ x b q k. search (rules, tests))
