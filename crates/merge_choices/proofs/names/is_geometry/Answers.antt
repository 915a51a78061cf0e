use Rattle.std.proofs.Common.{rules, tests}
use Rattle.std.proofs.lemmas.Iterator.Search.{any_from_yields_List}
use Rattle.std.proofs.lemmas.Iterator.{YieldsList-from_slice}
use Rattle.std.specs.Str.{bytes_eq}
use Rattle.step_literals.specs.Words.{upper}
use Rattle.merge_choices.proofs.names.is_geometry.Goals as goal

pub returns : goal.returns
returns c =
    any_from_yields_List (λ r. bytes_eq (upper c.args.name.now) (upper r.now)) _ _ _ c.any.ensures.ran
    (YieldsList-from_slice _ c.iter.ensures.rest) (λ x b q k. search (rules, tests))
