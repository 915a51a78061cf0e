use Rattle.std.proofs.Common.{rules, tests, ◌∙◌}
use Rattle.std.proofs.lemmas.Iterator.Search.{position_from_yields_List}
use Rattle.std.proofs.lemmas.Iterator.Adapters.{position_from-zero}
use Rattle.std.proofs.lemmas.Iterator.{YieldsList-from_slice}
use Rattle.express_syntax.specs.ExpressionViews.{capitals}
use Rattle.schema_attribute_sources.specs.StoredAttributes.{is_inverse}
use Rattle.schema_attribute_sources.proofs.stored_attributes.inverse_among.Goals as goal

pub returns : goal.returns
returns c =
    let xs = c.args.inverses.now in
    let test = is_inverse c.args.asked.entity (capitals c.args.asked.name) in
    let run = position_from_yields_List test _ _ _ c.position.ensures.ran (YieldsList-from_slice xs cc)
    (λ x b q k. search (rules, tests)) in
    run ∙ position_from-zero test xs
