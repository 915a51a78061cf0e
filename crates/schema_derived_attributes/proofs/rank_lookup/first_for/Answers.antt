use Rattle.std.proofs.Common.{rules, tests, ◌∙◌, ap}
use Rattle.std.proofs.lemmas.Iterator.Search.{position_from_yields_List}
use Rattle.std.proofs.lemmas.Iterator.Adapters.{position_from-zero}
use Rattle.std.proofs.lemmas.Iterator.{YieldsList-from_slice}
use Rattle.express_syntax.specs.ExpressionViews.{capitals}
use Rattle.express_syntax.specs.Views.{derived_of}
use Rattle.schema_derived_attributes.specs.steps.Asked.{derives, first_for}
use Rattle.schema_derived_attributes.proofs.Asking.{position-mapped}
use Rattle.schema_derived_attributes.proofs.rank_lookup.first_for.Goals as goal

pub returns : goal.returns
returns c =
    let xs = c.deriveds_in.result.now in
    let a = capitals c.args.name in
    let run = position_from_yields_List (λ x. derives a (derived_of x)) _ _ _ c.position.ensures.ran
    (YieldsList-from_slice xs cc) (λ x b q k. search (rules, tests)) in
    run ∙ position_from-zero (λ x. derives a (derived_of x)) xs ∙ position-mapped derived_of (derives a) 0 xs
    ∙ ap (first_for a) c.deriveds_in.ensures
