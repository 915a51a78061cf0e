use Rattle.std.proofs.Common.{rules, tests, ◌∙◌}
use Rattle.std.proofs.lemmas.Iterator.Search.{any_from_yields_List}
use Rattle.std.proofs.lemmas.Iterator.{YieldsList-from_slice}
use Rattle.express_syntax.specs.ExpressionViews.{capitals}
use Rattle.express_syntax.specs.Views.{attribute_of}
use Rattle.schema_explicit_attributes.specs.steps.Owned.{is_own}
use Rattle.schema_explicit_attributes.proofs.Owning.{any-mapped}
use Rattle.schema_attributes.proofs.redeclarations.any_own.Goals as goal

pub returns : goal.returns
returns c =
    let xs = c.args.attributes.now in
    let a = capitals c.args.name in
    let run =
    any_from_yields_List (λ x. is_own a (attribute_of x)) _ _ _ c.any.ensures.ran (YieldsList-from_slice xs cc)
    (λ x b q k. search (rules, tests)) in
    run ∙ any-mapped attribute_of (is_own a) xs
