use Rattle.std.proofs.Common.{rules, tests, ◌∙◌, map}
use Rattle.std.proofs.lemmas.Iterator.Search.{any_from_yields_List}
use Rattle.std.proofs.lemmas.Iterator.{YieldsList-from_slice}
use Rattle.express_syntax.specs.ExpressionViews.{capitals}
use Rattle.express_syntax.specs.Views.{explicit_of}
use Rattle.express_syntax.specs.Schemas.{Explicit}
use Rattle.schema_semantics.specs.Names.{own_names}
use Rattle.schema_explicit_attributes.specs.steps.Owned.{includes}
use Rattle.schema_explicit_attributes.proofs.Owning.{any-mapped, each-listed}
use Rattle.schema_explicit_attributes.proofs.own_attributes.any_explicit.Goals as goal

pub returns : goal.returns
returns c =
    let xs = c.args.entity.now.explicits.items in
    let a = capitals c.args.name in
    let run =
    any_from_yields_List (λ x. includes (own_names (explicit_of x).attributes) a) _ _ _ c.any.ensures.ran
    (YieldsList-from_slice xs cc) (λ x b q k. search (rules, tests)) in
    run ∙ any-mapped explicit_of (λ (x : Explicit). includes (own_names x.attributes) a) xs
    ∙ each-listed (λ (x : Explicit). own_names x.attributes) a (map explicit_of xs)
