use Rattle.std.proofs.Common.{rules, tests, ◌∙◌, ap, map}
use Rattle.std.proofs.lemmas.Iterator.Search.{any_from_yields_List}
use Rattle.std.proofs.lemmas.Iterator.{YieldsList-from_slice}
use Rattle.express_syntax.specs.ExpressionViews.{capitals}
use Rattle.express_syntax.specs.Views.{inverse_of}
use Rattle.express_syntax.specs.Schemas.{Inverse}
use Rattle.schema_semantics.specs.Names.{own_names}
use Rattle.schema_explicit_attributes.specs.steps.Owned.{is_own, includes}
use Rattle.schema_names.proofs.Clauses.{clause-listed}
use Rattle.schema_explicit_attributes.proofs.Owning.{any-mapped, own-mapped}
use Rattle.schema_explicit_attributes.proofs.own_attributes.any_inverse.Goals as goal

pub returns : goal.returns
returns c =
    let xs = c.inverse_attributes.result.now in
    let a = capitals c.args.name in
    let run =
    any_from_yields_List (λ x. is_own a (inverse_of x).attribute) _ _ _ c.any.ensures.ran (YieldsList-from_slice xs cc)
    (λ x b q k. search (rules, tests)) in
    run ∙ any-mapped inverse_of (λ (y : Inverse). is_own a y.attribute) xs
    ∙ own-mapped (λ (y : Inverse). y.attribute) a (map inverse_of xs)
    ∙ ap (λ ys. includes (own_names (map (λ (y : Inverse). y.attribute) ys)) a)
    (clause-listed inverse_of c.args.entity.now.inverses xs c.inverse_attributes.ensures)
