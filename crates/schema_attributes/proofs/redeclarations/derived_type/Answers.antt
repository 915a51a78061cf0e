use Rattle.std.proofs.Common.{rules, tests, ◌∙◌, sym}
use Rattle.std.proofs.lemmas.Iterator.Search.{position_from_yields_List}
use Rattle.std.proofs.lemmas.Iterator.{YieldsList-from_slice}
use Rattle.express_syntax.specs.ExpressionViews.{capitals}
use Rattle.express_syntax.specs.Views.{derived_of}
use Rattle.schema_explicit_attributes.specs.steps.Owned.{is_own}
use Rattle.schema_attributes.specs.steps.Searching.{types_own, derived_typing}
use Rattle.schema_attributes.proofs.FirstTypes.{sought-none, sought-some, types-own-alone}
use Rattle.schema_attributes.proofs.redeclarations.derived_type.Goals as goal

pub returns-in_err-place : goal.returns-in_err-place
returns-in_err-place c =
    let xs = c.args.deriveds.now in
    let a = capitals c.args.name in
    let run =
    position_from_yields_List (λ x. is_own a (derived_of x).attribute) _ _ _ c.position.ensures.ran
    (YieldsList-from_slice xs cc) (λ x b q k. search (rules, tests)) in
    c.from_residual.ensures
    ∙ sought-none derived_of derived_typing (types_own a) (λ x. is_own a (derived_of x).attribute)
    (λ x. types-own-alone a (derived_of x).attribute (derived_of x).data_type) c.args.row.now xs (sym c.in_err-place.was ∙ run)

pub returns : goal.returns
returns c =
    let xs = c.args.deriveds.now in
    let a = capitals c.args.name in
    let run =
    position_from_yields_List (λ x. is_own a (derived_of x).attribute) _ _ _ c.position.ensures.ran
    (YieldsList-from_slice xs cc) (λ x b q k. search (rules, tests)) in
    c.number_at.ensures
    ∙ sought-some derived_of derived_typing (types_own a) (λ x. is_own a (derived_of x).attribute)
    (λ x. types-own-alone a (derived_of x).attribute (derived_of x).data_type) c.args.row.now xs c.in_ok-place.place (sym c.in_ok-place.was ∙ run)
