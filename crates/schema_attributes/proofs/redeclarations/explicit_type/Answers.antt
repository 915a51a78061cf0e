use Rattle.std.proofs.Common.{rules, tests, ◌∙◌, sym, refl}
use Rattle.std.proofs.lemmas.Iterator.Search.{position_from_yields_List}
use Rattle.std.proofs.lemmas.Iterator.{YieldsList-from_slice}
use Rattle.express_syntax.specs.ExpressionViews.{capitals}
use Rattle.express_syntax.specs.Views.{explicit_of}
use Rattle.schema_attributes.specs.steps.Searching.{types_own, explicit_typing}
use Rattle.schema_attributes.proofs.FirstTypes.{sought-none, sought-some}
use Rattle.schema_attributes.proofs.redeclarations.explicit_type.Goals as goal

pub returns-in_err-place : goal.returns-in_err-place
returns-in_err-place c =
    let xs = c.args.explicits.now in
    let a = capitals c.args.name in
    let run =
    position_from_yields_List (λ x. types_own a (explicit_typing (explicit_of x))) _ _ _ c.position.ensures.ran
    (YieldsList-from_slice xs cc) (λ x b q k. search (rules, tests)) in
    c.from_residual.ensures
    ∙ sought-none explicit_of explicit_typing (types_own a) (λ x. types_own a (explicit_typing (explicit_of x)))
    (λ x. refl) c.args.row.now xs (sym c.in_err-place.was ∙ run)

pub returns : goal.returns
returns c =
    let xs = c.args.explicits.now in
    let a = capitals c.args.name in
    let run =
    position_from_yields_List (λ x. types_own a (explicit_typing (explicit_of x))) _ _ _ c.position.ensures.ran
    (YieldsList-from_slice xs cc) (λ x b q k. search (rules, tests)) in
    c.number_at.ensures
    ∙ sought-some explicit_of explicit_typing (types_own a) (λ x. types_own a (explicit_typing (explicit_of x)))
    (λ x. refl) c.args.row.now xs c.in_ok-place.place (sym c.in_ok-place.was ∙ run)
