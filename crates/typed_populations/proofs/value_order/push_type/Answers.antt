use Rattle.std.proofs.Common.{◌≡◌, ◌++◌, ◌∷◌, [], ◌∙◌, Some, None, map, sym, ap}
use Rattle.express_syntax.specs.ExpressionViews.{capitals}
use Rattle.express_syntax.specs.Views.{declaration_of, if_some}
use Rattle.step_values.specs.Views.{word_of}
use Rattle.schema_names.specs.Schemas.{the_schema}
use Rattle.schema_names.proofs.Numbers.{what-stands}
use Rattle.schema_names.proofs.Rows.{map-joined}
use Rattle.schema_underlying_types.specs.BaseViews.{name_at}
use Rattle.typed_populations.proofs.Orders.{has-item, word-is}
use Rattle.typed_populations.proofs.value_order.push_type.Goals as goal

pub name-requires : goal.name-requires
name-requires c =
    let s = the_schema c.args.names.now in
    let (d, at, named) = what-stands s (name_at s c.args.number) c.args.number c.requires in
    has-item declaration_of c.args.names.now.schema.now.declarations.items c.args.number d at

pub returns-in_ok-push : goal.returns-in_ok-push
returns-in_ok-push c =
    let s = the_schema c.args.names.now in
    let (d, at, named) = what-stands s (name_at s c.args.number) c.args.number c.requires in
    let old = c.args.types.now.items in
    ap (map word_of) c.in_ok-push.ensures.items
    ∙ map-joined word_of old (c.in-Some.name ∷ [])
    ∙ ap (λ n. map word_of old ++ n ∷ [])
    (word-is c.in-Some.name (name_at s c.args.number) (c.in-Some.ensures d at ∙ named))

pub returns-in_default : goal.returns-in_default
returns-in_default c =
    let s = the_schema c.args.names.now in
    let (d, at, named) = what-stands s (name_at s c.args.number) c.args.number c.requires in
    let none : None ≡ Some (name_at s c.args.number) =
    sym (ap (if_some capitals) c.in_default.is) ∙ c.name.ensures d at ∙ named in
    absurd (cc)
