use Rattle.std.proofs.Common.{◌∙◌, ◌++◌, ◌∷◌, sym, subst}
use Rattle.std.proofs.lemmas.Option.{MatchOption-at_some, MatchOption-at_none}
use Rattle.express_syntax.specs.ExpressionViews.{capitals, literal_of}
use Rattle.schema_names.specs.Schemas.{the_schema}
use Rattle.schema_expression_types.specs.steps.Characters.{AreCharacters, SaysIn}
use Rattle.schema_expression_types.proofs.Capitals.{said-bytes}
use Rattle.schema_expression_types.proofs.Saying.{is-said}
use Rattle.schema_expression_types.proofs.type_strings.said_literal.Goals as goal

pub returns-in_default-2 : goal.returns-in_default-2
returns-in_default-2 c n i says k =
    let schema = c.args.names.now.schema.now in
    let cs = capitals schema.name ++ 46 ∷ n in
    let chars : AreCharacters (literal_of c.args.literal.now) c.in-Some.items.items =
    MatchOption-at_some _ _ c.in-Some.items c.in-Some.is c.in_ok-items.ensures in
    let none = MatchOption-at_none _ _ c.in_default-2.is c.in_ok-text.ensures in
    said-bytes schema n i k (λ small. none cs small (c.deref.ensures.value ∙ (chars cs).0 says))

pub returns : goal.returns
returns c =
    let s = the_schema c.args.names.now in
    let chars : AreCharacters (literal_of c.args.literal.now) c.in-Some.items.items =
    MatchOption-at_some _ _ c.in-Some.items c.in-Some.is c.in_ok-items.ensures in
    let text = MatchOption-at_some _ _ c.in-Some-2.text c.in-Some-2.is c.in_ok-text.ensures in
    is-said s (literal_of c.args.literal.now) c.in-Some.items.items c.in-Some-2.text.items c.said_in.result chars
    (sym c.deref.ensures.value ∙ text)
    (subst (λ t. SaysIn s t c.said_in.result) c.deref-2.ensures.value c.said_in.ensures)
