use Rattle.std.proofs.Common.{[], ap, sym, ◌∙◌, refl}
use Rattle.express_syntax.specs.Words.{name, word_of}
use Rattle.express_syntax.specs.ExpressionViews.{capitals}
use Rattle.express_syntax.specs.declared.keyword.Keyword.TheVariants as keywords
use Rattle.express_token_runs.specs.steps.Items.{located_of}
use Rattle.express_syntax.specs.Texts.{token}
use Rattle.express_syntax.specs.steps.Predict.{AnAttribute}
use Rattle.express_syntax.proofs.Looking.{keyword_met, stops_refused}
use Rattle.express_syntax.proofs.Taking.{passes_token}
use Rattle.express_entities.proofs.AttributeSteps.{own_attribute, attribute_refused}
use Rattle.express_entities.proofs.attributes.attribute.Goals as goal

pub returns-then-is_keyword : goal.returns-then-is_keyword
returns-then-is_keyword c =
    own_attribute c.redeclared.result (located_of c.in_ok-item.item) c.args.reader.now c.take.new.self
    c.redeclared.new.reader c.in_ok-item.ensures
    (keyword_met keywords.SelfWord (located_of c.in_ok-item.item).lookahead (sym c.is_keyword.ensures
    ∙ c.if-is_keyword.true)) c.redeclared.ensures

pub returns-in-Name : goal.returns-in-Name
returns-in-Name c =
    passes_token AnAttribute [] (name (capitals c.in-Name.name)) (located_of c.in_ok-item.item) c.args.reader.now
    c.take.new.self c.in_ok-item.ensures (ap (λ l. token (word_of l)) c.in-Name.is) refl

pub returns-in_default : goal.returns-in_default
returns-in_default c =
    stops_refused c.refuse.result AnAttribute (located_of c.in_ok-item.item) c.args.reader.now c.take.new.self
    c.in_ok-item.ensures (attribute_refused c.in_ok-item.item.lexeme c.in_default.not-Name (sym c.is_keyword.ensures
    ∙ c.if-is_keyword.false)) c.refuse.ensures
