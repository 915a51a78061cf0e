use Rattle.std.proofs.Common.{◌≡◌, ◌∙◌, sym, subst, refl, Ok}
use Rattle.std.proofs.lemmas.Iterator.{items_from_collect}
use Rattle.std.proofs.lemmas.Iterator.Consumers.{YieldsList-from_first}
use Rattle.express_lexer.specs.steps.Left.{characters_left, codes_left}
use Rattle.express_syntax.specs.declared.expression.Literal.{Literal}
use Rattle.express_syntax.specs.ExpressionViews.{literal_of}
use Rattle.schema_expression_types.specs.steps.Characters.{AreCharacters}
use Rattle.schema_expression_types.proofs.Literals.{plain-characters, encoded-characters}
use Rattle.schema_expression_types.proofs.type_strings.characters.Goals as goal

pub returns-in_ok-collect-in-String : goal.returns-in_ok-collect-in-String
returns-in_ok-collect-in-String c =
    let string = c.in-String.string in
    let items = c.in_ok-collect-in-String.field-0.items in
    let all : items ≡ characters_left c.characters.result =
    items_from_collect {E = Unit {0}} (Ok c.in_ok-collect-in-String.field-0) c.in_ok-collect-in-String.ensures.ran
    (YieldsList-from_first (λ x. x) characters_left (characters_left c.characters.result) refl) in
    subst (λ (l : Literal). AreCharacters (literal_of l) items) (sym c.in-String.is)
    (plain-characters string.text.now items string.spelled (λ content e. all ∙ c.characters.ensures content e))

pub returns-in_ok-collect-in-Encoded : goal.returns-in_ok-collect-in-Encoded
returns-in_ok-collect-in-Encoded c =
    let string = c.in-Encoded.string in
    let items = c.in_ok-collect-in-Encoded.field-0.items in
    let all : items ≡ codes_left c.characters-in-Encoded.result =
    items_from_collect {E = Unit {0}} (Ok c.in_ok-collect-in-Encoded.field-0) c.in_ok-collect-in-Encoded.ensures.ran
    (YieldsList-from_first (λ x. x) codes_left (codes_left c.characters-in-Encoded.result) refl) in
    subst (λ (l : Literal). AreCharacters (literal_of l) items) (sym c.in-Encoded.is)
    (encoded-characters string.text.now items string.spelled
    (λ digits e. all ∙ c.characters-in-Encoded.ensures digits e))
