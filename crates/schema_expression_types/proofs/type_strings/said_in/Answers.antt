use Rattle.std.proofs.Common.{◌≡◌, ◌∙◌, false, true, ap, sym}
use Rattle.step_literals.specs.Words.{upper}
use Rattle.schema_expression_types.proofs.Capitals.{said-capitals, behind-capitals, says-in}
use Rattle.schema_expression_types.proofs.type_strings.said_in.Goals as goal

pub returns-then-not-is_in_capitals : goal.returns-then-not-is_in_capitals
returns-then-not-is_in_capitals c n i e k =
    let capital = ap upper e ∙ said-capitals c.args.names.now.schema.now n i k ∙ sym e in
    let q : false ≡ true = sym c.if-not-is_in_capitals.true ∙ c.is_in_capitals.ensures.1 capital in absurd (cc)

pub find-requires : goal.find-requires
find-requires c =
    behind-capitals c.args.names.now.schema.now.name.text.now c.args.text.now c.in_ok-behind_schema.field-0.now
    (c.is_in_capitals.ensures.0 c.if-not-is_in_capitals.false) c.in_ok-behind_schema.ensures

pub returns : goal.returns
returns c =
    says-in c.args.names.now.schema.now c.args.text.now c.in_ok-behind_schema.field-0.now c.find.result
    c.in_ok-behind_schema.ensures c.find.ensures
