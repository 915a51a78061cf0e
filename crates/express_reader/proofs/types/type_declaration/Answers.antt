use Rattle.std.proofs.lemmas.Result.{err_from_is_err_and}
use Rattle.std.proofs.Common.{◌∙◌, [], ◌∷◌, ◌++◌}
use Rattle.express_lexer.specs.declared.marks.Mark.TheVariants as marks
use Rattle.express_syntax.specs.Words.{mark}
use Rattle.express_syntax.specs.ExpressionViews.{capitals}
use Rattle.express_syntax.specs.Views.{underlying_of, type_of}
use Rattle.express_syntax.specs.WrittenSchemas.{words_of_underlying}
use Rattle.express_reader.proofs.TypeSteps.{type_unequal, type_underlying, type_unended, type_done}
use Rattle.express_syntax.proofs.SameText.{passes_text, kept}
use Rattle.express_syntax.specs.Sources.{IsUnderlyingOf, IsRuleOf}
use Rattle.express_syntax.specs.Profile.{Every, Maybe}
use Rattle.express_reader.proofs.types.type_declaration.Goals as goal

pub returns-in_err-expect-clause-read : goal.returns-in_err-expect-clause-read
returns-in_err-expect-clause-read c =
    let p = err_from_is_err_and c.from_residual-in_err-expect.result c.from_residual-in_err-expect.ensures.1 in
    rw (p.1, p.2) (type_unequal _ (capitals c.in_ok-name.name) c.args.reader.now c.expect_name.new.self
    c.in_ok-name.ensures c.in_err-expect.ensures)

pub returns-in_err-underlying-clause-read : goal.returns-in_err-underlying-clause-read
returns-in_err-underlying-clause-read c =
    let p = err_from_is_err_and c.from_residual-in_err-underlying.result c.from_residual-in_err-underlying.ensures.1 in
    rw (p.1, p.2) (type_underlying _ (capitals c.in_ok-name.name) c.args.reader.now c.expect_name.new.self
    c.expect.new.self c.in_ok-name.ensures c.in_ok-expect.ensures c.in_err-underlying.ensures.read)

pub returns-in_err-rules-clause-read : goal.returns-in_err-rules-clause-read
returns-in_err-rules-clause-read c =
    let p = err_from_is_err_and c.from_residual-in_err-rules.result c.from_residual-in_err-rules.ensures.1 in
    rw (p.1, p.2) (type_unended _ (capitals c.in_ok-name.name)
    (words_of_underlying (underlying_of c.in_ok-underlying.underlying) ++ mark marks.Semicolon ∷ [])
    c.args.reader.now c.expect_name.new.self c.expect.new.self c.underlying.new.reader c.in_ok-name.ensures
    c.in_ok-expect.ensures c.in_ok-underlying.ensures.read.1 c.in_err-rules.ensures.read)

pub returns-clause-read : goal.returns-clause-read
returns-clause-read c =
    type_done (type_of (record {
      name = c.in_ok-name.name;
      underlying = c.in_ok-underlying.underlying;
      rules = c.in_ok-rules.rules;
    }))
    c.args.reader.now c.expect_name.new.self c.expect.new.self c.underlying.new.reader c.rules_to_end.new.reader
    c.in_ok-name.ensures c.in_ok-expect.ensures c.in_ok-underlying.ensures.read c.in_ok-rules.ensures.read

pub returns-clause-text : goal.returns-clause-text
returns-clause-text c =
    let e = passes_text c.in_ok-expect.ensures ∙ passes_text c.in_ok-name.ensures in (
      kept IsUnderlyingOf c.in_ok-underlying.underlying e c.in_ok-underlying.ensures.text,
      kept (λ t x. Maybe (λ rs. Every (IsRuleOf t) rs.items) x) c.in_ok-rules.rules
          (passes_text c.in_ok-underlying.ensures.read.1 ∙ e) c.in_ok-rules.ensures.text,
    )
