use Rattle.std.proofs.lemmas.Result.{err_from_is_err_and}
use Rattle.std.proofs.Common.{sym, ◌∙◌}
use Rattle.express_token_runs.specs.steps.Items.{located_of}
use Rattle.express_syntax.specs.Views.{rules_of}
use Rattle.express_reader.proofs.TypeSteps.{where_stopped, where_done, type_end_refused, type_end_stopped, type_end_done}
use Rattle.express_syntax.proofs.SameText.{shows_text, kept}
use Rattle.express_syntax.specs.Sources.{IsRuleOf}
use Rattle.express_syntax.specs.Profile.{Every}
use Rattle.express_reader.proofs.types.rules_to_end.Goals as goal

pub returns-in_err-rules-clause-read : goal.returns-in_err-rules-clause-read
returns-in_err-rules-clause-read c =
    let p = err_from_is_err_and c.from_residual-in_err-rules.result c.from_residual-in_err-rules.ensures.1 in
    rw (p.1, p.2) (where_stopped _ (located_of c.in_ok-first.first) c.args.reader.now c.take.new.self
    c.in_ok-first.ensures (sym c.is_keyword.ensures ∙ c.if-is_keyword.true) c.in_err-rules.ensures.read)

pub returns-then-is_keyword-clause-read : goal.returns-then-is_keyword-clause-read
returns-then-is_keyword-clause-read c =
    let h = c.in_ok-rules.ensures.read in (
      h.0,
      where_done (rules_of c.in_ok-rules.rules.items) (located_of c.in_ok-first.first) c.args.reader.now
          c.take.new.self c.rules.new.reader c.in_ok-first.ensures (sym c.is_keyword.ensures ∙ c.if-is_keyword.true)
          h.1,
    )

pub returns-then-not-is_keyword-clause-read : goal.returns-then-not-is_keyword-clause-read
returns-then-not-is_keyword-clause-read c =
    type_end_refused c.refuse.result (located_of c.in_ok-first.first) c.args.reader.now
    c.take.new.self c.in_ok-first.ensures (sym c.is_keyword.ensures ∙ c.if-is_keyword.false) (sym c.is_keyword-2.ensures
    ∙ c.if-not-is_keyword.true) c.refuse.ensures

pub returns-in_err-expect-clause-read : goal.returns-in_err-expect-clause-read
returns-in_err-expect-clause-read c =
    let p = err_from_is_err_and c.from_residual-in_err-expect.result c.from_residual-in_err-expect.ensures.1 in
    rw (p.1, p.2) (type_end_stopped _ (located_of c.in_ok-first.first) c.args.reader.now c.take.new.self
    c.in_ok-first.ensures (sym c.is_keyword-2.ensures ∙ c.if-not-is_keyword.false) c.in_err-expect.ensures)

pub returns-clause-read : goal.returns-clause-read
returns-clause-read c = (
  tt,
  type_end_done (located_of c.in_ok-first.first) c.args.reader.now c.take.new.self c.expect.new.self
      c.in_ok-first.ensures (sym c.is_keyword-2.ensures ∙ c.if-not-is_keyword.false) c.in_ok-expect.ensures,
)

pub returns-then-is_keyword-clause-text : goal.returns-then-is_keyword-clause-text
returns-then-is_keyword-clause-text c = kept (λ t rs. Every (IsRuleOf t) rs) c.in_ok-rules.rules.items
    (shows_text _ _ _ c.in_ok-first.ensures) c.in_ok-rules.ensures.text
