use Rattle.std.proofs.Common.{sym, ap, ◌∙◌, ◌≡◌, [], ◌∷◌, ◌++◌}
use Rattle.std.proofs.lemmas.Result.{err_from_is_err_and}
use Rattle.express_syntax.specs.Words.{word_of}
use Rattle.express_token_runs.specs.steps.Items.{located_of}
use Rattle.express_syntax.specs.Views.{rule_of, rules_of}
use Rattle.express_syntax.specs.steps.Predict.{Rules, EndOfText}
use Rattle.express_parts.proofs.RuleSteps.{rules_next, rules_err_first, rules_err_rule, rules_err_end, rules_done, rules_smaller}
use Rattle.express_syntax.proofs.SameText.{passes_text, shows_text, kept}
use Rattle.express_syntax.specs.Sources.{IsRuleOf}
use Rattle.express_parts.proofs.rules.rules.Goals as goal
use Rattle.express_syntax.proofs.Lists.{map_push, every_push}

pub returns-in_err-first-clause-read : goal.returns-in_err-first-clause-read
returns-in_err-first-clause-read c =
    let p = err_from_is_err_and c.from_residual.result c.from_residual.ensures.1 in
    rw (p.1, p.2) (rules_err_first _ c.args.end (rules_of c.loop-rules.rules.items) c.args.reader.now
    c.loop-rules.reader c.loop-rules.invariant.0 (c.in_err-first.ensures (Rules c.args.end)
    (λ (e : Rules c.args.end ≡ EndOfText). cc)))

pub returns-in_err-expect-clause-read : goal.returns-in_err-expect-clause-read
returns-in_err-expect-clause-read c =
    let p = err_from_is_err_and c.from_residual-in_err-expect.result c.from_residual-in_err-expect.ensures.1 in
    rw (p.1, p.2) (rules_err_end _ c.args.end (rules_of c.loop-rules.rules.items) (located_of c.in_ok-first.first)
    c.args.reader.now c.loop-rules.reader c.take.new.self c.loop-rules.invariant.0 c.in_ok-first.ensures
    (sym c.is_keyword.ensures ∙ c.if-is_keyword.true) c.in_err-expect.ensures)

pub returns-then-is_keyword-clause-read : goal.returns-then-is_keyword-clause-read
returns-then-is_keyword-clause-read c =
    rw c.shrink_to_fit.ensures.items (rules_done c.args.end (rules_of c.loop-rules.rules.items)
    (located_of c.in_ok-first.first) c.args.reader.now c.loop-rules.reader c.take.new.self c.expect.new.self
    c.loop-rules.invariant.0 c.in_ok-first.ensures (sym c.is_keyword.ensures ∙ c.if-is_keyword.true)
    c.in_ok-expect.ensures)

pub returns-in_err-rule-clause-read : goal.returns-in_err-rule-clause-read
returns-in_err-rule-clause-read c =
    let p = err_from_is_err_and c.from_residual-in_err-rule.result c.from_residual-in_err-rule.ensures.1 in
    rw (p.1, p.2) (rules_err_rule _ c.args.end (rules_of c.loop-rules.rules.items) (located_of c.in_ok-first.first)
    c.args.reader.now c.loop-rules.reader c.take.new.self c.loop-rules.invariant.0 c.in_ok-first.ensures
    (c.in_err-rule.ensures.read c.args.end (sym c.is_keyword.ensures ∙ c.if-is_keyword.false)))

pub loop-rules-smaller : goal.loop-rules-smaller
loop-rules-smaller c =
    rules_smaller c.args.end (word_of c.in_ok-first.first.lexeme) c.in_ok-first.first.place (rule_of c.in_ok-rule.rule)
    c.loop-rules.reader c.take.new.self c.rule_from.new.reader c.in_ok-first.ensures
    (c.in_ok-rule.ensures.read c.args.end (sym c.is_keyword.ensures ∙ c.if-is_keyword.false))

pub loop-rules-preserved : goal.loop-rules-preserved
loop-rules-preserved c =
    let e : rules_of c.push.new.self.items ≡ rules_of c.loop-rules.rules.items ++ rule_of c.in_ok-rule.rule ∷ [] =
    ap rules_of c.in_ok-push.ensures.items ∙ map_push rule_of c.loop-rules.rules.items c.in_ok-rule.rule in
    let f = shows_text _ _ _ c.in_ok-first.ensures ∙ passes_text c.loop-rules.invariant.0.passes in (
      rw e (rules_next c.args.end (rules_of c.loop-rules.rules.items) (rule_of c.in_ok-rule.rule)
          (located_of c.in_ok-first.first) c.args.reader.now c.loop-rules.reader c.take.new.self c.rule_from.new.reader
          c.loop-rules.invariant.0 c.in_ok-first.ensures (c.in_ok-rule.ensures.read c.args.end (sym c.is_keyword.ensures
          ∙ c.if-is_keyword.false))),
      rw c.in_ok-push.ensures.items (every_push (IsRuleOf c.args.reader.now.text) c.loop-rules.rules.items
          c.in_ok-rule.rule c.loop-rules.invariant.1 (kept IsRuleOf c.in_ok-rule.rule f c.in_ok-rule.ensures.text)),
    )

pub returns-then-is_keyword-clause-text : goal.returns-then-is_keyword-clause-text
returns-then-is_keyword-clause-text c = rw c.shrink_to_fit.ensures.items c.loop-rules.invariant.1
