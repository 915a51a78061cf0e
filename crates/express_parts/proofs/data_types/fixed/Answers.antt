use Rattle.std.proofs.lemmas.Result.{err_from_is_err_and}
use Rattle.std.proofs.Common.{sym, ◌∙◌}
use Rattle.express_token_runs.specs.steps.Items.{located_of}
use Rattle.express_parts.specs.steps.Endings.{ending_of}
use Rattle.express_parts.proofs.DataTypeSteps.{fixed_stopped, fixed_said, fixed_refused, fixed_unsaid}
use Rattle.express_parts.proofs.data_types.fixed.Goals as goal

pub returns-in_err-expect_end : goal.returns-in_err-expect_end
returns-in_err-expect_end c =
    let p = err_from_is_err_and c.from_residual-in_err-expect_end.result c.from_residual-in_err-expect_end.ensures.1 in
    rw (p.1, p.2) (fixed_stopped _ (ending_of c.args.end) (located_of c.in_ok-first.first) c.args.reader.now
    c.take.new.self c.in_ok-first.ensures (sym c.is_keyword.ensures ∙ c.if-is_keyword.true)
    c.in_err-expect_end.ensures)

pub returns-then-is_keyword : goal.returns-then-is_keyword
returns-then-is_keyword c = fixed_said (ending_of c.args.end) (located_of c.in_ok-first.first) c.args.reader.now
    c.take.new.self c.expect_end.new.reader c.in_ok-first.ensures (sym c.is_keyword.ensures ∙ c.if-is_keyword.true)
    c.in_ok-expect_end.ensures

pub returns-then-not-is_end : goal.returns-then-not-is_end
returns-then-not-is_end c = fixed_refused c.refuse.result (ending_of c.args.end) (located_of c.in_ok-first.first)
    c.args.reader.now c.take.new.self c.in_ok-first.ensures (sym c.is_keyword.ensures ∙ c.if-is_keyword.false)
    (sym c.is_end.ensures ∙ c.if-not-is_end.true) c.refuse.ensures

pub returns : goal.returns
returns c = fixed_unsaid (ending_of c.args.end) (located_of c.in_ok-first.first) c.args.reader.now c.take.new.self
    c.in_ok-first.ensures (sym c.is_end.ensures ∙ c.if-not-is_end.false)
