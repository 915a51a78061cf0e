use Rattle.std.proofs.Common.{rules, ◌+◌, ◌<◌, ◌≤◌, length}
use Rattle.express_syntax.specs.declared.fault.FaultKind.TheVariants as fault_kinds
use Rattle.express_syntax.specs.Grammar.{depth_limit}
use Rattle.express_syntax.specs.steps.Predict as table
use Rattle.express_token_runs.specs.steps.OpenRuns.{bracket_of, brackets_of}
use Rattle.express_token_runs.proofs.RunSteps.{agrees_fault, opened_deep, opened_next}
use Rattle.express_token_runs.proofs.runs.opened.Goals as goal

pub returns-then-around-len : goal.returns-then-around-len
returns-then-around-len c =
    let e : depth_limit ≤ c.args.around + length c.args.open.now.items = search rules in
    λ part. agrees_fault (table.opened depth_limit part c.args.around (brackets_of c.args.open.now.items)
    (bracket_of c.args.bracket)) part c.args.around (brackets_of c.args.open.now.items) c.args.place
    fault_kinds.TooDeep c.fault.result c.fault.ensures
    (opened_deep part c.args.around c.args.open.now.items (bracket_of c.args.bracket) e)

pub returns : goal.returns
returns c =
    let e : c.args.around + length c.args.open.now.items < depth_limit = search rules in
    λ part. opened_next part c.args.around c.args.open.now.items c.push.new.self.items c.args.bracket e
    c.in_ok-push.ensures.items
