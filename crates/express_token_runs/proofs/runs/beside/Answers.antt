use Rattle.std.proofs.Common.{rules, ◌≡◌, length}
use Rattle.express_token_runs.specs.steps.OpenRuns.{part_of}
use Rattle.express_token_runs.proofs.RunSteps.{beside_none, beside_some}
use Rattle.express_token_runs.proofs.runs.beside.Goals as goal

pub returns-then-is_empty : goal.returns-then-is_empty
returns-then-is_empty c =
    let e : length c.args.open.now ≡ 0 = search rules in
    λ around. beside_none (part_of c.args.part) around c.args.open.now c.args.some c.args.mark c.args.place
    c.outside.result e (c.outside.ensures around)

pub returns : goal.returns
returns c =
    let e : length c.args.open.now ≡ 0 → ⊥ = search rules in
    λ around. beside_some (part_of c.args.part) around c.args.open.now c.args.some c.args.mark e
