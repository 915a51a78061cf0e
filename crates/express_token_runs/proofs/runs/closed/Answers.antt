use Rattle.std.proofs.Common.{rules, sym, ◌∙◌, ◌≡◌, length}
use Rattle.express_syntax.specs.declared.fault.FaultKind.TheVariants as fault_kinds
use Rattle.express_syntax.specs.steps.Predict as table
use Rattle.express_token_runs.specs.steps.OpenRuns.{part_of, bracket_of, brackets_of}
use Rattle.express_token_runs.proofs.RunSteps.{agrees_fault, closed_none, closed_same, closed_other}
use Rattle.express_token_runs.proofs.runs.closed.Goals as goal

pub returns-in-None : goal.returns-in-None
returns-in-None c =
    let e : length c.args.open.now.items ≡ 0 = search rules in
    let f : length c.pop.new.self.items ≡ 0 = search rules in
    λ around. closed_none (part_of c.args.part) around c.args.open.now.items c.pop.new.self.items c.args.some
    (bracket_of c.args.bracket) c.args.mark c.args.place c.outside.result e f (c.outside.ensures around)

pub returns-then-is_same : goal.returns-then-is_same
returns-then-is_same c =
    λ around. closed_same (part_of c.args.part) around c.args.open.now.items c.pop.new.self.items c.in-Some.last
    c.args.some (bracket_of c.args.bracket) c.args.mark c.in-Some.ensures.items (sym c.is_same.ensures
    ∙ c.if-is_same.true)

pub returns-else-is_same : goal.returns-else-is_same
returns-else-is_same c =
    λ around. agrees_fault (table.closed (part_of c.args.part) around (brackets_of c.args.open.now.items) c.args.some
    (bracket_of c.args.bracket) c.args.mark) (part_of c.args.part) around (brackets_of c.pop.new.self.items)
    c.args.place fault_kinds.Expected c.fault.result c.fault.ensures
    (closed_other (part_of c.args.part) around c.args.open.now.items c.pop.new.self.items c.in-Some.last c.args.some
    (bracket_of c.args.bracket) c.args.mark c.in-Some.ensures.items (sym c.is_same.ensures ∙ c.if-is_same.false))
