use Rattle.std.proofs.Common.{sym, ap, ◌∙◌}
use Rattle.step_records.specs.Params.{node_value}
use Rattle.step_records.proofs.Parts.{parts_all}
use Rattle.step_records.proofs.param.Param.parts.Goals as goal

pub returns-in-List : goal.returns-in-List
returns-in-List c = parts_all c.in-List.parts c.args.self.now (ap node_value (sym c.in-List.is) ∙ c.node.ensures)
