use Rattle.std.proofs.Common.{suc, take}
use Rattle.devices.specs.steps.Prints.{Prints}
use Rattle.step_records.specs.Cells.{all_of}
use Rattle.step_records.specs.Params.{node_value}
use Rattle.step_records.proofs.Weights.{weight, weights}
use Rattle.step_structures.specs.Normal.{plain_more}
use Rattle.step_structures.specs.MergedTexts.{led_trees}
use Rattle.step_exchange.proofs.print.+params.Given as goal

abbrev pub invariant-print_each-loop-i : goal.invariant-print_each-loop-i
invariant-print_each-loop-i g l = Prints g.S.Sink.held g.S.Sink.has_failed l.initial.out l.out l.initial.printer
    l.printer (plain_more (led_trees (g.L.Leads.led l.leads) (all_of (take l.i l.further))))

abbrev pub decreases-print_param : goal.decreases-print_param
decreases-print_param g a = suc (weight a.param.now)

abbrev pub decreases-print_node : goal.decreases-print_node
decreases-print_node g a = weight (node_value a.node.now)

abbrev pub decreases-print_params : goal.decreases-print_params
decreases-print_params g a = suc (weights a.params.now)

abbrev pub decreases-print_each : goal.decreases-print_each
decreases-print_each g a = weights a.params.now
