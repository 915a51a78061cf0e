use Rattle.std.specs.Prelude.{flat_map, take}
use Rattle.devices.specs.steps.Prints.{Prints}
use Rattle.reports.specs.Lines.{finding_line}
use Rattle.reports.specs.MergeLines.{role_line}
use Rattle.reports.proofs.merge_lines.print_role_findings.Given as goal

abbrev pub invariant-loop-finding : goal.invariant-loop-finding
invariant-loop-finding g l =
    Prints g.S.Sink.held g.S.Sink.has_failed l.fn.out l.out l.fn.printer l.printer
    (flat_map (λ f. role_line l.role (finding_line f)) (take l.finding-index l.findings))
