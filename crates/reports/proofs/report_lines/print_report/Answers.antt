use Rattle.devices.proofs.Printing.{emits_all, fails_with}
use Rattle.reports.proofs.report_lines.print_report.Goals as goal

pub returns-clause-emits : goal.returns-clause-emits
returns-clause-emits g c = emits_all c.new-printer.ensures c.print_lines.ensures c.finish.ensures

pub returns-clause-failed : goal.returns-clause-failed
returns-clause-failed g c = fails_with c.new-printer.ensures c.print_lines.ensures c.finish.ensures
