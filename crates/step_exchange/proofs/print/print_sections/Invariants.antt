use Rattle.std.proofs.Common.{◌≡◌, ◌++◌, List, ℕ, drop}
use Rattle.devices.specs.steps.Prints.{Prints}
use Rattle.step_exchange.specs.Views.{rows_with}
use Rattle.step_exchange.specs.Sections.{sections_of}
use Rattle.step_structures.specs.Normal.{plain_sections}
use Rattle.step_structures.specs.MergedTexts.{merged_sections}
use Rattle.step_exchange.proofs.print.print_sections.Given as goal

abbrev pub invariant-loop-section : goal.invariant-loop-section
invariant-loop-section g l = (done : List ℕ) × (done ++ plain_sections (merged_sections (g.L.Leads.led l.leads) (sections_of l.from
    (drop l.section-index l.sections) (rows_with l.names l.forms))) ≡ plain_sections (merged_sections (g.L.Leads.led l.leads) (sections_of 0 l.sections
    (rows_with l.fn.names l.fn.forms))))
    × Prints g.S.Sink.held g.S.Sink.has_failed l.fn.out l.out l.fn.printer l.printer done
