use Rattle.std.proofs.Common.{ℕ, ◌+◌, ◌++◌, [], List, sym, ap, ◌∙◌, append_assoc, append-nil, drop, refl}
use Rattle.std.proofs.Math.ListN.{drop_of_length-le}
use Rattle.step_exchange.specs.Views.{rows_with}
use Rattle.step_exchange.specs.Sections.{heading_of, sections_of}
use Rattle.step_structures.specs.Normal.{plain_section, plain_sections}
use Rattle.devices.proofs.Printing.{then_print, prints_as, prints_nothing}
use Rattle.step_structures.specs.MergedTexts.{merged_section, merged_sections}
use Rattle.step_exchange.proofs.Cuts.{drop_next}
use Rattle.step_exchange.proofs.Printed.{led_sections_printed}
use Rattle.step_exchange.proofs.print.print_sections.Goals as goal

pub loop-section-init : goal.loop-section-init
loop-section-init g c = ([], refl, prints_nothing g.S.Sink.held g.S.Sink.has_failed c.args.out.now c.args.printer.now)

pub loop-section-preserved : goal.loop-section-preserved
loop-section-preserved g c =
    let h = g.L.Leads.led c.args.leads.now in
    let before = c.loop-section.invariant in
    let ss = c.args.sections.now in
    let s = c.section-item.result in
    let more = drop (c.loop-section.section-index + 1) ss in
    let text : List ℕ = plain_section (merged_section h (record {
      heading = heading_of s.heading;
      rows = rows_with c.cut.result.0.now c.split-own_forms.result.0;
    })) in
    let next = ap (λ l. plain_sections (merged_sections h (sections_of c.loop-section.from l (rows_with c.loop-section.names.now
    c.loop-section.forms)))) (drop_next ss c.loop-section.section-index s s c.loop-section-test.true c.section-item.is)
    ∙ led_sections_printed h c.loop-section.from s more c.loop-section.names.now c.cut.result.0.now c.cut.result.1.now
    c.loop-section.forms c.split-own_forms.result.0 c.split-own_forms.result.1 c.saturating_sub-count.result
    c.saturating_sub-count.ensures c.cut.ensures.front c.cut.ensures.back c.split-own_forms.ensures.front
    c.split-own_forms.ensures.back in (
      before.0 ++ text,
      append_assoc before.0 text (plain_sections (merged_sections h (sections_of s.past more (rows_with c.cut.result.1.now
          c.split-own_forms.result.1)))) ∙ ap (λ l. before.0 ++ l) (sym next) ∙ before.1,
      then_print before.2 c.print_section.ensures,
    )

pub returns : goal.returns
returns g c =
    let h = g.L.Leads.led c.args.leads.now in
    let done = c.loop-section.invariant in
    let none = drop_of_length-le c.args.sections.now c.loop-section-test.false in
    let all = sym (append-nil done.0) ∙ ap (λ l. done.0 ++ plain_sections (merged_sections h (sections_of c.loop-section.from l
    (rows_with c.loop-section.names.now c.loop-section.forms)))) (sym none) ∙ done.1 in
    prints_as all done.2
