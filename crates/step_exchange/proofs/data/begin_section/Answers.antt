use Rattle.std.proofs.Common.{sym, ◌∙◌, arith, [], ◌∷◌, ◌++◌}
use Rattle.step_structures.specs.declared.fault.FaultKind.TheVariants as kinds
use Rattle.step_structures.specs.declared.fault.LeftOut.TheVariants as left_out
use Rattle.step_structures.specs.Words.{located}
use Rattle.step_lexer.specs.declared.token.Mark.TheVariants.{Semicolon}
use Rattle.step_structures.specs.Words.{mark}
use Rattle.step_structures.specs.Trees.{this, items_of_heading}
use Rattle.step_structures.specs.steps.Predict.{Sections, Behind}
use Rattle.step_records.specs.steps.Readers.{reading}
use Rattle.step_exchange.specs.Sections.{heading_of}
use Rattle.step_exchange.specs.steps.Steps.{section_refused}
use Rattle.step_records.proofs.Taking.{stops_taken}
use Rattle.step_exchange.proofs.DataSteps.{data_refused, data_too_many, begun, left_built}
use Rattle.step_exchange.proofs.data.begin_section.Goals as goal

pub returns-then-not-is_word-clause-takes : goal.returns-then-not-is_word-clause-takes
returns-then-not-is_word-clause-takes c = λ names.
    let s = (located c.args.first).lookahead in
    stops_taken c.refuse_section.result (section_refused s) (Sections c.args.sections names) c.args.first
    (reading c.args.reader.now) (data_refused c.args.sections names s (sym c.is_word.ensures ∙ c.if-not-is_word.true) c.requires)
    c.refuse_section.ensures

pub returns-then-sections-ge-SECTIONS-clause-takes : goal.returns-then-sections-ge-SECTIONS-clause-takes
returns-then-sections-ge-SECTIONS-clause-takes c = λ names.
    let s = (located c.args.first).lookahead in
    stops_taken c.fault_at.result (kinds.LeftOut left_out.TooMany) (Sections c.args.sections names) c.args.first
    (reading c.args.reader.now) (data_too_many c.args.sections names s (sym c.is_word.ensures ∙ c.if-not-is_word.false)
    (omega arith)) c.fault_at.ensures

pub returns-clause-same : goal.returns-clause-same
returns-clause-same c = left_built c.heading.result (Behind ∷ []) (λ h. items_of_heading (heading_of h)
    ++ this (mark Semicolon) ∷ []) c.args.reader.now c.heading.new.reader c.heading.ensures

pub returns-clause-takes : goal.returns-clause-takes
returns-clause-takes c = λ names. begun c.heading.result c.args.sections names c.args.first c.args.reader.now
    c.heading.new.reader (sym c.is_word.ensures ∙ c.if-not-is_word.false) (omega arith) c.heading.ensures
