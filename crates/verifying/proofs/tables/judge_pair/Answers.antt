use Rattle.std.proofs.Common.{refl}
use Rattle.std.proofs.lemmas.Result.{err_from_is_err_and}
use Rattle.value_equality.specs.TableViews.{table_of}
use Rattle.population_pins.specs.PopulationPins.{is_pinned}
use Rattle.conformance.specs.SchemaMeanings.{instances}
use Rattle.verifying.proofs.Judging.{lack, hold}
use Rattle.verifying.proofs.tables.judge_pair.Goals as goal

pub returns-in_err-gentle-clause-judged : goal.returns-in_err-gentle-clause-judged
returns-in_err-gentle-clause-judged c s chosen f certificate text known =
    let p = err_from_is_err_and c.from_residual.result c.from_residual.ensures.1 in
    rw (p.1, p.2) tt

pub returns-in_err-judge_tables-clause-judged : goal.returns-in_err-judge_tables-clause-judged
returns-in_err-judge_tables-clause-judged c s chosen f certificate text known =
    let p = err_from_is_err_and c.from_residual-in_err-judge_tables.result
    c.from_residual-in_err-judge_tables.ensures.1 in
    rw (p.1, p.2) (lack s chosen f certificate (table_of c.args.first) (table_of c.args.second) text c.args.rows
    known.are_rows (is_pinned c.args.weak.now.pins) known.are_weak (is_pinned c.in_ok-gentle.gentle)
    (λ said. c.in_ok-gentle.ensures s (instances s said f) (known.are_unique said) said.domain said.entities said.is_domain
    said.are_entities) _ c.in_err-judge_tables.ensures)

pub returns-clause-judged : goal.returns-clause-judged
returns-clause-judged c s chosen f certificate text known =
    hold s chosen f certificate (table_of c.args.first) (table_of c.args.second) text c.args.rows known.are_rows
    (is_pinned c.args.weak.now.pins) known.are_weak (is_pinned c.in_ok-gentle.gentle)
    (λ said. c.in_ok-gentle.ensures s (instances s said f) (known.are_unique said) said.domain said.entities said.is_domain
    said.are_entities) (record { rows = c.args.rows; table = c.args.second }) refl refl c.in_ok-judge_tables.ensures

pub returns-clause-ready : goal.returns-clause-ready
returns-clause-ready c = record {
  members = c.in_ok-judge_tables.ensures.1.members;
  well_formed = c.requires.second;
}
