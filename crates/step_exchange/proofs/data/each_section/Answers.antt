use Rattle.std.proofs.Common.{rules, sym, ◌≡◌, arith, length}
use Rattle.std.proofs.lemmas.Result.{err_from_is_err_and}
use Rattle.step_structures.specs.steps.Predict.{Sections, EndOfText}
use Rattle.step_exchange.specs.Sections.{heading_of}
use Rattle.step_exchange.proofs.DataSteps.{is_end, isnt_end, no_sections, some_sections}
use Rattle.step_exchange.proofs.DataKeeping.{data_start, data_err_token, data_err_none, data_err_end, data_done, data_err_begin, data_err_rows, data_next, data_less, data_few}
use Rattle.step_exchange.proofs.data.each_section.Goals as goal

pub loop-token-init : goal.loop-token-init
loop-token-init c = rw (c.requires.unnamed, c.requires.none) (data_start c.args.reader.now)

pub returns-in_err-token : goal.returns-in_err-token
returns-in_err-token c =
    let p = err_from_is_err_and c.from_residual.result c.from_residual.ensures.1 in
    let ss = c.loop-token.sections.items in
    let names = c.loop-token.names in
    let y = Sections (length ss) names in
    rw (p.1, p.2) (data_err_token _ c.args.reader.now ss names c.loop-token.reader c.loop-token.invariant
    (c.in_err-token.ensures y (λ (e : y ≡ EndOfText). cc)))

pub returns-then-is_empty : goal.returns-then-is_empty
returns-then-is_empty c =
    let ss = c.loop-token.sections.items in
    data_err_none c.refuse.result c.args.reader.now ss c.loop-token.names c.loop-token.reader
    c.in_ok-token.token c.take.new.reader c.loop-token.invariant c.in_ok-token.ensures.0
    (is_end c.in_ok-token.token c.in-End.is) (no_sections ss c.loop-token.sections.len c.is_empty.result
    c.is_empty.ensures (search rules) c.if-is_empty.true) c.refuse.ensures

pub returns-in_err-end : goal.returns-in_err-end
returns-in_err-end c =
    let p = err_from_is_err_and c.from_residual-in_err-end.result c.from_residual-in_err-end.ensures.1 in
    let ss = c.loop-token.sections.items in
    rw (p.1, p.2) (data_err_end _ c.args.reader.now ss c.loop-token.names c.loop-token.reader
    c.in_ok-token.token c.take.new.reader c.loop-token.invariant c.in_ok-token.ensures.0
    (is_end c.in_ok-token.token c.in-End.is) (some_sections ss c.loop-token.sections.len c.is_empty.result
    c.is_empty.ensures (search rules) c.if-is_empty.false) c.in_err-end.ensures)

pub returns-in-End : goal.returns-in-End
returns-in-End c =
    let ss = c.loop-token.sections.items in
    data_done c.args.reader.now ss c.loop-token.names c.loop-token.reader c.in_ok-token.token
    c.take.new.reader c.end.new.reader c.loop-token.invariant c.in_ok-token.ensures.0 c.in_ok-token.ensures.1
    (is_end c.in_ok-token.token c.in-End.is) (some_sections ss c.loop-token.sections.len c.is_empty.result
    c.is_empty.ensures (search rules) c.if-is_empty.false) c.in_ok-end.ensures.0 c.in_ok-end.ensures.1

pub begin_section-requires : goal.begin_section-requires
begin_section-requires c = isnt_end c.in_ok-token.token c.in_default.not-End

pub returns-in_err-heading : goal.returns-in_err-heading
returns-in_err-heading c =
    let p = err_from_is_err_and c.from_residual-in_err-heading.result c.from_residual-in_err-heading.ensures.1 in
    let ss = c.loop-token.sections.items in
    let names = c.loop-token.names in
    let count : c.len.result ≡ length ss = search rules in
    rw (p.1, p.2) (data_err_begin _ c.args.reader.now ss names c.loop-token.reader c.in_ok-token.token
    c.take.new.reader c.loop-token.invariant c.in_ok-token.ensures.0 (rw (sym count)
    (c.in_err-heading.ensures.takes names)))

pub returns-in_err-rows : goal.returns-in_err-rows
returns-in_err-rows c =
    let p = err_from_is_err_and c.from_residual-in_err-rows.result c.from_residual-in_err-rows.ensures.1 in
    let ss = c.loop-token.sections.items in
    let names = c.loop-token.names in
    let count : c.len.result ≡ length ss = search rules in
    rw (p.1, p.2) (data_err_rows _ c.args.reader.now ss names c.loop-token.reader c.in_ok-token.token
    c.take.new.reader c.begin_section.new.reader (heading_of c.in_ok-heading.heading) c.loop-token.invariant
    c.in_ok-token.ensures.0 (rw (sym count) (c.in_ok-heading.ensures.takes names)) c.in_err-rows.ensures)

pub overflow_cast-past : goal.overflow_cast-past
overflow_cast-past c = omega (
  arith,
  c.len-past.ensures,
  data_few c.args.reader.now c.loop-token.sections.items c.loop-token.names
      c.rows.new.names c.loop-token.reader c.begin_section.new.reader c.rows.new.reader
      c.loop-token.invariant c.in_ok-rows.ensures,
)

pub loop-token-smaller : goal.loop-token-smaller
loop-token-smaller c =
    let names = c.loop-token.names in
    let d = c.loop-token.invariant in
    data_less c.len.result names c.rows.new.names c.loop-token.reader
    c.in_ok-token.token (heading_of c.in_ok-heading.heading) c.take.new.reader c.begin_section.new.reader
    c.rows.new.reader d.rows d.named c.in_ok-token.ensures.0 (c.in_ok-heading.ensures.takes names)
    c.in_ok-rows.ensures

pub loop-token-preserved : goal.loop-token-preserved
loop-token-preserved c =
    let ss = c.loop-token.sections.items in
    let names = c.loop-token.names in
    let count : c.len.result ≡ length ss = search rules in
    rw c.in_ok-push.ensures.items (data_next c.args.reader.now ss names c.rows.new.names c.loop-token.reader
    c.in_ok-token.token c.take.new.reader c.begin_section.new.reader c.rows.new.reader
    (record { heading = c.in_ok-heading.heading; past = c.len-past.result }) c.loop-token.invariant
    c.in_ok-token.ensures.0 c.in_ok-token.ensures.1 (rw (sym count) (c.in_ok-heading.ensures.takes names))
    c.in_ok-heading.ensures.same c.in_ok-rows.ensures c.len-past.ensures)
