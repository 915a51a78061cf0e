use Rattle.std.proofs.Common.{◌≤◌, length, ◌∙◌, sym, drop, get_or, arith}
use Rattle.std.proofs.lemmas.Option.{slice_get-get_or}
use Rattle.step_exchange.specs.Views.{form_in, rows_with}
use Rattle.step_structures.specs.Trees.{ExchangeRow}
use Rattle.population_findings.proofs.Placing.{row-next, rows-end, rows-short}
use Rattle.population_findings.proofs.InTurn.{rows-told-next, rows-told}
use Rattle.population_findings.proofs.findings.tell_rows.Goals as goal

pub returns-in_default : goal.returns-in_default
returns-in_default c =
    let rs = rows_with c.args.names.now c.args.instances.now in
    rows-told c.args.judge.now c.args.rows.now rs c.args.found.now.items (drop c.loop-i.i rs) c.loop-i.found.items
    (rows-short c.args.names.now c.args.instances.now c.loop-i.i (sym c.item.ensures ∙ c.in_default.is))
    c.loop-i.invariant

pub loop-i-preserved : goal.loop-i-preserved
loop-i-preserved c =
    let ns = c.args.names.now in
    let xs = c.args.instances.now in
    let i = c.loop-i.i in
    let x = c.in-Some.instance in
    let r : ExchangeRow = record { name = get_or ns i 0; form = form_in x } in
    let next = row-next ns xs i (get_or ns i 0) x (slice_get-get_or ns i 0 c.loop-i-test.true)
    (sym c.item.ensures ∙ c.in-Some.is) in
    rows-told-next c.args.judge.now c.args.rows.now (rows_with ns xs) c.args.found.now.items i r c.loop-i.found.items
    c.tell_row.new.found.items c.loop-i.invariant next.0 next.1 c.in_ok-tell_row.ensures

pub returns : goal.returns
returns c =
    let rs = rows_with c.args.names.now c.args.instances.now in
    let le : length c.args.names.now ≤ c.loop-i.i = omega (arith, c.loop-i-test.false) in
    rows-told c.args.judge.now c.args.rows.now rs c.args.found.now.items (drop c.loop-i.i rs) c.loop-i.found.items
    (rows-end c.args.names.now c.args.instances.now c.loop-i.i le) c.loop-i.invariant
