use Rattle.std.proofs.Common.{◌≤◌, ◌∙◌, ◌+◌, [], ◌∷◌, sym, ap, length, drop, get_or, arith}
use Rattle.std.proofs.lemmas.Option.{slice_get-get_or}
use Rattle.std.specs.Option.{option_copied}
use Rattle.step_structures.specs.Trees.{ExchangeRow}
use Rattle.step_exchange.specs.Views.{rows_with, form_in}
use Rattle.step_values.specs.steps.Building.{Building}
use Rattle.schema_names.specs.Schemas.{the_schema}
use Rattle.population_findings.proofs.Placing.{row-next as row-behind, rows-end, rows-short}
use Rattle.population_reader.specs.steps.Making.{row_by, rows_by, found_by}
use Rattle.typed_populations.proofs.Turns.{drop-item, form-of-row, got}
use Rattle.population_reader.proofs.Turns.{maker-stays, row-next, row-ready, rows-all, rows-next}
use Rattle.population_reader.proofs.instance_values.push_rows.Goals as goal

pub returns-in_default : goal.returns-in_default
returns-in_default c =
    let m = c.args.maker.now in
    let s = the_schema m.bases.names.now in
    let i = c.loop-i.i in
    let forms = c.args.rows.now.forms.items in
    let os = c.args.rows.now.form_of.items in
    let rs = rows_with c.args.names.now c.args.instances.now in
    let over = rows-short c.args.names.now c.args.instances.now i (sym c.item.ensures ∙ c.in_default.is) in
    rows-all m c.args.builder.now c.loop-i.builder (λ d. rows_by s d forms rs os)
    (λ d. rows_by s d forms (drop i rs) (drop i os)) c.loop-i.invariant.0
    (λ d. ap (λ l. rows_by s d forms l (drop i os)) over)

pub push_row-requires-clause-maker : goal.push_row-requires-clause-maker
push_row-requires-clause-maker c =
    let m = c.args.maker.now in
    let s = the_schema m.bases.names.now in
    let i = c.loop-i.i in
    let forms = c.args.rows.now.forms.items in
    let os = c.args.rows.now.form_of.items in
    let rs = rows_with c.args.names.now c.args.instances.now in
    maker-stays m c.args.builder.now c.loop-i.builder (λ d. rows_by s d forms rs os)
    (λ d. rows_by s d forms (drop i rs) (drop i os)) c.requires.maker c.loop-i.invariant.0

pub push_row-requires-clause-ready : goal.push_row-requires-clause-ready
push_row-requires-clause-ready c =
    let m = c.args.maker.now in
    let s = the_schema m.bases.names.now in
    let i = c.loop-i.i in
    let rows = c.args.rows.now in
    let ns = c.args.names.now in
    let xs = c.args.instances.now in
    let x = c.in-Some.instance in
    let r : ExchangeRow = record { name = get_or ns i 0; form = form_in x } in
    let o = got rows.form_of.items i (omega (arith, c.requires.matched, c.loop-i-test.true)) in
    let next = row-behind ns xs i (get_or ns i 0) x (slice_get-get_or ns i 0 c.loop-i-test.true)
    (sym c.item.ensures ∙ c.in-Some.is) in
    (row-ready s rows.forms.items (rows_with ns xs) rows.form_of.items i r o.0 (option_copied c.form_at.result) next.1
    (drop-item rows.form_of.items i o.0 o.1) (c.form_at.ensures ∙ form-of-row s rows i o.0 o.1) (found_by m)
    c.loop-i.invariant.1).0

pub loop-i-preserved : goal.loop-i-preserved
loop-i-preserved c =
    let m = c.args.maker.now in
    let s = the_schema m.bases.names.now in
    let i = c.loop-i.i in
    let rows = c.args.rows.now in
    let forms = rows.forms.items in
    let os = rows.form_of.items in
    let ns = c.args.names.now in
    let xs = c.args.instances.now in
    let rs = rows_with ns xs in
    let x = c.in-Some.instance in
    let f = option_copied c.form_at.result in
    let r : ExchangeRow = record { name = get_or ns i 0; form = form_in x } in
    let o = got os i (omega (arith, c.requires.matched, c.loop-i-test.true)) in
    let next = row-behind ns xs i (get_or ns i 0) x (slice_get-get_or ns i 0 c.loop-i-test.true)
    (sym c.item.ensures ∙ c.in-Some.is) in
    let number = drop-item os i o.0 o.1 in
    let form = c.form_at.ensures ∙ form-of-row s rows i o.0 o.1 in
    let some = c.requires.maker.0.1.exists in (
      rows-next m c.args.builder.now c.loop-i.builder c.push_row.new.builder (λ d. rows_by s d forms rs os)
          (λ d. rows_by s d forms (drop i rs) (drop i os)) (λ d. row_by s d f (form_in x) ∷ [])
          (λ d. rows_by s d forms (drop (i + 1) rs) (drop (i + 1) os)) c.loop-i.invariant.0 c.in_ok-push_row.ensures
          (row-next s forms rs os i r o.0 f next.1 number form),
      (row-ready s forms rs os i r o.0 f next.1 number form (found_by m) c.loop-i.invariant.1).1,
      ap (λ (b : Building). b.pending) (c.in_ok-push_row.ensures some.0 some.1) ∙ c.loop-i.invariant.2,
    )

pub returns : goal.returns
returns c =
    let m = c.args.maker.now in
    let s = the_schema m.bases.names.now in
    let i = c.loop-i.i in
    let forms = c.args.rows.now.forms.items in
    let os = c.args.rows.now.form_of.items in
    let rs = rows_with c.args.names.now c.args.instances.now in
    let le : length c.args.names.now ≤ i = omega (arith, c.loop-i-test.false) in
    rows-all m c.args.builder.now c.loop-i.builder (λ d. rows_by s d forms rs os)
    (λ d. rows_by s d forms (drop i rs) (drop i os)) c.loop-i.invariant.0
    (λ d. ap (λ l. rows_by s d forms l (drop i os)) (rows-end c.args.names.now c.args.instances.now i le))
