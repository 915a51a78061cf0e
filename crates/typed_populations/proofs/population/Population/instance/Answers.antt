use Rattle.std.proofs.Common.{rules, ◌≡◌, ◌<◌, ◌∙◌, Some, length, sym, subst, ap, slice_get, slice_index_or, arith}
use Rattle.std.proofs.lemmas.Option.{slice_get-get_or}
use Rattle.typed_populations.proofs.Found.{kept}
use Rattle.typed_populations.proofs.Rowwise.{row-of, section-of, placed-row, entities-row, instance-row}
use Rattle.typed_populations.proofs.population.Population.instance.Goals as goal

pub offset_bounds-as_slice-row : goal.offset_bounds-as_slice-row
offset_bounds-as_slice-row c =
    let lt = row-of c.args.self.now c.args.row c.requires in
    let within : c.args.row < length c.as_slice.result.now =
    subst (λ ns. c.args.row < length ns) (sym c.as_slice.ensures) lt in
    search rules

pub bounds-as_slice-row : goal.bounds-as_slice-row
bounds-as_slice-row c =
    subst (λ ns. c.args.row < length ns) (sym c.as_slice.ensures) (row-of c.args.self.now c.args.row c.requires)

pub index-requires : goal.index-requires
index-requires c =
    let lt = row-of c.args.self.now c.args.row c.requires in
    let forms = (kept c.args.self.now).forms in
    let within : c.args.row < length c.args.self.now.rows.form_of.items = omega (arith, lt, forms) in
    search rules

pub row-requires : goal.row-requires
row-requires c =
    let lt = row-of c.args.self.now c.args.row c.requires in
    let values = (kept c.args.self.now).values in
    omega (arith, lt, values)

pub returns : goal.returns
returns c =
    let p = c.args.self.now in
    let row = c.args.row in
    let lt = row-of p row c.requires in
    let forms = (kept p).forms in
    let within : row < length p.rows.form_of.items = omega (arith, lt, forms) in
    let name : slice_get p.exchange.now.names row ≡ Some (slice_index_or c.as_slice.result.now row 0) =
    slice_get-get_or p.exchange.now.names row 0 lt ∙ ap (λ ns. Some (slice_index_or ns row 0)) (sym c.as_slice.ensures) in
    let form : slice_get p.rows.form_of.items row ≡ Some c.index.result.now =
    slice_get-get_or p.rows.form_of.items row c.index.result.now within ∙ ap Some (sym c.index.ensures) in
    record {
      section = (section-of p row c.requires).0;
      seen = instance-row p row c.requires (slice_index_or c.as_slice.result.now row 0) c.index.result.now c.row.result name
          form c.row.ensures;
      placed = placed-row p row c.index.result.now form;
      entities = entities-row p row c.index.result.now form;
    }
