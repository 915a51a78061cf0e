use Rattle.std.proofs.Common.{rules, ◌<◌, length, sym, arith}
use Rattle.typed_populations.specs.PopulationTables.{form_among}
use Rattle.typed_populations.proofs.Turns.{form-of-row}
use Rattle.typed_populations.proofs.Found.{kept, schema_seen, types-of-row}
use Rattle.typed_populations.proofs.Rowwise.{row-of, form-here}
use Rattle.typed_populations.proofs.population.Population.form_of_row.Goals as goal

pub index-requires : goal.index-requires
index-requires c =
    let lt = row-of c.args.self.now c.args.row c.requires in
    let forms = (kept c.args.self.now).forms in
    let within : c.args.row < length c.args.self.now.rows.form_of.items = omega (arith, lt, forms) in
    search rules

pub returns-clause-form : goal.returns-clause-form
returns-clause-form c =
    let p = c.args.self.now in
    let f = c.index.result.now in
    sym (form-of-row (schema_seen p) p.rows c.args.row f (form-here p c.args.row c.requires f f c.index.ensures))

pub returns-clause-types : goal.returns-clause-types
returns-clause-types c name e =
    let p = c.args.self.now in
    let f = c.index.result.now in
    types-of-row p name c.args.row e (form_among p.rows.forms.items f)
    (sym (form-of-row (schema_seen p) p.rows c.args.row f (form-here p c.args.row c.requires f f c.index.ensures)))
