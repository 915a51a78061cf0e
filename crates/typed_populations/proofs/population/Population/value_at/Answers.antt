use Rattle.std.proofs.Common.{◌≡◌, ◌∙◌, Option, None, Some, refl, sym, ap, slice_get, arith}
use Rattle.population_rows.specs.steps.Rows.{form_at}
use Rattle.step_values.specs.steps.Slots.{nth}
use Rattle.step_values.specs.Values.{Values}
use Rattle.typed_populations.proofs.Found.{kept, schema_seen, instance-there, value-of-row, value-at-position}
use Rattle.typed_populations.proofs.Rowwise.{row-of}
use Rattle.typed_populations.proofs.population.Population.value_at.Goals as goal

-- one row, told twice
one-row : (o p : Option Values) (x y : Values) → o ≡ Some x → o ≡ Some y → x ≡ y
one-row o p x y e f = cc

pub row-requires : goal.row-requires
row-requires c =
    let lt = row-of c.args.self.now c.args.row c.requires in
    let all = (kept c.args.self.now).values in
    omega (arith, lt, all)

pub returns : goal.returns
returns c name place e lt at =
    let p = c.args.self.now in
    let there = instance-there p name c.args.row e in
    let row = one-row (slice_get p.values.rows c.args.row) None c.row.result there.values c.row.ensures there.at_values in
    let form = form_at p.rows c.args.row in
    c.item.ensures
    ∙ ap (λ vs. nth vs c.args.position) row
    ∙ sym (value-of-row p name c.args.row e form refl place lt
    ∙ value-at-position (schema_seen p) form there.values place c.args.position at)
