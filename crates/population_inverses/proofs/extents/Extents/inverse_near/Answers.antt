use Rattle.std.proofs.Common.{◌≡◌, ◌∙◌, ◌<◌, ◌≤◌, Some, length, slice_get, sym, ap, arith}
use Rattle.std.proofs.lemmas.Option.{slice_get-get_or}
use Rattle.graphs.proofs.Found.{has-turned}
use Rattle.schema_names.specs.Schemas.{the_schema}
use Rattle.typed_populations.specs.PopulationViews.{population_seen}
use Rattle.population_inverses.proofs.Placing.{numbered-are}
use Rattle.population_inverses.proofs.Valued.{none-by, value-by, there-is}
use Rattle.population_inverses.proofs.extents.Extents.inverse_near.Goals as goal

pub returns-then-not-contains : goal.returns-then-not-contains
returns-then-not-contains c =
    let x = c.args.self.now in
    let p = x.population.now in
    let i = c.in-Some.inverse.now in
    let found = c.in-Some.ensures.lookup in
    let lt : c.args.attribute < length c.deref.result.now = found.3.0 in
    let at : slice_get x.rules.now.inverses.items c.args.attribute ≡ Some i =
    ap (λ xs. slice_get xs c.args.attribute) (sym c.deref.ensures.value)
    ∙ slice_get-get_or c.deref.result.now c.args.attribute i lt ∙ ap Some (sym found.1) in
    none-by (the_schema p.types.now.names) (population_seen p) x.rules.now x.referrers.items (numbered-are (the_schema p.types.now.names) x.rules.now x.ruled) x.held
    c.args.attribute c.args.name i at c.types_of.result.now c.types_of.ensures.types c.types_of.ensures.numbered
    (sym (c.contains.ensures.value ∙ has-turned c.types_of.result.now i.entity) ∙ c.if-not-contains.true)

pub returns-in-Some-get : goal.returns-in-Some-get
returns-in-Some-get c =
    let x = c.args.self.now in
    let p = x.population.now in
    let i = c.in-Some.inverse.now in
    let found = c.in-Some.ensures.lookup in
    let lt : c.args.attribute < length c.deref.result.now = found.3.0 in
    let at : slice_get x.rules.now.inverses.items c.args.attribute ≡ Some i =
    ap (λ xs. slice_get xs c.args.attribute) (sym c.deref.ensures.value)
    ∙ slice_get-get_or c.deref.result.now c.args.attribute i lt ∙ ap Some (sym found.1) in
    let r = c.in-Some-get.referrers.now in
    let got = c.in-Some-get.ensures.lookup in
    let there : slice_get x.referrers.items c.args.attribute ≡ Some r =
    ap (λ xs. slice_get xs c.args.attribute) (sym c.deref-2.ensures.value)
    ∙ slice_get-get_or c.deref-2.result.now c.args.attribute r got.3.0 ∙ ap Some (sym got.1) in
    value-by (the_schema p.types.now.names) (population_seen p) x.rules.now x.referrers.items (numbered-are (the_schema p.types.now.names) x.rules.now x.ruled) x.held
    c.args.attribute c.args.name i at c.types_of.result.now c.types_of.ensures.types c.types_of.ensures.numbered
    (sym (c.contains.ensures.value ∙ has-turned c.types_of.result.now i.entity) ∙ c.if-not-contains.false) r there
    c.find_near.result.0.now c.find_near.ensures

pub returns-in-None : goal.returns-in-None
returns-in-None c =
    let x = c.args.self.now in
    let p = x.population.now in
    let i = c.in-Some.inverse.now in
    let found = c.in-Some.ensures.lookup in
    let lt : c.args.attribute < length c.deref.result.now = found.3.0 in
    let at : slice_get x.rules.now.inverses.items c.args.attribute ≡ Some i =
    ap (λ xs. slice_get xs c.args.attribute) (sym c.deref.ensures.value)
    ∙ slice_get-get_or c.deref.result.now c.args.attribute i lt ∙ ap Some (sym found.1) in
    let over = c.in-None.ensures.lookup in
    let far : length c.deref-2.result.now ≤ c.args.attribute = over.3 in
    let whole : length c.deref-2.result.now ≡ length x.referrers.items = ap length c.deref-2.ensures.value in
    absurd (there-is (the_schema p.types.now.names) (population_seen p) x.rules.now x.referrers.items (numbered-are (the_schema p.types.now.names) x.rules.now x.ruled)
    x.held c.args.attribute c.args.name i at c.types_of.result.now c.types_of.ensures.types c.types_of.ensures.numbered
    (omega (arith, far, whole)))
