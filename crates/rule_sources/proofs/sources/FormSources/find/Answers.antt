use Rattle.std.proofs.Common.{◌≡◌, ◌∙◌, Some, ap, sym, subst, map, slice_get}
use Rattle.std.specs.Prelude.{IfSome}
use Rattle.std.specs.Option.{option_map}
use Rattle.std.proofs.lemmas.Option.{slice_get-map, slice_get-get_or}
use Rattle.express_syntax.specs.ExpressionViews.{capitals}
use Rattle.typed_populations.specs.PopulationTables.{form_among}
use Rattle.rule_sources.specs.Sources.{IsFormSource, AreNamedSources}
use Rattle.rule_sources.proofs.Rows.{form-of-number}
use Rattle.rule_sources.proofs.sources.FormSources.find.Goals as goal

pub returns-in-Some-get : goal.returns-in-Some-get
returns-in-Some-get c s inverses forms all =
    let x = c.args.self.now in
    let n = c.in-Some.number in
    let r = c.in-Some-get.row.now in
    let got = c.in-Some-get.ensures.lookup in
    let at : slice_get x.rows.items n ≡ Some r =
    ap (λ xs. slice_get xs n) (sym c.deref.ensures.value)
    ∙ slice_get-get_or c.deref.result.now n r got.3.0 ∙ ap Some (sym got.1) in
    let there : slice_get (map (λ v. v.items) x.rows.items) n ≡ Some r.items =
    slice_get-map (λ v. v.items) x.rows.items n ∙ ap (option_map (λ v. v.items)) at in
    let (form, is, row) = form-of-number s inverses forms (map (λ v. v.items) x.rows.items) all n r.items there in
    let a = capitals c.args.name in
    subst (λ o. IfSome c.find_in.result (λ y. IsFormSource s inverses (form_among forms o) a y.now.source)) (sym c.in-Some.is)
    (subst (λ o. IfSome c.find_in.result (λ y. IsFormSource s inverses o a y.now.source)) (sym is)
    (c.find_in.ensures s inverses form
    (subst (AreNamedSources s inverses form) (sym c.deref-in-Some-get.ensures.value) row)))
