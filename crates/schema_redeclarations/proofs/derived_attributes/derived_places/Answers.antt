use Rattle.std.proofs.Common.{map, take, sym, subst, [], ◌∷◌, ◌++◌}
use Rattle.express_syntax.specs.Schemas.{Derived}
use Rattle.express_syntax.specs.Views.{derived_of}
use Rattle.schema_names.specs.Schemas.{the_schema}
use Rattle.schema_attributes.proofs.Gathered.{seen}
use Rattle.schema_redeclarations.specs.steps.Speaking.{ArePlacesOf, Redeclares, DerivesOne, at_most_one}
use Rattle.schema_redeclarations.proofs.Placing.{places-none, places-more}
use Rattle.schema_redeclarations.proofs.Going.{take-at, all-taken}
use Rattle.schema_redeclarations.proofs.derived_attributes.derived_places.Goals as goal

pub loop-derived-init : goal.loop-derived-init
loop-derived-init c =
    let s = the_schema c.args.sources.now.names.now in
    subst (ArePlacesOf s (DerivesOne s [])) (sym c.new-places.ensures.items)
    (places-none s (λ (d : Derived). Redeclares s d.attribute))

pub loop-derived-preserved : goal.loop-derived-preserved
loop-derived-preserved c =
    let s = the_schema c.args.sources.now.names.now in
    let xs = c.args.deriveds.now in
    let n = c.loop-derived.derived-index in
    let d = derived_of c.derived-item.result in
    let ds = map derived_of xs in
    let at = seen derived_of xs n c.derived-item.result c.loop-derived-test.true c.derived-item.is in
    subst (λ es. ArePlacesOf s (DerivesOne s es) c.add.new.numbers.items) (sym (take-at ds n d at))
    (subst (ArePlacesOf s (DerivesOne s (take n ds ++ d ∷ []))) (sym c.in_ok-add.ensures)
    (places-more s (λ (x : Derived). Redeclares s x.attribute) (take n ds) d c.loop-derived.places.items
    (at_most_one c.derived_place.result) c.loop-derived.invariant c.derived_place.ensures))

pub returns : goal.returns
returns c =
    let s = the_schema c.args.sources.now.names.now in
    subst (λ es. ArePlacesOf s (DerivesOne s es) c.loop-derived.places.items)
    (all-taken derived_of c.args.deriveds.now c.loop-derived.derived-index c.loop-derived-test.false)
    c.loop-derived.invariant
