use Rattle.std.proofs.Common.{sym, subst, map, take, [], ◌∷◌, ◌++◌, arith}
use Rattle.express_syntax.specs.Views.{attribute_of}
use Rattle.schema_names.specs.Schemas.{the_schema}
use Rattle.schema_attributes.proofs.Gathered.{seen}
use Rattle.schema_redeclarations.specs.steps.Speaking.{ArePlacesOf, SpeaksOf, SpeakTogether, IsOwnAt, at_most_one}
use Rattle.schema_redeclarations.proofs.Placing.{places-none, places-more}
use Rattle.schema_redeclarations.proofs.OfAttributes.{own-more, own-here}
use Rattle.schema_redeclarations.proofs.Going.{take-at, all-taken}
use Rattle.schema_redeclarations.proofs.explicit_attributes.spoken_places.Goals as goal

pub loop-attribute-init : goal.loop-attribute-init
loop-attribute-init c =
    let s = the_schema c.args.sources.now.names.now in (
      omega arith,
      (λ n k typed owned. subst (ArePlacesOf s (SpeakTogether s n k [])) (sym c.new-places.ensures.items)
          (places-none s (SpeaksOf s n k))),
    )

pub loop-attribute-preserved : goal.loop-attribute-preserved
loop-attribute-preserved c =
    let s = the_schema c.args.sources.now.names.now in
    let xs = c.args.attributes.now in
    let ys = map attribute_of xs in
    let m = c.loop-attribute.attribute-index in
    let y = attribute_of c.attribute-item.result in
    let at = seen attribute_of xs m c.attribute-item.result c.loop-attribute-test.true c.attribute-item.is in
    let next = c.in_ok-next.ensures in
    let one = c.own_one.ensures in
    let more = own-more ys m y at in
    let before = c.loop-attribute.invariant.0 in (
      omega (arith, next, one, more, before),
      (λ n k typed owned.
          subst (λ zs. ArePlacesOf s (SpeakTogether s n k zs) c.add.new.numbers.items) (sym (take-at ys m y at))
          (subst (ArePlacesOf s (SpeakTogether s n k (take m ys ++ y ∷ []))) (sym c.in_ok-add.ensures)
          (places-more s (SpeaksOf s n k) (take m ys) y c.loop-attribute.places.items
          (at_most_one c.explicit_place.result) (c.loop-attribute.invariant.1 n k typed owned)
          (c.explicit_place.ensures n k typed (subst (IsOwnAt s n y) (sym c.number_at-own_number.ensures)
          (own-here s n c.args.own.now c.args.first c.loop-attribute.next ys m y owned at before)))))),
    )

pub returns : goal.returns
returns c n k typed owned =
    let s = the_schema c.args.sources.now.names.now in
    subst (λ zs. ArePlacesOf s (SpeakTogether s n k zs) c.loop-attribute.places.items)
    (all-taken attribute_of c.args.attributes.now c.loop-attribute.attribute-index c.loop-attribute-test.false)
    (c.loop-attribute.invariant.1 n k typed owned)
