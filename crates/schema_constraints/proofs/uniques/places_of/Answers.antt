use Rattle.std.proofs.Common.{◌≡◌, ◌<◌, ◌+◌, ◌++◌, ◌∷◌, [], ◌⊎◌, ◌↔◌, length, arith, map, take, ap, sym, subst, ◌∙◌}
use Rattle.std.proofs.lemmas.List.{take_all}
use Rattle.express_syntax.specs.Schemas.{Attribute}
use Rattle.express_syntax.specs.Views.{attribute_of}
use Rattle.schema_semantics.specs.Names.{OneOf}
use Rattle.schema_semantics.specs.Attributes.{Place}
use Rattle.schema_names.proofs.Rows.{map-joined, take-more}
use Rattle.conformance.specs.Rules.{NamesPlace}
use Rattle.schema_attribute_references.specs.steps.Taking.{schema_in}
use Rattle.schema_constraints.specs.steps.Making.{ArePlacesOf, AddsPlaces}
use Rattle.schema_constraints.proofs.Placing.{one-more, adds-no-place, adds-places, whole-row}
use Rattle.schema_constraints.proofs.uniques.places_of.Goals as goal

pub loop-attribute-init : goal.loop-attribute-init
loop-attribute-init c e k known =
    let s = schema_in c.args.sources.now.known in
    subst (AddsPlaces s (λ p. OneOf (λ x. NamesPlace s e x p) []) []) (sym c.new-places.ensures.items)
    (adds-no-place s (λ p. OneOf (λ x. NamesPlace s e x p) []) (λ p h. h) [])

pub loop-attribute-preserved : goal.loop-attribute-preserved
loop-attribute-preserved c e k known =
    let s = schema_in c.args.sources.now.known in
    let xs = c.args.attributes.now in
    let i = c.loop-attribute.attribute-index in
    let x = c.attribute-item.result in
    let lt : i < length xs = omega (arith, c.loop-attribute-test.true) in
    let before = map attribute_of (take i xs) in
    let next : map attribute_of (take (i + 1) xs) ≡ before ++ attribute_of x ∷ [] =
    ap (map attribute_of) (take-more xs i x lt c.attribute-item.is) ∙ map-joined attribute_of (take i xs) (x ∷ []) in
    let Names : Place → Attribute → Type 0 = λ p y. NamesPlace s e y p in
    adds-places s (λ p. OneOf (Names p) before) (NamesPlace s e (attribute_of x))
    (λ p. OneOf (Names p) (map attribute_of (take (i + 1) xs)))
    (λ p. subst (λ ys. OneOf (Names p) ys ↔ (OneOf (Names p) before ⊎ Names p (attribute_of x))) (sym next)
    (one-more (Names p) before (attribute_of x)))
    [] c.loop-attribute.places.items c.add_named.new.places.items (c.loop-attribute.invariant e k known)
    (c.in_ok-add_named.ensures e k known)

pub returns : goal.returns
returns c e k known =
    let s = schema_in c.args.sources.now.known in
    let row = c.loop-attribute.places.items in
    subst (λ ys. ArePlacesOf s (λ p. OneOf (λ x. NamesPlace s e x p) (map attribute_of ys)) row)
    (take_all c.loop-attribute.attribute-index c.args.attributes.now c.loop-attribute-test.false)
    (whole-row s _ row (c.loop-attribute.invariant e k known))
