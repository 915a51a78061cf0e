use Rattle.std.proofs.Common.{◌<◌, ◌+◌, ◌∷◌, [], ◌⊎◌, ◌↔◌, length, get_or, arith, take, sym, subst}
use Rattle.std.proofs.lemmas.List.{take_all, take_more}
use Rattle.std.proofs.lemmas.Option.{slice_get-get_or}
use Rattle.express_syntax.specs.ExpressionViews.{capitals}
use Rattle.schema_explicit_attributes.proofs.Distinct.{at-among}
use Rattle.schema_attribute_references.specs.steps.Taking.{schema_in}
use Rattle.schema_redeclarations.specs.steps.Speaking.{at_most_one}
use Rattle.schema_constraints.specs.steps.Making.{IsDeclaredBy, AddsPlaces}
use Rattle.schema_constraints.proofs.Placing.{adds-no-place, adds-places, one-declared, declared-joined}
use Rattle.schema_constraints.proofs.uniques.add_declared.Goals as goal

pub loop-entity-init : goal.loop-entity-init
loop-entity-init c =
    adds-no-place (schema_in c.args.sources.now.known)
    (IsDeclaredBy (schema_in c.args.sources.now.known) (capitals c.args.name) []) (λ p h. h.2.2) c.args.places.now.items

pub loop-entity-preserved : goal.loop-entity-preserved
loop-entity-preserved c =
    let s = schema_in c.args.sources.now.known in
    let r = c.requires.sources.known.resolved in
    let a = capitals c.args.name in
    let xs = c.args.entities.now in
    let i = c.loop-entity.entity-index in
    let x = get_or xs i 0 in
    let lt : i < length xs = omega (arith, c.loop-entity-test.true) in
    let (p, known, k) = c.requires.entities x (at-among xs i x (slice_get-get_or xs i 0 lt)) in
    let o = c.own_place.result in
    adds-places s (IsDeclaredBy s a (take i xs)) (IsDeclaredBy s a (x ∷ [])) (IsDeclaredBy s a (take (i + 1) xs))
    (λ p. subst (λ is. IsDeclaredBy s a is p ↔ (IsDeclaredBy s a (take i xs) p ⊎ IsDeclaredBy s a (x ∷ []) p))
    (sym (take_more xs i 0 lt)) (declared-joined s r a (take i xs) (x ∷ []) p))
    c.args.places.now.items c.loop-entity.places.items c.add_number.new.numbers.items c.loop-entity.invariant
    (at_most_one o, c.in_ok-add_number.ensures, one-declared s r a p x o k (c.own_place.ensures p known k))

pub returns : goal.returns
returns c =
    let s = schema_in c.args.sources.now.known in
    subst (λ xs. AddsPlaces s (IsDeclaredBy s (capitals c.args.name) xs) c.args.places.now.items
    c.loop-entity.places.items) (take_all c.loop-entity.entity-index c.args.entities.now c.loop-entity-test.false)
    c.loop-entity.invariant
