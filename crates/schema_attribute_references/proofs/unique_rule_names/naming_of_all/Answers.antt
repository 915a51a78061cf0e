use Rattle.std.proofs.Common.{◌≡◌, ◌+◌, ◌<◌, ◌++◌, ◌∷◌, [], length, arith, map, refl, subst, sym, take, ap, ◌∙◌}
use Rattle.std.proofs.lemmas.List.{take_all, take_more, map-append}
use Rattle.express_syntax.specs.Views.{attribute_of}
use Rattle.schema_attribute_references.specs.steps.Taking.{schema_in}
use Rattle.schema_attribute_references.specs.steps.Naming.{IsNaming}
use Rattle.schema_attribute_references.proofs.Told.{naming-none, naming-both}
use Rattle.schema_attribute_references.proofs.unique_rule_names.naming_of_all.Goals as goal

pub loop-attribute-init : goal.loop-attribute-init
loop-attribute-init c e k m = naming-none (schema_in c.args.known.now) e _ refl refl

pub loop-attribute-preserved : goal.loop-attribute-preserved
loop-attribute-preserved c e k m =
    let s = schema_in c.args.known.now in
    let xs = c.args.attributes.now in
    let i = c.loop-attribute.attribute-index in
    let x = c.attribute-item.result in
    let lt : i < length xs = omega (arith, c.loop-attribute-test.true) in
    let shape : map attribute_of (take (i + 1) xs) ≡ map attribute_of (take i xs) ++ attribute_of x ∷ [] =
    ap (map attribute_of) (take_more xs i x lt ∙ ap (λ y. take i xs ++ y ∷ []) (sym c.attribute-item.is))
    ∙ map-append attribute_of (take i xs) (x ∷ []) in
    subst (λ ys. IsNaming s e ys c.both-found.result) (sym shape)
    (subst (IsNaming s e (map attribute_of (take i xs) ++ attribute_of x ∷ [])) (sym c.both-found.ensures)
    (naming-both s e (map attribute_of (take i xs)) (attribute_of x ∷ []) c.loop-attribute.found c.in_ok-next.next
    (c.loop-attribute.invariant e k m) (c.in_ok-next.ensures e k m)))

pub returns : goal.returns
returns c e k m =
    subst (λ xs. IsNaming (schema_in c.args.known.now) e (map attribute_of xs) c.loop-attribute.found)
    (take_all c.loop-attribute.attribute-index c.args.attributes.now c.loop-attribute-test.false)
    (c.loop-attribute.invariant e k m)
