use Rattle.std.proofs.Common.{subst, map, ◌∙◌}
use Rattle.express_syntax.specs.Views.{attribute_of, unique_of}
use Rattle.schema_semantics.specs.Names.{OneOf, IsEntity}
use Rattle.schema_names.proofs.Numbers.{stands-at}
use Rattle.schema_attribute_references.specs.steps.Naming.{IsNaming}
use Rattle.schema_attribute_references.specs.steps.Taking.{schema_in}
use Rattle.conformance.specs.Rules.{NamesPlace}
use Rattle.schema_constraints.specs.steps.Making.{ArePlacesOf}
use Rattle.schema_constraints.proofs.Inverting.{own-number}
use Rattle.schema_constraints.proofs.Ruling.{is-unique}
use Rattle.schema_constraints.proofs.uniques.unique_rule.Goals as goal

pub places_of-requires-clause-entity : goal.places_of-requires-clause-entity
places_of-requires-clause-entity c =
    let s = schema_in c.args.sources.now.known in
    let (e, at) = c.requires.entity in
    let k = own-number s c.requires.sources.known.resolved c.args.entity e at in
    (e.name, k, (e, stands-at s e.name c.args.entity k ∙ at))

pub returns : goal.returns
returns c e at =
    let s = schema_in c.args.sources.now.known in
    let r = c.requires.sources.known.resolved in
    let u = c.args.unique.now in
    let k = own-number s r c.args.entity e at in
    let known : IsEntity s e.name = (e, stands-at s e.name c.args.entity k ∙ at) in
    let naming = c.in_ok-naming.naming in
    let places = c.in_ok-places.places.items in
    is-unique s r e c.args.number (unique_of u) naming _ at c.rule_label.ensures c.is_checked.ensures
    (subst (λ xs. IsNaming s e.name (map attribute_of xs) naming) c.deref.ensures.value
    (c.in_ok-naming.ensures e.name k known))
    (subst (λ xs. ArePlacesOf s (λ p. OneOf (λ a. NamesPlace s e.name a p) (map attribute_of xs)) places)
    c.deref-2.ensures.value (c.in_ok-places.ensures e.name k known))
