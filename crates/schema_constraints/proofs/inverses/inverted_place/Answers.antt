use Rattle.std.proofs.Common.{sym, subst, arith}
use Rattle.std.proofs.lemmas.List.{length-map}
use Rattle.express_syntax.specs.ExpressionViews.{capitals}
use Rattle.express_syntax.specs.Views.{inverse_of, declaration_of}
use Rattle.schema_semantics.specs.Names.{IsEntity, DeclaresExplicit}
use Rattle.schema_semantics.specs.Faults.{holder_of}
use Rattle.schema_semantics.specs.Attributes.{IsInverted}
use Rattle.schema_names.specs.Numbers.{HasNumber}
use Rattle.schema_names.proofs.Edges.{number-within}
use Rattle.schema_attribute_references.specs.steps.Taking.{schema_in}
use Rattle.schema_constraints.proofs.Placed.{is-some, number-some, number-is, place-there}
use Rattle.schema_constraints.proofs.Inverting.{first-holds}
use Rattle.schema_constraints.proofs.inverses.inverted_place.Goals as goal

pub entity_number-holder-requires : goal.entity_number-holder-requires
entity_number-holder-requires c =
    subst (IsEntity (schema_in c.args.sources.now.known)) (sym c.holder.ensures) c.requires.known.inverted.1.0

pub inverted-requires-clause-within : goal.inverted-requires-clause-within
inverted-requires-clause-within c =
    let s = schema_in c.args.sources.now.known in
    let bound =
    number-within s (capitals c.holder.result) c.entity_number-holder.result c.entity_number-holder.ensures in
    let each = c.requires.sources.each in
    let long = length-map c.args.sources.now.known.tables.names.now.schema.now.declarations.items declaration_of in
    omega (arith, bound, each, long)

pub unwrap-entity-requires : goal.unwrap-entity-requires
unwrap-entity-requires c =
    let s = schema_in c.args.sources.now.known in
    let x = inverse_of c.args.inverse.now in
    let j = c.entity_number-holder.result in
    let (p, inverts) = c.requires.known.inverted in
    number-some s (IsInverted s x) p inverts c.inverted.result
    (c.inverted.ensures (holder_of x.holder x.entity) inverts.0
    (subst (λ n. HasNumber s n j) c.holder.ensures c.entity_number-holder.ensures))

pub unwrap-requires : goal.unwrap-requires
unwrap-requires c =
    let s = schema_in c.args.sources.now.known in
    let x = inverse_of c.args.inverse.now in
    let j = c.entity_number-holder.result in
    let (p, k, (_, line, _, first)) =
    number-is s (IsInverted s x) c.inverted.result c.unwrap-entity.result c.unwrap-entity.ensures
    (c.inverted.ensures (holder_of x.holder x.entity) c.requires.known.inverted.1.0
    (subst (λ n. HasNumber s n j) c.holder.ensures c.entity_number-holder.ensures)) in
    let declares =
    first-holds (λ n. DeclaresExplicit s n x.inverted) (line (holder_of x.holder x.entity)) p first in
    let (q, at) = place-there s p x.inverted declares in
    is-some c.own_place.result q ((c.own_place.ensures p (declares.0, declares.1) k q).1 at)

pub returns : goal.returns
returns c =
    let s = schema_in c.args.sources.now.known in
    let x = inverse_of c.args.inverse.now in
    let j = c.entity_number-holder.result in
    let (p, k, (ent, line, lines, first)) =
    number-is s (IsInverted s x) c.inverted.result c.unwrap-entity.result c.unwrap-entity.ensures
    (c.inverted.ensures (holder_of x.holder x.entity) c.requires.known.inverted.1.0
    (subst (λ n. HasNumber s n j) c.holder.ensures c.entity_number-holder.ensures)) in
    let declares =
    first-holds (λ n. DeclaresExplicit s n x.inverted) (line (holder_of x.holder x.entity)) p first in
    let placed = (c.own_place.ensures p (declares.0, declares.1) k c.unwrap.result).0 c.unwrap.ensures in
    (p, (ent, line, lines, first), placed)
