use Rattle.std.proofs.Common.{◌≡◌, ◌∙◌, ap, sym, subst, Some, None, slice_get, ℕ}
use Rattle.std.specs.List.{find}
use Rattle.graphs.specs.Graphs.{graph_of, next}
use Rattle.express_syntax.specs.ExpressionViews.{capitals}
use Rattle.schema_names.proofs.Numbers.{what-stands}
use Rattle.schema_explicit_attributes.specs.Places.{places_of}
use Rattle.schema_underlying_types.specs.BaseViews.{name_at}
use Rattle.schema_semantics.specs.Names.{IsEntity}
use Rattle.schema_names.specs.Numbers.{HasNumber}
use Rattle.schema_names.specs.Schemas.{the_schema}
use Rattle.schema_attribute_sources.specs.StoredAttributes.{IsOwnPlace}
use Rattle.schema_constraints.specs.steps.Ordered.{is_place}
use Rattle.schema_attribute_sources.proofs.Reading.{tree-within}
use Rattle.schema_attribute_sources.proofs.Keeping.{own-place, word-is}
use Rattle.schema_attribute_sources.proofs.stored_attributes.own_place.Goals as goal

pub name-requires : goal.name-requires
name-requires c =
    tree-within c.args.schema.now.names.schema.now (name_at (the_schema c.args.schema.now.names) c.args.asked.entity)
    c.args.asked.entity c.requires.number

pub returns-in_default : goal.returns-in_default
returns-in_default c =
    let s = the_schema c.args.schema.now.names in
    let (d, at, named) = what-stands s (name_at s c.args.asked.entity) c.args.asked.entity c.requires.number in
    let none : None ≡ Some (name_at s c.args.asked.entity) = c.in_default.ensures d at ∙ named in
    absurd (cc)

pub place_among_many-requires-clause-number : goal.place_among_many-requires-clause-number
place_among_many-requires-clause-number c =
    let s = the_schema c.args.schema.now.names in
    let (d, at, named) = what-stands s (name_at s c.args.asked.entity) c.args.asked.entity c.requires.number in
    let w = word-is c.in-Some.entity (name_at s c.args.asked.entity) (c.in-Some.ensures d at ∙ named) in
    subst (λ n. HasNumber s n c.args.asked.entity) (sym w) c.requires.number

pub place_among_many-requires-clause-entity : goal.place_among_many-requires-clause-entity
place_among_many-requires-clause-entity c =
    let s = the_schema c.args.schema.now.names in
    let (d, at, named) = what-stands s (name_at s c.args.asked.entity) c.args.asked.entity c.requires.number in
    let w = word-is c.in-Some.entity (name_at s c.args.asked.entity) (c.in-Some.ensures d at ∙ named) in
    subst (IsEntity s) (sym w) c.requires.entity

pub place_among_many-requires-clause-row : goal.place_among_many-requires-clause-row
place_among_many-requires-clause-row c =
    c.row_of-row.ensures ∙ ap (λ rows. next (graph_of rows) c.args.asked.entity) c.deref.ensures.value

pub returns-then-row-gt-FEW : goal.returns-then-row-gt-FEW
returns-then-row-gt-FEW c =
    let s = the_schema c.args.schema.now.names in
    let (d, at, named) = what-stands s (name_at s c.args.asked.entity) c.args.asked.entity c.requires.number in
    let w = word-is c.in-Some.entity (name_at s c.args.asked.entity) (c.in-Some.ensures d at ∙ named) in
    subst (λ n. IsOwnPlace s (n, capitals c.args.asked.name) c.place_among_many.result) w c.place_among_many.ensures

pub returns : goal.returns
returns c =
    let s = the_schema c.args.schema.now.names in
    let p = c.args.asked.entity in
    let a = capitals c.args.asked.name in
    let (d, at, named) = what-stands s (name_at s p) p c.requires.number in
    let w = word-is c.in-Some.entity (name_at s p) (c.in-Some.ensures d at ∙ named) in
    own-place s c.requires.made.resolved (graph_of c.args.schema.now.places.rows.items) c.requires.made.places
    (name_at s p) a p c.requires.entity c.requires.number c.place_among.result
    (c.place_among.ensures
    ∙ ap (λ n. find (λ (q : ℕ). is_place (n, a) (slice_get (places_of c.deref-2.result.now) q)) c.row_of-row.result.now) w
    ∙ ap (λ row. find (λ (q : ℕ). is_place (name_at s p, a) (slice_get (places_of c.deref-2.result.now) q)) row)
    (c.row_of-row.ensures ∙ ap (λ rows. next (graph_of rows) p) c.deref.ensures.value)
    ∙ ap (λ all. find (λ (q : ℕ). is_place (name_at s p, a) (slice_get all q))
    (next (graph_of c.args.schema.now.places.rows.items) p))
    (ap places_of c.deref-2.ensures.value ∙ c.requires.made.attributes))
