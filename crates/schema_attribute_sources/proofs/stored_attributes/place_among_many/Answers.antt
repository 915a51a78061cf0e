use Rattle.std.proofs.Common.{◌≡◌, ◌∙◌, ap, sym, Some, true, false, ℕ, slice_get}
use Rattle.std.specs.List.{find}
use Rattle.graphs.specs.Graphs.{graph_of, next}
use Rattle.express_syntax.specs.ExpressionViews.{capitals}
use Rattle.schema_names.specs.Schemas.{the_schema}
use Rattle.schema_explicit_attributes.specs.declared.own_attributes.Meant.TheVariants.{Explicit}
use Rattle.schema_explicit_attributes.specs.Places.{places_of, all_places}
use Rattle.schema_explicit_attributes.proofs.Having.{declared-back}
use Rattle.schema_constraints.specs.steps.Ordered.{is_place}
use Rattle.schema_constraints.proofs.Placing.{place-declared}
use Rattle.schema_constraints.proofs.Searched.{place-is}
use Rattle.schema_attribute_sources.proofs.Keeping.{own-place}
use Rattle.schema_attribute_sources.proofs.stored_attributes.place_among_many.Goals as goal

pub returns-then-not-declares_at : goal.returns-then-not-declares_at
returns-then-not-declares_at c d =
    let s = the_schema c.args.schema.now.names in
    let there : true ≡ false =
    sym (declared-back s Explicit (capitals c.args.asked.name) (capitals c.args.entity) c.args.asked.entity
    c.requires.number d) ∙ sym c.declares_at.ensures ∙ c.if-not-declares_at.true in
    absurd (cc)

pub returns-in-Some : goal.returns-in-Some
returns-in-Some c =
    let s = the_schema c.args.schema.now.names in
    let p = capitals c.args.entity in
    let a = capitals c.args.asked.name in
    let q = c.in-Some.place in
    let at : slice_get (all_places s) q ≡ Some (p, a) =
    ap (λ all. slice_get all q) (sym (ap places_of c.as_slice-places.ensures.value ∙ c.requires.made.attributes))
    ∙ place-is (places_of c.as_slice-places.result.now) (p, a) q c.in-Some.ensures in
    (place-declared s c.requires.made.resolved p a q at, at)

pub returns-in-None : goal.returns-in-None
returns-in-None c =
    let s = the_schema c.args.schema.now.names in
    let p = capitals c.args.entity in
    let a = capitals c.args.asked.name in
    let rows = graph_of c.args.schema.now.places.rows.items in
    own-place s c.requires.made.resolved rows c.requires.made.places p a c.args.asked.entity c.requires.entity
    c.requires.number c.place_among.result
    (c.place_among.ensures
    ∙ ap (λ row. find (λ (q : ℕ). is_place (p, a) (slice_get (places_of c.as_slice-places.result.now) q)) row)
    c.requires.row
    ∙ ap (λ all. find (λ (q : ℕ). is_place (p, a) (slice_get all q)) (next rows c.args.asked.entity))
    (ap places_of c.as_slice-places.ensures.value ∙ c.requires.made.attributes))
