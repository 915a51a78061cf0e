use Rattle.std.proofs.Common.{ℕ, slice_get, ap, ◌∙◌}
use Rattle.std.specs.List.{find}
use Rattle.graphs.specs.Graphs.{graph_of, next}
use Rattle.express_syntax.specs.ExpressionViews.{capitals}
use Rattle.schema_explicit_attributes.specs.Places.{places_of}
use Rattle.schema_attribute_references.specs.steps.Taking.{schema_in}
use Rattle.schema_redeclarations.specs.steps.Speaking.{has_name}
use Rattle.schema_redeclarations.proofs.OwnRows.{own-found}
use Rattle.schema_constraints.proofs.Placed.{number-of}
use Rattle.schema_constraints.proofs.places.own_place.Goals as goal

pub returns : goal.returns
returns c p ent k =
    let s = schema_in c.args.sources.now.known in
    let a = capitals c.args.name in
    let rows = graph_of c.args.sources.now.own.now in
    let o = c.first_named.result in
    let found = c.first_named.ensures
    ∙ ap (λ row. find (λ (q : ℕ). has_name a (slice_get (places_of c.args.sources.now.places.now) q)) row) c.row_of-row.ensures
    ∙ ap (λ ps. find (λ (q : ℕ). has_name a (slice_get ps q)) (next rows c.args.entity)) c.requires.sources.places in
    number-of s (p, a) o
    (own-found s c.requires.sources.known.resolved rows c.requires.sources.own p a c.args.entity ent k o found)
