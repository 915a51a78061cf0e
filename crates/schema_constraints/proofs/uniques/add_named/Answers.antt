use Rattle.std.proofs.Common.{sym, subst}
use Rattle.std.proofs.lemmas.Result.{on_ok_weaker}
use Rattle.express_syntax.specs.ExpressionViews.{capitals}
use Rattle.express_syntax.specs.Clauses.{name_of}
use Rattle.express_syntax.specs.Views.{attribute_of}
use Rattle.schema_attribute_references.specs.steps.Taking.{schema_in}
use Rattle.schema_attribute_references.proofs.Holding.{written-name}
use Rattle.conformance.specs.Rules.{NamesPlace}
use Rattle.schema_constraints.specs.steps.Making.{AreEntities, IsDeclaredBy, AddsPlaces}
use Rattle.schema_constraints.proofs.Placing.{adds-alike, named-entities, names-place}
use Rattle.schema_constraints.proofs.uniques.add_named.Goals as goal

pub add_declared-requires-clause-entities : goal.add_declared-requires-clause-entities
add_declared-requires-clause-entities c =
    let s = schema_in c.args.sources.now.known in
    let x = c.args.attribute in
    let (e, k, known) = c.requires.entity in
    subst (AreEntities s) (sym c.deref.ensures.value)
    (named-entities s e (attribute_of x) (capitals (name_of x)) (written-name x) c.in_ok-entities.entities.items
    (c.in_ok-entities.ensures e k))

pub returns : goal.returns
returns c e k known =
    let s = schema_in c.args.sources.now.known in
    let x = c.args.attribute in
    let row = c.in_ok-entities.entities.items in
    let old = c.args.places.now.items in
    let new = c.add_declared.new.places.items in
    on_ok_weaker c.add_declared.result
    (λ h. adds-alike s (IsDeclaredBy s (capitals (name_of x)) row) (NamesPlace s e (attribute_of x))
    (names-place s e (attribute_of x) (capitals (name_of x)) (written-name x) row (c.in_ok-entities.ensures e k))
    old new
    (subst (λ is. AddsPlaces s (IsDeclaredBy s (capitals (name_of x)) is) old new) c.deref.ensures.value
    (subst (λ w. AddsPlaces s (IsDeclaredBy s (capitals w) c.deref.result.now) old new) c.name.ensures h)))
    c.add_declared.ensures
