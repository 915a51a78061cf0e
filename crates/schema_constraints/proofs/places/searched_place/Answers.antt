use Rattle.express_syntax.specs.ExpressionViews.{capitals}
use Rattle.schema_explicit_attributes.specs.Places.{places_of}
use Rattle.schema_attribute_references.specs.steps.Taking.{schema_in}
use Rattle.schema_constraints.proofs.Searched.{searched-is}
use Rattle.schema_constraints.proofs.places.searched_place.Goals as goal

pub returns : goal.returns
returns c =
    searched-is (schema_in c.args.sources.now.known) (places_of c.args.sources.now.places.now) c.args.entity
    (capitals c.in-Some.entity) (capitals c.args.name) c.requires.sources.places c.in-Some.ensures c.find_place.result
    c.find_place.ensures
