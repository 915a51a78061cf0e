use Rattle.std.proofs.Common.{rules, tests, ℕ, slice_get, ◌∙◌}
use Rattle.std.proofs.lemmas.Iterator.Search.{find_from_yields_List}
use Rattle.std.proofs.lemmas.Iterator.{YieldsList-from_slice}
use Rattle.express_syntax.specs.ExpressionViews.{capitals}
use Rattle.schema_explicit_attributes.specs.Places.{places_of}
use Rattle.schema_constraints.specs.steps.Ordered.{is_place}
use Rattle.schema_attribute_sources.proofs.stored_attributes.place_among.Goals as goal

pub returns : goal.returns
returns c =
    let all = places_of c.args.places.now in
    let test = λ (q : ℕ). is_place (capitals c.args.entity, capitals c.args.name) (slice_get all q) in
    let run = find_from_yields_List test _ _ _ c.find.ensures.ran (YieldsList-from_slice c.args.row.now cc)
    (λ x b q k. search (rules, tests)) in
    c.copied.ensures ∙ run
