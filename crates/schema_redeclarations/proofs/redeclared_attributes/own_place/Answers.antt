use Rattle.std.proofs.Common.{rules, tests, ℕ, slice_get, ap, ◌∙◌}
use Rattle.std.specs.List.{find}
use Rattle.std.proofs.lemmas.Iterator.Search.{find_from_yields_List}
use Rattle.std.proofs.lemmas.Iterator.{YieldsList-from_slice}
use Rattle.express_syntax.specs.ExpressionViews.{capitals}
use Rattle.schema_explicit_attributes.specs.Places.{places_of}
use Rattle.schema_redeclarations.specs.steps.Speaking.{has_name}
use Rattle.schema_redeclarations.proofs.redeclared_attributes.own_place.Goals as goal

pub returns : goal.returns
returns c =
    let all = places_of c.args.sources.now.places.now in
    let test = λ (q : ℕ). has_name (capitals c.args.name) (slice_get all q) in
    let run = find_from_yields_List test _ _ _ c.find.ensures.ran (YieldsList-from_slice c.row_of.result.now cc)
    (λ x b q k. search (rules, tests)) in
    c.copied.ensures ∙ run ∙ ap (find test) c.row_of.ensures
