use Rattle.std.proofs.Common.{rules, tests, ◌∙◌}
use Rattle.std.proofs.lemmas.Iterator.Search.{find_from_yields_List}
use Rattle.std.proofs.lemmas.Iterator.{YieldsList-from_slice}
use Rattle.graphs.specs.Graphs.{graph_of}
use Rattle.schema_attribute_references.specs.steps.Choosing.{is_of_kind}
use Rattle.schema_attribute_references.proofs.choice.first_of.Goals as goal

pub returns : goal.returns
returns c =
    let test = is_of_kind (graph_of c.args.above.now) c.args.entity in
    let run = find_from_yields_List test _ _ _ c.find.ensures.ran (YieldsList-from_slice c.args.declarations.now cc)
    (λ x b q k. search (rules, tests)) in
    c.copied.ensures ∙ run
