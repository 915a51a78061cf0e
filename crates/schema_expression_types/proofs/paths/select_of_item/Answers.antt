use Rattle.std.proofs.Common.{subst}
use Rattle.std.proofs.lemmas.Result.{IfOk-weaker}
use Rattle.express_syntax.specs.ExpressionViews.{qualifiers_of}
use Rattle.schema_semantics.specs.Shapes.{an_item}
use Rattle.schema_semantics.specs.Sets.{Only, path_behind}
use Rattle.schema_data_types.specs.steps.Values.{AddsAll, Holds}
use Rattle.schema_attribute_references.specs.steps.Taking.{schema_in}
use Rattle.schema_expression_types.specs.steps.Paths.{IsPath}
use Rattle.schema_expression_types.proofs.Adding.{set-of}
use Rattle.schema_expression_types.proofs.Walking.{behind-alike, list-same}
use Rattle.schema_expression_types.proofs.paths.select_of_item.Goals as goal

pub returns : goal.returns
returns c =
    let s = schema_in c.args.known.now in
    let qs = qualifiers_of c.args.qualifiers.now in
    let xs = c.add_sort.new.atoms.items in
    let is = set-of s (Only an_item) xs (subst (λ ys. AddsAll s ys (Only an_item) xs) c.new-may.ensures.items
    (c.in_ok-add_sort.ensures s)) in
    IfOk-weaker c.select.result (λ t. IsPath s (path_behind s (Holds s xs) qs) t)
    (λ t. IsPath s (path_behind s (Only an_item) qs) t)
    (λ t h. behind-alike s (Holds s xs) (Only an_item) qs t (list-same s (Only an_item) xs is) h) c.select.ensures
