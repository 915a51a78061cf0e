use Rattle.std.proofs.Common.{refl}
use Rattle.std.proofs.lemmas.Result.{IfOk-weaker}
use Rattle.express_syntax.specs.Trees.{attribute}
use Rattle.express_syntax.specs.ExpressionViews.{qualifiers_of}
use Rattle.schema_semantics.specs.Sets.{of_set, WithSubtypes, path_behind}
use Rattle.schema_data_types.specs.steps.Values.{Holds}
use Rattle.schema_attribute_references.specs.steps.Taking.{schema_in}
use Rattle.schema_expression_types.specs.declared.references.Reference.{Reference}
use Rattle.schema_expression_types.specs.steps.Paths.{GoesOn, IsPath}
use Rattle.schema_expression_types.proofs.Walking.{path-of-taken}
use Rattle.schema_expression_types.proofs.paths.select_of_taken.Goals as goal

pub returns : goal.returns
returns c own n taken =
    let s = schema_in c.args.known.now in
    let qs = qualifiers_of c.args.qualifiers.now in
    let k = c.args.taken in
    let begun : Reference = record { is_unclear = k.is_unclear; may = k.may; uses = k.uses } in
    IfOk-weaker c.follow.result (λ t. GoesOn s begun qs t) (λ t. IsPath s (path_behind s (Holds s own) (attribute n qs)) t)
    (λ t h. path-of-taken s (of_set (WithSubtypes s (Holds s own)) n) k begun t qs taken refl refl refl h)
    c.follow.ensures
