use Rattle.std.proofs.Common.{IfOk, List, sym, subst}
use Rattle.std.proofs.lemmas.Result.{IfOk-weaker}
use Rattle.express_syntax.specs.Trees.{own}
use Rattle.express_syntax.specs.ExpressionViews.{qualifiers_of, root_of}
use Rattle.schema_semantics.specs.Sets.{path_behind}
use Rattle.schema_data_types.specs.declared.values.Atom.{Atom}
use Rattle.schema_data_types.specs.steps.Values.{Holds}
use Rattle.schema_attribute_references.specs.steps.Taking.{schema_in}
use Rattle.schema_expression_types.specs.steps.Scopes.{IsReferred, own_in, variables_in}
use Rattle.schema_expression_types.specs.steps.Paths.{IsPath}
use Rattle.schema_expression_types.proofs.Choosing.{referred-itself}
use Rattle.schema_expression_types.proofs.references.refer.Goals as goal

pub returns-in_ok-own-in-SelfInstance : goal.returns-in_ok-own-in-SelfInstance
returns-in_ok-own-in-SelfInstance c =
    let s = schema_in c.args.scope.now.known in
    let self = own_in c.args.scope.now in
    let vs = variables_in c.args.scope.now in
    let qs = qualifiers_of c.args.qualifiers.now in
    let xs = c.args.scope.now.own.now in
    let h = subst (λ (ys : List Atom). IfOk c.select.result (λ t. IsPath s (path_behind s (Holds s ys) qs) t))
    c.in_ok-own-in-SelfInstance.ensures.items c.select.ensures in
    subst (λ r. IfOk c.select.result (λ t. IsReferred s self vs (root_of r) qs t)) (sym c.in-SelfInstance.is)
    (IfOk-weaker c.select.result (λ t. IsPath s (path_behind s (Holds s xs) qs) t)
    (λ t. IsReferred s self vs own qs t) (λ t k. referred-itself s self vs qs t k) h)
