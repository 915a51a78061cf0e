use Rattle.std.proofs.Common.{false, subst}
use Rattle.std.proofs.lemmas.Result.{IfOk-weaker}
use Rattle.express_syntax.specs.ExpressionViews.{qualifiers_of}
use Rattle.schema_semantics.specs.Sets.{path_behind}
use Rattle.schema_data_types.specs.steps.Values.{Holds}
use Rattle.schema_attributes.specs.Derivations.{HoldsDerivation}
use Rattle.schema_attribute_references.specs.steps.Taking.{schema_in}
use Rattle.schema_expression_types.specs.declared.references.Reference.{Reference}
use Rattle.schema_expression_types.specs.steps.Paths.{GoesOn, IsPath}
use Rattle.schema_expression_types.proofs.Walking.{path-of}
use Rattle.schema_expression_types.proofs.paths.select.Goals as goal

pub returns : goal.returns
returns c =
    let s = schema_in c.args.known.now in
    let qs = qualifiers_of c.args.qualifiers.now in
    let p = path_behind s (Holds s c.args.may.items) qs in
    let begun : Reference = record { is_unclear = false; may = c.args.may; uses = c.new.result } in
    IfOk-weaker c.follow.result (λ t. GoesOn s begun qs t) (λ t. IsPath s p t)
    (λ t h. path-of s p begun t (λ e. absurd (cc)) (λ d h. subst (λ js. HoldsDerivation s js d) c.new.ensures.items h) h)
    c.follow.ensures
