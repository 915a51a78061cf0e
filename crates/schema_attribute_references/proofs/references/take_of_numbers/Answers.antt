use Rattle.std.proofs.Common.{◌∙◌, sym, subst, ap}
use Rattle.std.proofs.lemmas.Result.{IfOk-weaker}
use Rattle.graphs.specs.Graphs.{graph_of}
use Rattle.express_syntax.specs.ExpressionViews.{capitals}
use Rattle.schema_semantics.specs.Names.{Among}
use Rattle.schema_semantics.specs.Sets.{of_set}
use Rattle.schema_attributes.specs.steps.Declarations.{AreDeclarations}
use Rattle.schema_attribute_references.specs.steps.Taking.{schema_in, IsTaken}
use Rattle.schema_attribute_references.specs.steps.Entities.{OfNumbers}
use Rattle.schema_attribute_references.specs.steps.Choosing.{is_of_any, is_unclear}
use Rattle.schema_attribute_references.specs.steps.Gathering.{Gathers}
use Rattle.schema_attribute_references.proofs.Filtering.{kept-among}
use Rattle.schema_attribute_references.proofs.Reached.{is-taken}
use Rattle.schema_attribute_references.proofs.Chosen.{set-chooses, set-unclear}
use Rattle.schema_attribute_references.proofs.references.take_of_numbers.Goals as goal

pub gather-requires-clause-typed : goal.gather-requires-clause-typed
gather-requires-clause-typed c x m =
    let s = schema_in c.args.known.now in
    let xs = c.find-declarations.result.now in
    let are : AreDeclarations s (capitals c.args.name) xs =
    subst (AreDeclarations s (capitals c.args.name)) (sym c.find-declarations.ensures) (c.requires.known.attributes
    c.args.name) in
    let taken = c.deref-2.ensures.value ∙ c.in_ok-taken.ensures in
    let (n, passes) =
    kept-among (is_of_any (graph_of c.args.known.now.above.now) c.args.entities.now) xs x (subst (Among x) taken m) in
    let (p, k, ent, d, gives) = are.within x n in (k, gives)

pub returns : goal.returns
returns c =
    let s = schema_in c.args.known.now in
    let a = capitals c.args.name in
    let xs = c.find-declarations.result.now in
    let above = graph_of c.args.known.now.above.now in
    let is = c.args.entities.now in
    let k = c.requires.known in
    let are : AreDeclarations s a xs =
    subst (AreDeclarations s a) (sym c.find-declarations.ensures) (k.attributes c.args.name) in
    let first = c.deref.ensures.value ∙ c.in_ok-taken.ensures in
    let taken = c.deref-2.ensures.value ∙ c.in_ok-taken.ensures in
    let unclear =
    set-unclear s above k.above k.resolved a xs are is c.is_unclear-is_unclear.result
    (c.is_unclear-is_unclear.ensures ∙ ap (is_unclear above is) first) in
    IfOk-weaker c.gather.result _ (IsTaken s (of_set (OfNumbers s is) a)) (λ t (gathers, same). is-taken s
    (of_set (OfNumbers s is) a) xs (is_of_any above is) (set-chooses s above k.above k.resolved a xs are is) t
    (subst (λ ys. Gathers s ys t) taken gathers) ((λ e. unclear.0 (sym same ∙ e)), (λ u. same ∙ unclear.1 u)))
    c.gather.ensures
