use Rattle.std.proofs.Common.{◌∙◌, sym, subst, ap, not}
use Rattle.std.proofs.lemmas.Result.{IfOk-weaker}
use Rattle.graphs.specs.Graphs.{graph_of}
use Rattle.express_syntax.specs.ExpressionViews.{capitals}
use Rattle.schema_semantics.specs.Names.{Among}
use Rattle.schema_semantics.specs.Sets.{of_entity}
use Rattle.schema_attributes.specs.steps.Declarations.{AreDeclarations}
use Rattle.schema_attribute_references.specs.steps.Taking.{schema_in, IsTaken}
use Rattle.schema_attribute_references.specs.steps.Choosing.{is_owned, owner_of, of_owner}
use Rattle.schema_attribute_references.specs.steps.Gathering.{Gathers, is_any}
use Rattle.schema_attribute_references.proofs.Filtering.{kept-among}
use Rattle.schema_attribute_references.proofs.Reached.{is-taken}
use Rattle.schema_attribute_references.proofs.Chosen.{entity-chooses, entity-unclear}
use Rattle.schema_attribute_references.proofs.references.take_of_entity.Goals as goal

pub gather-requires-clause-typed : goal.gather-requires-clause-typed
gather-requires-clause-typed c x m =
    let s = schema_in c.args.known.now in
    let xs = c.find-declarations.result.now in
    let are : AreDeclarations s (capitals c.args.name) xs =
    subst (AreDeclarations s (capitals c.args.name)) (sym c.find-declarations.ensures) (c.requires.known.attributes
    c.args.name) in
    let taken = c.deref-2.ensures.value ∙ c.in_ok-taken.ensures in
    let (n, passes) = kept-among (is_owned c.owner_of-owner.result) xs x (subst (Among x) taken m) in
    let (p, k, ent, d, gives) = are.within x n in (k, gives)

pub returns : goal.returns
returns c =
    let s = schema_in c.args.known.now in
    let a = capitals c.args.name in
    let e = capitals c.args.entity in
    let xs = c.find-declarations.result.now in
    let above = graph_of c.args.known.now.above.now in
    let k = c.requires.known in
    let are : AreDeclarations s a xs =
    subst (AreDeclarations s a) (sym c.find-declarations.ensures) (k.attributes c.args.name) in
    let owner = c.owner_of-owner.ensures in
    let all = c.in_ok-taken.ensures ∙ ap (λ o. of_owner o xs) owner in
    let first = c.deref.ensures.value ∙ all in
    let taken = c.deref-2.ensures.value ∙ all in
    let unclear =
    entity-unclear s above k.above k.resolved a xs are e c.find.result (sym c.find.ensures) c.is_none-is_unclear.result
    (c.is_none-is_unclear.ensures ∙ ap (λ ys. not (is_any ys)) first) in
    IfOk-weaker c.gather.result _ (IsTaken s (of_entity e a)) (λ t (gathers, same). is-taken s (of_entity e a) xs
    (is_owned (owner_of above xs c.find.result)) (entity-chooses s above k.above k.resolved a xs are e c.find.result
    (sym c.find.ensures)) t (subst (λ ys. Gathers s ys t) taken gathers)
    ((λ h. unclear.0 (sym same ∙ h)), (λ u. same ∙ unclear.1 u))) c.gather.ensures
