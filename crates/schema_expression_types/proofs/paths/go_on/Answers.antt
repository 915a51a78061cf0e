use Rattle.std.proofs.Common.{◌∙◌, ap, refl, subst}
use Rattle.std.proofs.lemmas.Result.{on_ok_weaker}
use Rattle.express_syntax.specs.ExpressionViews.{capitals, of_attribute, of_group, of_element, selection_of, tree_of}
use Rattle.schema_semantics.specs.Sets.{Elements, of_set, of_entity, WithSubtypes}
use Rattle.schema_data_types.specs.steps.Values.{Holds}
use Rattle.schema_attribute_references.specs.steps.Taking.{IsSet, IsTaken, schema_in}
use Rattle.express_syntax.proofs.Layers.{attribute-selected, group-selected, index-selected}
use Rattle.schema_expression_types.proofs.Walking.{goes-by, goes-to-taken, goes-to-elements}
use Rattle.schema_expression_types.proofs.paths.go_on.Goals as goal

pub returns-in_ok-taken-in-Attribute : goal.returns-in_ok-taken-in-Attribute
returns-in_ok-taken-in-Attribute c =
    let s = schema_in c.args.known.now in
    let a = c.in-Attribute.name in
    let old = c.args.reference.now in
    let new = c.go_to_attribute.new.reference in
    let t = c.in_ok-taken-in-Attribute.taken in
    let taken = subst (λ xs. IsTaken s (of_set (WithSubtypes s (Holds s xs)) (capitals a)) t) c.deref.ensures.value
    c.in_ok-taken-in-Attribute.ensures in
    on_ok_weaker c.go_to_attribute.result (λ j. goes-by s (selection_of c.args.qualifier.now)
    (of_attribute (capitals a)) old new (ap selection_of c.in-Attribute.is ∙ attribute-selected a)
    (goes-to-taken s (of_set (WithSubtypes s (Holds s old.may.items)) (capitals a)) old t new j taken))
    c.go_to_attribute.ensures

pub returns-in_ok-taken-in-Group : goal.returns-in_ok-taken-in-Group
returns-in_ok-taken-in-Group c =
    let s = schema_in c.args.known.now in
    let e = c.in-Group.entity in
    let a = c.in-Group.name in
    let old = c.args.reference.now in
    let new = c.go_to_attribute-in-Group.new.reference in
    on_ok_weaker c.go_to_attribute-in-Group.result (λ j. goes-by s (selection_of c.args.qualifier.now)
    (of_group (capitals e) (capitals a)) old new (ap selection_of c.in-Group.is ∙ group-selected e a)
    (goes-to-taken s (of_entity (capitals e) (capitals a)) old c.in_ok-taken-in-Group.taken new j
    c.in_ok-taken-in-Group.ensures)) c.go_to_attribute-in-Group.ensures

pub returns-in_ok-reference-in-Index : goal.returns-in_ok-reference-in-Index
returns-in_ok-reference-in-Index c =
    let s = schema_in c.args.known.now in
    let i = c.in-Index.field-0 in
    let old = c.args.reference.now in
    let may = c.in_ok-reference-in-Index.field-0 in
    goes-by s (selection_of c.args.qualifier.now) (of_element (tree_of i.value)) old (record old { may = may })
    (ap selection_of c.in-Index.is ∙ index-selected i)
    (goes-to-elements s old (record old { may = may }) refl refl
    (subst (λ xs. IsSet s (Elements s (Holds s xs)) may.items) c.deref-in-Index.ensures.value
    c.in_ok-reference-in-Index.ensures))
