use Rattle.std.proofs.Common.{OnOk, subst}
use Rattle.std.proofs.lemmas.Result.{on_ok_weaker}
use Rattle.express_syntax.specs.ExpressionViews.{capitals}
use Rattle.express_syntax.specs.Views.{attribute_of, collection_of}
use Rattle.schema_semantics.specs.Parts.{attribute_label, parts_of_collection, parts_of_redeclared_inverse}
use Rattle.schema_unchecked_declarations.specs.UncheckedLists.{Adds, unchecked_in}
use Rattle.schema_unchecked_declarations.proofs.Joining.{adds-joined}
use Rattle.schema_unchecked_declarations.proofs.declarations.add_inverse.Goals as goal

pub returns : goal.returns
returns c =
    let h = capitals c.args.holder in
    let x = attribute_of c.args.inverse.now.attribute in
    let k = collection_of c.args.inverse.now.collection in
    let mid = unchecked_in c.add_redeclared_inverse.new.list.items in
    let new = unchecked_in c.add_collection.new.list.items in
    on_ok_weaker c.add_collection.result
    (adds-joined (parts_of_redeclared_inverse h x) (parts_of_collection (attribute_label h x) k)
    (unchecked_in c.args.list.now.items) mid new c.in_ok-add_redeclared_inverse.ensures)
    (subst (λ n. OnOk c.add_collection.result (Adds (parts_of_collection n k) mid new)) c.attribute_label-label.ensures
    c.add_collection.ensures)
