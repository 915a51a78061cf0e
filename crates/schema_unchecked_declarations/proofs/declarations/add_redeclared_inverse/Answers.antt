use Rattle.std.proofs.Common.{OnOk, subst, sym}
use Rattle.std.proofs.lemmas.Result.{on_ok_weaker}
use Rattle.express_syntax.specs.ExpressionViews.{capitals}
use Rattle.express_syntax.specs.Views.{attribute_of}
use Rattle.schema_semantics.specs.declared.unchecked.PartKind.TheVariants as parts
use Rattle.schema_semantics.specs.declared.unchecked.Reason.TheVariants as reasons
use Rattle.schema_semantics.specs.Parts.{dotted, parts_of_redeclared_inverse}
use Rattle.schema_unchecked_declarations.specs.UncheckedLists.{Adds, unchecked_in}
use Rattle.schema_unchecked_declarations.proofs.Joining.{adds-part}
use Rattle.schema_unchecked_declarations.proofs.declarations.add_redeclared_inverse.Goals as goal

pub returns-in-Redeclared : goal.returns-in-Redeclared
returns-in-Redeclared c =
    let h = capitals c.args.holder in
    let old = unchecked_in c.args.list.now.items in
    let new = unchecked_in c.add_part.new.list.items in
    subst (λ a. OnOk c.add_part.result (Adds (parts_of_redeclared_inverse h (attribute_of a)) old new))
    (sym c.in-Redeclared.is)
    (on_ok_weaker c.add_part.result
    (adds-part parts.Inverse (dotted h (capitals c.in-Redeclared.name)) reasons.Profile (Unit {0}) old new tt)
    c.add_part.ensures)
