use Rattle.std.proofs.Common.{OnOk, subst, sym}
use Rattle.std.proofs.lemmas.Result.{on_ok_weaker}
use Rattle.express_syntax.specs.ExpressionViews.{capitals}
use Rattle.express_syntax.specs.Views.{supertype_of}
use Rattle.schema_semantics.specs.declared.unchecked.PartKind.TheVariants as parts
use Rattle.schema_semantics.specs.declared.unchecked.Reason.TheVariants as reasons
use Rattle.schema_semantics.specs.Parts.{parts_of_supertype}
use Rattle.schema_unchecked_declarations.specs.UncheckedLists.{Adds, unchecked_in}
use Rattle.schema_unchecked_declarations.proofs.Joining.{adds-part}
use Rattle.schema_unchecked_declarations.proofs.declarations.add_supertype.Goals as goal

pub returns-in-OfOther : goal.returns-in-OfOther
returns-in-OfOther c =
    let n = capitals c.args.entity in
    let old = unchecked_in c.args.list.now.items in
    let new = unchecked_in c.add_part.new.list.items in
    subst (λ s. OnOk c.add_part.result (Adds (parts_of_supertype n (supertype_of s)) old new)) (sym c.in-OfOther.is)
    (on_ok_weaker c.add_part.result (adds-part parts.Supertype n reasons.Profile (Unit {0}) old new tt)
    c.add_part.ensures)
