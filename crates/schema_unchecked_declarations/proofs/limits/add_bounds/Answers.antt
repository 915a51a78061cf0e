use Rattle.std.proofs.lemmas.Result.{on_ok_weaker}
use Rattle.express_syntax.specs.Views.{bound_of}
use Rattle.schema_semantics.specs.Parts.{parts_of_bound}
use Rattle.schema_unchecked_declarations.specs.UncheckedLists.{label_name, unchecked_in}
use Rattle.schema_unchecked_declarations.proofs.Joining.{adds-joined}
use Rattle.schema_unchecked_declarations.proofs.limits.add_bounds.Goals as goal

pub returns : goal.returns
returns c =
    let n = label_name c.args.label in
    on_ok_weaker c.add_bound-2.result
    (adds-joined (parts_of_bound n (bound_of c.args.bounds.now.lower))
    (parts_of_bound n (bound_of c.args.bounds.now.upper))
    (unchecked_in c.args.list.now.items) (unchecked_in c.add_bound.new.list.items)
    (unchecked_in c.add_bound-2.new.list.items) c.in_ok-add_bound.ensures) c.add_bound-2.ensures
