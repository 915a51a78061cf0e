use Rattle.std.proofs.Common.{false, sym, subst}
use Rattle.schema_semantics.specs.Sets.{Aggregates}
use Rattle.schema_data_types.specs.declared.values.Atom.TheVariants as atoms
use Rattle.schema_data_types.specs.steps.Values.{AddsAll, IsMeant}
use Rattle.schema_data_types.proofs.Sets.{adds-atom}
use Rattle.schema_expression_types.proofs.Adding.{aggregate-meant}
use Rattle.schema_expression_types.proofs.atoms.add_aggregate.Goals as goal

pub returns-in_ok-push : goal.returns-in_ok-push
returns-in_ok-push c s =
    let n = c.in-Aggregate.number in
    let w = c.in-Aggregate.field-1 in
    rw c.in-Aggregate.is (subst (AddsAll s c.args.atoms.now.items (Aggregates (IsMeant s (atoms.Aggregate n w))))
    (sym c.in_ok-push.ensures.items) (adds-atom s c.args.atoms.now.items (atoms.Aggregate n false)
    (Aggregates (IsMeant s (atoms.Aggregate n w))) (aggregate-meant s n w)))
