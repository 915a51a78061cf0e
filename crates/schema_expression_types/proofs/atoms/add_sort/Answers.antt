use Rattle.std.proofs.Common.{false, sym, subst}
use Rattle.schema_semantics.specs.Sets.{Only}
use Rattle.schema_data_types.specs.declared.values.Atom.TheVariants as atoms
use Rattle.schema_data_types.specs.steps.Values.{AddsAll, sort_of}
use Rattle.schema_data_types.proofs.Sets.{adds-atom}
use Rattle.schema_expression_types.proofs.atoms.add_sort.Goals as goal

pub returns : goal.returns
returns c s =
    let t = c.args.sort in
    subst (AddsAll s c.args.atoms.now.items (Only (sort_of t))) (sym c.in_ok-push.ensures.items)
    (adds-atom s c.args.atoms.now.items (atoms.Value t false) (Only (sort_of t)) (λ x. (λ h. h, λ h. h)))
