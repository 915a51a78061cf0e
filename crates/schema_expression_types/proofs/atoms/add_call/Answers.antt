use Rattle.std.proofs.Common.{OnOk, sym, subst}
use Rattle.schema_data_types.specs.steps.Values.{AddsAll}
use Rattle.schema_expression_types.proofs.Adding.{number-called}
use Rattle.schema_expression_types.proofs.atoms.add_call.Goals as goal

pub returns-in-Exists : goal.returns-in-Exists
returns-in-Exists c s = rw c.in-Exists.is (c.add_sort.ensures s)

pub returns-in-Sizeof : goal.returns-in-Sizeof
returns-in-Sizeof c s =
    subst (λ M. OnOk c.add_sort-in-Sizeof.result (AddsAll s c.args.atoms.now.items M
    c.add_sort-in-Sizeof.new.atoms.items)) (sym (number-called c.args.function c.in-Sizeof.is))
    (c.add_sort-in-Sizeof.ensures s)
