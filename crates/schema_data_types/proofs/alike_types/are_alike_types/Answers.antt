use Rattle.schema_data_types.proofs.Fitting.{trees-alike}
use Rattle.schema_data_types.proofs.FromTrees.{numbers-alike}
use Rattle.schema_data_types.proofs.alike_types.are_alike_types.Goals as goal

pub returns : goal.returns
returns c s k l r t first second known other = (
  λ h. trees-alike s r c.args.shapes.now t c.args.first c.args.second k l first second known other
      (c.are_alike.ensures.0 h),
  λ h. c.are_alike.ensures.1
      (numbers-alike s r c.args.shapes.now t c.args.first c.args.second k l first second known other h),
)
