use Rattle.parameter_fits.proofs.Bagged.{members_by_name}
use Rattle.parameter_fits.proofs.normal_forms.sorted.Goals as goal

pub returns : goal.returns
returns c vs h = (
  c.args.forms.items,
  members_by_name vs c.args.forms.items h,
  c.sort_unstable.ensures.permutation,
  c.sort_unstable.ensures.sorted,
)
