use Rattle.merge_choices.proofs.Cases.{one-name}
use Rattle.merge_choices.proofs.names.is_same.Goals as goal

pub returns : goal.returns
returns c = one-name c.args.name.now c.args.other.now c.eq_ignore_ascii_case.result c.eq_ignore_ascii_case.ensures.test
