use Rattle.checking.proofs.Once.{reports_are_one}
use Rattle.checking.proofs.laws.reports_are_one.Goals as goal

pub returns : goal.returns
returns c = reports_are_one
