use Rattle.checking.proofs.Oneness.{checks_are_one}
use Rattle.checking.proofs.laws.checks_are_one.Goals as goal

pub returns : goal.returns
returns c = checks_are_one c.reports_are_one.ensures
