use Rattle.std.proofs.Common.{sym}
use Rattle.step_headings.proofs.Headed.{headings_seen}
use Rattle.step_headings.proofs.headings.Headings.of.Goals as goal

pub returns : goal.returns
returns c = sym (headings_seen c.args.exchange)
