use Rattle.std.proofs.Common.{ap}
use Rattle.value_equality.specs.TableViews.{origin_of}
use Rattle.certificate_checks.proofs.SplitOff.{none_added, one_added}
use Rattle.certificate_checks.proofs.births.push_birth.Goals as goal

pub returns-in-Start : goal.returns-in-Start
returns-in-Start c =
    none_added c.args.class (origin_of c.args.origin) c.args.births.now.items (ap origin_of c.in-Start.is)

pub returns-in_ok-push-in-Split : goal.returns-in_ok-push-in-Split
returns-in_ok-push-in-Split c =
    one_added c.args.class (origin_of c.args.origin) c.args.births.now.items c.in-Split.parent c.in-Split.round
    (ap origin_of c.in-Split.is) c.push.new.self.items c.in_ok-push-in-Split.ensures.items
