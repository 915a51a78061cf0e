use Rattle.std.proofs.Common.{map}
use Rattle.value_equality.specs.TableViews.{origin_of}
use Rattle.certificate_checks.specs.steps.ComputedSplits.{AreFirstBirths}
use Rattle.certificate_checks.proofs.births.births_of.Given as goal

abbrev pub invariant-loop-class : goal.invariant-loop-class
invariant-loop-class l = AreFirstBirths (map origin_of l.classes) l.births.items l.class
