use Rattle.value_equality.specs.TableViews.{table_of}
use Rattle.certificate_checks.specs.steps.ComputedParents.{AreAncestors}
use Rattle.certificate_checks.proofs.ancestors.ancestors.Given as goal

abbrev pub invariant-loop-class : goal.invariant-loop-class
invariant-loop-class l = AreAncestors (table_of l.table) l.round l.ancestors.items l.class
