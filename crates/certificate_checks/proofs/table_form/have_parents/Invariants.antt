use Rattle.std.proofs.Common.{◌<◌, ℕ}
use Rattle.value_equality.specs.TableViews.{table_of}
use Rattle.certificate_checks.specs.steps.ComputedParents.{HasParent}
use Rattle.certificate_checks.proofs.table_form.have_parents.Given as goal

abbrev pub invariant-loop-class : goal.invariant-loop-class
invariant-loop-class l = (c : ℕ) → c < l.class → HasParent (table_of l.table) c
