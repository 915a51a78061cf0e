use Rattle.std.proofs.Common.{◌≡◌, ◌++◌, take}
use Rattle.population_inverses.specs.steps.Targets.{references_to}
use Rattle.population_inverses.proofs.inverse_references.add_references.Given as goal

abbrev pub invariant-loop-target : goal.invariant-loop-target
invariant-loop-target l =
    l.references.items ≡ l.fn.references.items ++ references_to (take l.target-index l.targets) l.referrer
