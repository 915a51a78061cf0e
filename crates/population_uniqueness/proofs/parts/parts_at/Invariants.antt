use Rattle.population_uniqueness.proofs.Collected.{Collects}
use Rattle.population_uniqueness.proofs.parts.parts_at.Given as goal

abbrev pub invariant-loop-position : goal.invariant-loop-position
invariant-loop-position l = Collects l.values l.positions l.position-index l.parts.items
