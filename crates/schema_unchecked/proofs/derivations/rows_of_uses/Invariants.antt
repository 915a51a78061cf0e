use Rattle.std.proofs.Common.{◌≡◌, ◌++◌, drop, map, length}
use Rattle.graphs.specs.Graphs.{graph_of}
use Rattle.schema_unchecked.specs.steps.Surveyed.{uses_below}
use Rattle.schema_unchecked.proofs.derivations.rows_of_uses.Given as goal

abbrev pub invariant-loop-judgement : goal.invariant-loop-judgement
invariant-loop-judgement l =
    graph_of l.rows.items ++ map (uses_below (length l.judged)) (drop l.judgement-index l.judged)
    ≡ map (uses_below (length l.judged)) l.judged
