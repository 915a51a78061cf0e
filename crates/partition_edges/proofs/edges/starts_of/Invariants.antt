use Rattle.partition_edges.proofs.Searching.{AreFirstStarts}
use Rattle.partition_edges.proofs.edges.starts_of.Given as goal

abbrev pub invariant-loop-target : goal.invariant-loop-target
invariant-loop-target l = AreFirstStarts l.edges l.starts.items l.target l.at
