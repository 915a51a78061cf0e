use Rattle.graphs.proofs.Ordering.{ordered-lead-to-no-cycle}
use Rattle.graphs.proofs.laws.ordered_vertices_lead_to_no_cycle.Goals as goal

pub returns : goal.returns
returns c = ordered-lead-to-no-cycle
