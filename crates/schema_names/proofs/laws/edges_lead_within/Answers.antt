use Rattle.schema_names.proofs.Carried.{edges-lead-within}
use Rattle.schema_names.proofs.laws.edges_lead_within.Goals as goal

pub returns : goal.returns
returns c = edges-lead-within
