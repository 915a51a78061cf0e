use Rattle.graphs.proofs.referrers.ends.Goals as goal

pub returns : goal.returns
returns c = record { begin = c.begin_near-first.ensures; ends = c.end_behind.ensures }
