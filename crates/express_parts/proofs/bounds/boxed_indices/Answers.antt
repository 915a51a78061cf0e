use Rattle.express_parts.proofs.bounds.boxed_indices.Goals as goal

pub returns-clause-read : goal.returns-clause-read
returns-clause-read c = rw c.in_ok-boxed.ensures.ok c.in_ok-bounds.ensures.read

pub returns-clause-text : goal.returns-clause-text
returns-clause-text c = rw c.in_ok-boxed.ensures.ok c.in_ok-bounds.ensures.text
