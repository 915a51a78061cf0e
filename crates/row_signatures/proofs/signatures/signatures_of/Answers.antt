use Rattle.row_signatures.proofs.signatures.signatures_of.Goals as goal

pub returns : goal.returns
returns c = record { references = c.in_ok-edges.ensures; shaped = c.in_ok-shapes.ensures }
