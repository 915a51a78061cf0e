use Rattle.std.proofs.lemmas.Result.{IfOk-weaker}
use Rattle.row_signatures.proofs.Indexing.{moved}
use Rattle.row_signatures.proofs.signatures.indexed.Goals as goal

pub returns : goal.returns
returns c =
    IfOk-weaker c.of.result _ _ (λ x h.
    moved c.args.input.now c.in_ok-edges.edges.items x c.in_ok-edges.ensures.edges c.in_ok-edges.ensures.references h)
    c.of.ensures
