use Rattle.std.proofs.lemmas.Result.{IfOk-weaker}
use Rattle.partition_edges.proofs.round_zero.start.Goals as goal

pub returns : goal.returns
returns c =
    IfOk-weaker c.by_numbers.result _ _
    (λ p h. record { laid = h.laid; settled = h.settled; places = h.places; parts = h.parts }) c.by_numbers.ensures
