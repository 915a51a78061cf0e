-- What is above an entity is declared.
use Rattle.std.proofs.Common.{arith}
use Rattle.graphs.specs.Graphs.{Graph, IsGraph}
use Rattle.graphs.proofs.Searching.{reached-within}
use Rattle.express_syntax.specs.Schemas.{Schema}
use Rattle.schema_names.specs.Edges.{supertypes_in}
use Rattle.schema_names.proofs.Edges.{is-graph}
use Rattle.schema_explicit_attributes.specs.Supertypes.{AreAbove}

pub above-graph : (s : Schema) (rows : Graph) → AreAbove s rows → IsGraph rows
above-graph s rows h a b step =
    let lt = reached-within h.graph (is-graph s supertypes_in h.graph h.drawn) a b ((h.closed.reached a b).0 step) in
    let same = h.closed.same in
    omega (arith, lt, same)
