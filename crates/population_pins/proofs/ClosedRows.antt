-- The rows of supertypes are a transitive graph.
use Rattle.std.specs.Prelude.{ℕ, ◌<◌, List, [], ◌∷◌, ◌++◌, length}
use Rattle.std.proofs.Common.{arith}
use Rattle.graphs.specs.Graphs.{Graph, Step, Chain, Leads}
use Rattle.graphs.proofs.Searching.{reached-within}
use Rattle.express_syntax.specs.Schemas.{Schema}
use Rattle.schema_names.specs.Edges.{supertypes_in}
use Rattle.schema_names.proofs.Edges.{is-graph}
use Rattle.schema_explicit_attributes.specs.Supertypes.{AreAbove}
use Rattle.population_pins.specs.steps.SupertypeLists.{IsTransitive}

chains-joined : {A : Type 0} (S : A → A → Type 0) (a b c : A) (ms ns : List A) → Chain S a ms b → Chain S b ns c
    → Chain S a (ms ++ b ∷ ns) c
chains-joined S a b c [] ns h k = (h, k)
chains-joined S a b c (m ∷ ms) ns h k = (h.0, chains-joined S m b c ms ns h.1 k)

leads-joined : {A : Type 0} (S : A → A → Type 0) (a b c : A) → Leads S a b → Leads S b c → Leads S a c
leads-joined S a b c h k = (h.0 ++ b ∷ k.0, chains-joined S a b c h.0 k.0 h.1 k.1)

pub rows-transitive : (s : Schema) (rows : Graph) → AreAbove s rows → IsTransitive rows
rows-transitive s rows h = record {
  within = λ a b e.
      (let lt : b < length h.graph =
      reached-within h.graph (is-graph s supertypes_in h.graph h.drawn) a b ((h.closed.reached a b).0 e) in
      let same = h.closed.same in
      omega (arith, lt, same));
  onward = λ a b c e f. (h.closed.reached a c).1
      (leads-joined (Step h.graph) a b c ((h.closed.reached a b).0 e) ((h.closed.reached b c).0 f));
}
