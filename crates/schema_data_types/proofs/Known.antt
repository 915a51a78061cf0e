-- In a resolved schema what stands behind a name is known, and no defined type is made of itself.
use Rattle.std.specs.Prelude.{◌≡◌, ℕ, ◌<◌, Bool, true, false, List, [], ◌∷◌, length}
use Rattle.std.proofs.Common.{refl, inl, inr, sym, subst}
use Rattle.graphs.specs.Graphs.{Graph, has, Step, Chain, Leads, IsCyclic, LeadsToCycle}
use Rattle.graphs.specs.Orders.{IsTopologicalOrder}
use Rattle.express_syntax.specs.Schemas.{Schema, type, data_type, DataType, named}
use Rattle.schema_semantics.specs.Names.{Name, Among, StandsFor, Renames, IsMadeOf, IsOrLeads}
use Rattle.schema_semantics.specs.Faults.{Demand, IsMet, IsResolved, demands, demands_of_declaration, demands_of_underlying, demands_of_data_type}
use Rattle.schema_semantics.proofs.Lists.{among-flat, every-at, every-of, last-step}
use Rattle.schema_semantics.proofs.Supertypes.{found}
use Rattle.schema_names.specs.Edges.{IsGraphOf, parts_in}
use Rattle.schema_names.proofs.Numbers.{one-name}
use Rattle.schema_names.proofs.Edges.{made-of-forth}
use Rattle.schema_data_types.specs.ShapeTables.{IsKnown}

module _ (s : Schema) (r : IsResolved s) where
  pub known-behind : (n : Name) (k : DataType) → StandsFor s n (data_type k) → IsKnown s k
  known-behind n k (t, at, is) =
      every-of (IsMet s) (demands_of_data_type k) (λ d m. every-at (IsMet s) d (demands s) r.known (asked d m))
    where
      asked : (d : Demand) → Among d (demands_of_data_type k) → Among d (demands s)
      asked d m =
          among-flat demands_of_declaration (type t) d s.declarations (found s.declarations n (type t) at).0
          (subst (λ u. Among d (demands_of_underlying u)) (sym is) m)

  pub known-renamed : (k l : DataType) → Renames s k l → IsKnown s l
  known-renamed (named n) l h = known-behind n l h
  known-renamed k l h = absurd h

  known-along : (k : DataType) (ms : List DataType) (l : DataType) → Chain (Renames s) k ms l → IsKnown s l
  known-along k [] l c = known-renamed k l c
  known-along k (m ∷ ms) l c = known-along m ms l c.1

  pub known-on : (k l : DataType) → IsKnown s k → IsOrLeads (Renames s) k l → IsKnown s l
  known-on k l h (inl e) = subst (IsKnown s) e h
  known-on k l h (inr (ms, c)) = known-along k ms l c

  module _ (g : Graph) (h : IsGraphOf s parts_in g) where
    pub no-cycle : (i : ℕ) → IsCyclic g i → ⊥
    no-cycle i c =
        let (m, step) = last-step (Step g) i i c in
        let (d, at, n, among, k) = (h.edges m i).0 step in
        let (x, l, b) = made-of-forth s g h n i i k c in
        r.no_type_cycle n (subst (λ (y : Name). Leads (IsMadeOf s) (named n) (named y)) (one-name s x n i l k) b)

    no-lead : (i : ℕ) → LeadsToCycle g i → ⊥
    no-lead i (inl c) = no-cycle i c
    no-lead i (inr (j, reached, c)) = no-cycle j c

    pub all-ordered : (order : List ℕ) → IsTopologicalOrder g order → (i : ℕ) → i < length g → has order i ≡ true
    all-ordered order o i lt = by (has order i) refl
      where
        by : (b : Bool) → has order i ≡ b → b ≡ true
        by true e = refl
        by false e = absurd (no-lead i (o.rest i lt e))
