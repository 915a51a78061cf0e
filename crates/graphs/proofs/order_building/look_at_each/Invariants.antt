use Rattle.std.proofs.Common.{◌≡◌, ℕ, ◌≤◌, true, length, map, take}
use Rattle.graphs.specs.Graphs.{has}
use Rattle.graphs.specs.Rounds.{Awaits}
use Rattle.graphs.specs.steps.Placings.{IsPlacing, Extends}
use Rattle.graphs.proofs.order_building.look_at_each.Given as goal

abbrev pub invariant-loop-vertex : goal.invariant-loop-vertex
invariant-loop-vertex l =
    record {
      marks : length l.marks ≡ length l.fn.marks;
      passed : length l.passed ≡ length l.fn.passed;
      placing : IsPlacing (map (λ v. v.items) l.edges) l.order.items l.marks l.passed;
      extends : Extends l.fn.order.items l.order.items;
      awaits : (a : ℕ) → has (take l.vertex-index l.vertices) a ≡ true → (n : ℕ) → n ≤ length l.fn.order.items
          → Awaits (map (λ v. v.items) l.edges) l.order.items n a;
    }
