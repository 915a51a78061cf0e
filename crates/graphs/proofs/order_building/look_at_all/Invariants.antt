use Rattle.std.proofs.Common.{◌≡◌, ℕ, ◌<◌, length, map}
use Rattle.graphs.specs.Rounds.{Awaits}
use Rattle.graphs.specs.steps.Placings.{IsPlacing}
use Rattle.graphs.proofs.order_building.look_at_all.Given as goal

abbrev pub invariant-loop-vertex : goal.invariant-loop-vertex
invariant-loop-vertex l =
    record {
      marks : length l.marks ≡ length l.fn.marks;
      passed : length l.passed ≡ length l.fn.passed;
      placing : IsPlacing (map (λ v. v.items) l.edges) l.order.items l.marks l.passed;
      awaits : (a : ℕ) → a < l.vertex → Awaits (map (λ v. v.items) l.edges) l.order.items 0 a;
    }
