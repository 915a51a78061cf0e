use Rattle.std.proofs.Common.{◌≡◌, ℕ, ◌<◌, ◌≤◌, ◌-◌, length, map}
use Rattle.graphs.specs.Rounds.{Awaits}
use Rattle.graphs.specs.steps.Placings.{IsPlacing}
use Rattle.graphs.proofs.order_building.place_all.Given as goal

abbrev pub invariant-loop-at : goal.invariant-loop-at
invariant-loop-at l =
    record {
      marks : length l.marks ≡ length l.edges;
      passed : length l.passed ≡ length l.edges;
      placing : IsPlacing (map (λ v. v.items) l.edges) l.order.items l.marks l.passed;
      awaits : (a : ℕ) → a < length l.edges → Awaits (map (λ v. v.items) l.edges) l.order.items l.at a;
      within : l.at ≤ length l.order.items;
    }

abbrev pub decreases-loop-at : goal.decreases-loop-at
decreases-loop-at l = length l.edges - l.at
