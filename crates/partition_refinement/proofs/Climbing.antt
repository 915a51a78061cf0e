-- Up the chain of parents.
use Rattle.std.proofs.Common.{◌≡◌, ◌≤◌, ◌<◌, ℕ, List, subst, arith}
use Rattle.std.specs.Prelude.{slice_index}
use Rattle.partitions.specs.Layouts.{Layout, count, parent_of}
use Rattle.partitions.specs.Refinements.{Above, here, up}
use Rattle.partition_refinement.specs.Firsts.{AreParted}

-- what is above the one is above the other
pub record IsOnTheWay (p : Layout) (base class at : ℕ) : Type 0 where
  pub known : at < count p
  pub above : (a : ℕ) → Above p.parent base at a → Above p.parent base class a

pub way_begins : (p : Layout) (base class : ℕ) → class < count p → IsOnTheWay p base class class
way_begins p base class l = record { known = l; above = λ a h. h }

pub way_goes_on : (p : Layout) (base class at next : ℕ) → IsOnTheWay p base class at → AreParted p base → base ≤ at
    → next ≡ parent_of p at → IsOnTheWay p base class next
way_goes_on p base class at next way parted h is =
    let l : parent_of p at < at = parted at h way.known in
    let k = way.known in
    record {
      known = omega arith;
      above = λ a g. way.above a (up at a h l (subst (λ c. Above p.parent base c a) is g));
    }

pub way_ends : (p : Layout) (base class at : ℕ) → IsOnTheWay p base class at → at < base → Above p.parent base class at
way_ends p base class at way l = way.above at (here at l)

-- chains join
pub above_join : (ps : List ℕ) (low high c b a : ℕ) → low ≤ high → Above ps high c b → Above ps low b a → Above ps low c a
above_join ps low high c b a le (here d l) g = g
above_join ps low high c b a le (up d e l m rest) g =
    up d a (omega arith) m (above_join ps low high (slice_index ps d) e a le rest g)
