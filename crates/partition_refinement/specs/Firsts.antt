-- The first places of classes.
use Rattle.std.specs.Prelude.{ℕ, ◌<◌, ◌≤◌}
use Rattle.partitions.specs.Layouts.{Layout, size, count, class_in, parent_of}
use Rattle.partitions.specs.Refinements.{Above}

-- place h is the first of class c when there were `base` classes
pub record IsFirstIn (p : Layout) (base c h : ℕ) : Type 0 where
  pub within : h < size p
  pub there : Above p.parent base (class_in p h) c
  pub least : (x : ℕ) → x < size p → Above p.parent base (class_in p x) c → h ≤ x

-- place h is the first of the class that place x was in when there were `base` classes
abbrev pub IsFirstOf : Layout → ℕ → ℕ → ℕ → Type 0
IsFirstOf p base x h = (c : ℕ) × Above p.parent base (class_in p x) c × IsFirstIn p base c h

-- place h is the first of its class when there were `base` classes
abbrev pub IsFirst : Layout → ℕ → ℕ → Type 0
IsFirst p base h = (c : ℕ) × (c < base) × IsFirstIn p base c h

-- each class from `low` on was split off one with a smaller number
abbrev pub AreParted : Layout → ℕ → Type 0
AreParted p low = (d : ℕ) → low ≤ d → d < count p → parent_of p d < d
