-- Instances that weak pins tell, one behind the other.
use Rattle.std.specs.Prelude.{◌⊎◌, ◌↔◌}
use Rattle.population_pins.specs.steps.Elements.{Question}
use Rattle.population_pins.specs.steps.Gathering.{Tells, Gathers, GathersUpTo}
use Rattle.population_pins.specs.declared.weak_pin_lists.Gathered.{Gathered}
use Rattle.population_pins.proofs.Growing as growing

pub gathers-nothing : (P : Question → Type 0) (w : Gathered) → ((q : Question) → P q → ⊥) → Gathers P w w
gathers-nothing P w none = growing.nothing P (Tells w) none

-- P and Q hold of the same
pub gathers-alike : (P Q : Question → Type 0) (old new : Gathered) → ((q : Question) → P q ↔ Q q) → Gathers P old new
    → Gathers Q old new
gathers-alike P Q old new same h = growing.alike P Q (Tells old) (Tells new) same h

pub gathers-both : (P Q : Question → Type 0) (old mid new : Gathered) → Gathers P old mid → Gathers Q mid new
    → Gathers (λ q. P q ⊎ Q q) old new
gathers-both P Q old mid new h k = growing.both P Q (Tells old) (Tells mid) (Tells new) h k

-- some of what is left
pub next : (P left here behind : Question → Type 0) (old mid new : Gathered) → GathersUpTo P left old mid
    → Gathers here mid new → ((q : Question) → left q ↔ (here q ⊎ behind q)) → GathersUpTo P behind old new
next P left here behind old mid new h k cut =
    growing.next P left here behind (Tells old) (Tells mid) (Tells new) h k cut

-- nothing is left
pub ends : (P left : Question → Type 0) (old new : Gathered) → GathersUpTo P left old new
    → ((q : Question) → left q → ⊥) → Gathers P old new
ends P left old new h none = growing.ends P left (Tells old) (Tells new) h none
