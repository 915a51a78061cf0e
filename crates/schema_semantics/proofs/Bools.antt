-- Truth values.
use Rattle.std.specs.Prelude.{◌≡◌, Bool, true, false, ◌&&◌, ◌||◌}
use Rattle.std.proofs.Common.{refl}

pub both-hold : (b c : Bool) → (b && c) ≡ true → (b ≡ true) × (c ≡ true)
both-hold true true e = (refl, refl)
both-hold true false e = absurd (cc)
both-hold false c e = absurd (cc)

pub is-false : (c : Bool) → (c ≡ true → ⊥) → c ≡ false
is-false true h = absurd (h refl)
is-false false h = refl

pub or-left : (b c : Bool) → b ≡ true → (b || c) ≡ true
or-left true c e = refl
or-left false c e = absurd (cc)

pub or-right : (b c : Bool) → c ≡ true → (b || c) ≡ true
or-right true c e = refl
or-right false c e = e
