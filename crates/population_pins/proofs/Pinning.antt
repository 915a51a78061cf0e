-- Names that are pinned one behind the other.
use Rattle.std.specs.Prelude.{◌||◌, ◌++◌, [], ◌∷◌, ◌≡◌, ℕ, ◌==◌, Bool, true, false, cond, IsTrue, ◌⊎◌, ◌↔◌, nat_lt, Vec}
use Rattle.std.specs.BTreeMap.{is_at}
use Rattle.std.specs.List.{list_any}
use Rattle.std.specs.Ordering.{nat_cmp, is_eq}
use Rattle.std.specs.declared.cmp.Ordering.TheVariants.{Less, Equal, Greater}
use Rattle.std.proofs.Common.{refl, sym, ap, ◌∙◌, inl, inr, arith, Global}
use Rattle.std.proofs.lemmas.Bool.{eqb-true, eq-eqb, ltb-true, false≢true}
use Rattle.std.proofs.lemmas.List.Folds.{list_any-append}
use Rattle.population_pins.specs.steps.Pinning.{has_name, Pins, PinsUpTo}
use Rattle.population_pins.proofs.Growing as growing

-- a query for a name finds that name alone
pub finds : (n y : ℕ) → is_at (nat_cmp n) y ≡ (n == y)
finds n y = by (nat_lt n y) (n == y) refl refl
  where
    by : (l e : Bool) → nat_lt n y ≡ l → (n == y) ≡ e → is_eq (cond l Less (cond e Equal Greater)) ≡ e
    by true true a b =
        let lt = ltb-true n y a in
        let same = eqb-true n y b in
        absurd (omega (arith, lt, same))
    by true false a b = refl
    by false true a b = refl
    by false false a b = refl

-- the names that are pinned
abbrev In : Vec ℕ Global → ℕ → Type 0
In s y = IsTrue (has_name s y)

pub pins-nothing : (P : ℕ → Type 0) (s : Vec ℕ Global) → ((y : ℕ) → P y → ⊥) → Pins P s s
pins-nothing P s none = growing.nothing P (In s) none

-- P and Q hold of the same names
pub pins-alike : (P Q : ℕ → Type 0) (old new : Vec ℕ Global) → ((y : ℕ) → P y ↔ Q y) → Pins P old new → Pins Q old new
pins-alike P Q old new same h = growing.alike P Q (In old) (In new) same h

pub pins-both : (P Q : ℕ → Type 0) (old mid new : Vec ℕ Global) → Pins P old mid → Pins Q mid new
    → Pins (λ y. P y ⊎ Q y) old new
pins-both P Q old mid new h k = growing.both P Q (In old) (In mid) (In new) h k

-- all are left at first
pub starts : (P : ℕ → Type 0) (s : Vec ℕ Global) → PinsUpTo P P s s
starts P s = growing.starts P (In s)

-- some of what is left
pub next : (P left here behind : ℕ → Type 0) (old mid new : Vec ℕ Global) → PinsUpTo P left old mid
    → Pins here mid new → ((y : ℕ) → left y ↔ (here y ⊎ behind y)) → PinsUpTo P behind old new
next P left here behind old mid new h k cut =
    growing.next P left here behind (In old) (In mid) (In new) h k cut

-- Some of the names that are left are passed over, because nothing of them is pinned.
pub passes : (P left behind : ℕ → Type 0) (old new : Vec ℕ Global) → PinsUpTo P left old new
    → ((y : ℕ) → left y ↔ behind y) → PinsUpTo P behind old new
passes P left behind old new h same = growing.passes P left behind (In old) (In new) h same

-- nothing is left
pub ends : (P left : ℕ → Type 0) (old new : Vec ℕ Global) → PinsUpTo P left old new → ((y : ℕ) → left y → ⊥)
    → Pins P old new
ends P left old new h none = growing.ends P left (In old) (In new) h none

-- one name behind the others
pub one-more : (old new : Vec ℕ Global) (n : ℕ) → new.items ≡ old.items ++ n ∷ [] → Pins (λ y. y ≡ n) old new
one-more old new n is y = by (has_name old y) refl (y == n) refl
  where
    told : has_name new y ≡ (has_name old y || ((y == n) || false))
    told =
        ap (list_any (is_at (nat_cmp y))) is ∙ list_any-append (is_at (nat_cmp y)) old.items (n ∷ [])
        ∙ ap (λ b. has_name old y || (b || false)) (finds y n)

    by : (a : Bool) → has_name old y ≡ a → (b : Bool) → (y == n) ≡ b
        → IsTrue (has_name new y) ↔ (IsTrue (has_name old y) ⊎ (y ≡ n))
    by true p b q = ((λ t. inl p), (λ h. told ∙ ap (λ a. a || ((y == n) || false)) p))
    by false p true q = ((λ t. inr (eqb-true y n q)), (λ h. told ∙ (λ i. p i || (q i || false))))
    by false p false q = (
      (λ t. absurd (false≢true (sym (told ∙ (λ i. p i || (q i || false))) ∙ t))),
      (λ h. elim h [
        | inl k ↦ absurd (false≢true (sym p ∙ k))
        | inr e ↦ absurd (false≢true (sym q ∙ eq-eqb y n e))
      ]),
    )
