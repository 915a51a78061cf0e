-- Instances that stand beside another one of their class, in a list and in the elements that it is of.
use Rattle.std.specs.Prelude.{◌≡◌, ◌≢◌, ℕ, Bool, true, List, [], ◌∷◌, ◌++◌, length, ◌⊎◌, ◌↔◌}
use Rattle.std.proofs.Common.{refl, sym, ap, subst, ◌∙◌, inl, inr, arith}
use Rattle.schema_semantics.specs.Names.{OneOf, Among}
use Rattle.step_values.specs.Values.{Value, leaf, reference, typed, sequence, bag, Values, none, more}
use Rattle.conformance.proofs.Standing.{some_other}
use Rattle.conformance.specs.Elements.{AnElement, IsReferenceTo, StandsWithin, IsAnotherOfClass}
use Rattle.population_pins.specs.steps.Elements.{inside, beside, Asks}
use Rattle.population_pins.specs.steps.Gathering.{Gathers}
use Rattle.population_pins.specs.Lists.{names_in, stand_in, with_list, StandsBeside}
use Rattle.population_pins.specs.steps.Pinning.{Pins}
use Rattle.population_pins.specs.declared.weak_pin_lists.Gathered.{Gathered}
use Rattle.population_pins.proofs.Listed.{one-either, one-left, one-right}

-- a name of the list is an element that refers to it
to-element : (y : ℕ) (vs : Values) → Among y (stand_in vs) → AnElement (IsReferenceTo y) vs
to-element y none m = absurd m
to-element y (more (leaf a) vs) m = inr (to-element y vs m)
to-element y (more (reference z) vs) (inl e) = inl (ap reference e)
to-element y (more (reference z) vs) (inr m) = inr (to-element y vs m)
to-element y (more (typed n v) vs) m = inr (to-element y vs m)
to-element y (more (sequence us) vs) m = inr (to-element y vs m)
to-element y (more (bag us) vs) m = inr (to-element y vs m)

later-name : (y : ℕ) (v : Value) (l : List ℕ) → Among y l → Among y (names_in v ++ l)
later-name y (leaf a) l m = m
later-name y (reference z) l m = inr m
later-name y (typed n v) l m = m
later-name y (sequence us) l m = m
later-name y (bag us) l m = m

from-element : (y : ℕ) (vs : Values) → AnElement (IsReferenceTo y) vs → Among y (stand_in vs)
from-element y none h = absurd h
from-element y (more v vs) (inl is) = subst (λ w. Among y (names_in w ++ stand_in vs)) (sym is) (inl refl)
from-element y (more v vs) (inr h) = later-name y v (stand_in vs) (from-element y vs h)

-- another element of its class
another : (E : ℕ → ℕ → Bool) (y z : ℕ) (vs : Values) → z ≢ y → E y z ≡ true → AnElement (IsReferenceTo z) vs
    → AnElement (IsAnotherOfClass E y) vs
another E y z none n e h = absurd h
another E y z (more v vs) n e (inl is) = inl (z, is, n, e)
another E y z (more v vs) n e (inr h) = inr (another E y z vs n e h)

from-another : (E : ℕ → ℕ → Bool) (y : ℕ) (vs : Values) → AnElement (IsAnotherOfClass E y) vs
    → (z : ℕ) × AnElement (IsReferenceTo z) vs × (z ≢ y) × (E y z ≡ true)
from-another E y none h = absurd h
from-another E y (more v vs) (inl h) = (h.0, inl h.1, h.2, h.3)
from-another E y (more v vs) (inr h) =
    let there = from-another E y vs h in
    (there.0, inr there.1, there.2, there.3)

to-asked : (E : ℕ → ℕ → Bool) (y : ℕ) (vs : Values) → StandsBeside E y (stand_in vs) → Asks (beside E y) vs
to-asked E y vs (here, z, there, other, same) =
    (to-element y vs here, another E y z vs other same (to-element z vs there))

from-asked : (E : ℕ → ℕ → Bool) (y : ℕ) (vs : Values) → Asks (beside E y) vs → StandsBeside E y (stand_in vs)
from-asked E y vs (here, h) =
    let (z, there, other, same) = from-another E y vs h in
    (from-element y vs here, z, from-element z vs there, other, same)

-- a list in which fewer than two names stand has none beside another one
alone : (E : ℕ → ℕ → Bool) (x y : ℕ) → StandsBeside E y (x ∷ []) → ⊥
alone E x y (inl e, z, inl f, other, same) = other (sym f ∙ e)
alone E x y (inl e, z, inr f, other, same) = f
alone E x y (inr e, z, there, other, same) = e

listed : (E : ℕ → ℕ → Bool) (y : ℕ) (ls : List (List ℕ)) (l : List ℕ)
    → OneOf (StandsBeside E y) (with_list ls l) ↔ (OneOf (StandsBeside E y) ls ⊎ StandsBeside E y l)
listed E y ls [] = ((λ h. inl h), (λ t. elim t [ inl h ↦ h | inr h ↦ absurd h.0 ]))
listed E y ls (x ∷ []) = ((λ h. inl h), (λ t. elim t [ inl h ↦ h | inr h ↦ absurd (alone E x y h) ]))
listed E y ls (x ∷ z ∷ l) = (
  (λ h. elim (one-either (StandsBeside E y) ls ((x ∷ z ∷ l) ∷ []) h) [
    | inl k ↦ inl k
    | inr k ↦ elim k [ inl b ↦ inr b | inr b ↦ absurd b ]
  ]),
  (λ t. elim t [
    | inl k ↦ one-left (StandsBeside E y) ls ((x ∷ z ∷ l) ∷ []) k
    | inr k ↦ one-right (StandsBeside E y) ls ((x ∷ z ∷ l) ∷ []) (inl k)
  ]),
)

-- one list more, and what stands inside its elements
pub gathers-list : (vs : Values) (old new : Gathered) → new.lists ≡ with_list old.lists (stand_in vs)
    → Pins (λ y. AnElement (StandsWithin y) vs) old.names new.names → Gathers (λ q. Asks q vs) old new
gathers-list vs old new lists pins (inside y) = pins y
gathers-list vs old new lists pins (beside E y) =
    subst (λ ls. OneOf (StandsBeside E y) ls ↔ (OneOf (StandsBeside E y) old.lists ⊎ Asks (beside E y) vs)) (sym lists)
    (let both = listed E y old.lists (stand_in vs) in (
      (λ h. elim (both.0 h) [ inl k ↦ inl k | inr k ↦ inr (to-asked E y vs k) ]),
      (λ t. both.1 (elim t [ inl k ↦ inl k | inr k ↦ inr (from-asked E y vs k) ])),
    ))

-- no list has nothing beside it
pub none-listed : (R : List ℕ → Type 0) (ls : List (List ℕ)) → length ls ≡ 0 → OneOf R ls → ⊥
none-listed R [] e h = h
none-listed R (l ∷ ls) e h = omega (arith, e)

-- what lists tell, where none were there before
pub from-empty : (R : List ℕ → Type 0) (A P : Type 0) (ls : List (List ℕ)) → ls ≡ [] → A ↔ (OneOf R ls ⊎ P) → A ↔ P
from-empty R A P ls e h = (
  (λ a. elim (h.0 a) [ inl k ↦ absurd (subst (OneOf R) e k) | inr p ↦ p ]),
  (λ p. h.1 (inr p)),
)

-- P and Q hold of the same lists
pub same-lists : (P Q : List ℕ → Type 0) (ls : List (List ℕ)) → ((l : List ℕ) → P l ↔ Q l) → OneOf P ls ↔ OneOf Q ls
same-lists P Q ls same = (
  some_other {A = List ℕ} {P = P} {Q = Q} (λ l h. (same l).0 h) ls,
  some_other {A = List ℕ} {P = Q} {Q = P} (λ l h. (same l).1 h) ls,
)
