-- The names of elements, added to those that stand there already.
use Rattle.std.specs.Prelude.{◌≡◌, ◌≤◌, ◌+◌, ℕ, List, [], ◌++◌, length, Some}
use Rattle.std.proofs.Common.{refl, sym, ap, ◌∙◌, arith, append_assoc, append-nil}
use Rattle.std.proofs.lemmas.List.{length-append}
use Rattle.step_values.specs.AgreementTests.{value_count}
use Rattle.step_values.specs.steps.Slots.{nth}
use Rattle.step_values.specs.Values.{Value, Values}
use Rattle.step_values.proofs.Walks.{after, after_at, after_all}
use Rattle.population_pins.specs.Lists.{names_in, stand_in}

-- those of the elements before a place
pub record AreAdded (vs : Values) (i : ℕ) (old new : List ℕ) : Type 0 where
  pub before : List ℕ
  pub all : before ++ stand_in (after i vs) ≡ stand_in vs
  pub now : new ≡ old ++ before

pub added-none : (vs : Values) (old : List ℕ) → AreAdded vs 0 old old
added-none vs old = record { before = []; all = refl; now = sym (append-nil old) }

pub added-next : (vs : Values) (i : ℕ) (v : Value) (old mid new : List ℕ) → nth vs i ≡ Some v → AreAdded vs i old mid
    → new ≡ mid ++ names_in v → AreAdded vs (i + 1) old new
added-next vs i v old mid new at h is = record {
  before = h.before ++ names_in v;
  all = append_assoc h.before (names_in v) (stand_in (after (i + 1) vs))
      ∙ ap (λ us. h.before ++ stand_in us) (sym (after_at vs i v at)) ∙ h.all;
  now = is ∙ ap (λ l. l ++ names_in v) h.now ∙ append_assoc old h.before (names_in v);
}

pub added-all : (vs : Values) (i : ℕ) (old new : List ℕ) → value_count vs ≤ i → AreAdded vs i old new
    → new ≡ old ++ stand_in vs
added-all vs i old new past h =
    h.now
    ∙ ap (λ l. old ++ l)
    (sym (append-nil h.before) ∙ ap (λ us. h.before ++ stand_in us) (sym (after_all vs i past)) ∙ h.all)

-- what stood there stays
pub added-longer : (vs : Values) (i : ℕ) (old new : List ℕ) → AreAdded vs i old new → length old ≤ length new
added-longer vs i old new h = let long = ap length h.now ∙ length-append old h.before in omega (arith, long)
