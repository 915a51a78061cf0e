-- How weak, gentle and plain pins lie to one another, and what they tell apart.
use Rattle.std.specs.Prelude.{◌≡◌, ℕ, ◌==◌, ◌||◌, ◌&&◌, ◌⊎◌, Bool, IsTrue, true, false, cond, List, is_some}
use Rattle.std.proofs.Common.{refl, sym, subst, inl, inr, eqb-true, eq-eqb}
use Rattle.std.proofs.lemmas.Bool.{and_parts, and_from, or_cases, or_left, or_right, cases_eq, both_ways}
use Rattle.step_values.proofs.References.{each_weaker_of}
use Rattle.step_values.proofs.Agreement.{agree_each_refl, agree_each_trans}
use Rattle.value_equality.specs.Rows.{Row, row_at, IsName, IsPopulation}
use Rattle.value_equality.specs.ValueEquality.{under, AreAlike, AgreeUnder, Keeps, ValueEqual}
use Rattle.value_equality.specs.Images.{kernel}
use Rattle.value_equality.proofs.Kernels.{kernel_from, kernels_are_congruences}
use Rattle.value_equality.proofs.Lookup.{held_name, name_held}
use Rattle.value_equality.proofs.Pairs.{alike_refl, agree_under_refl}
use Rattle.value_equality.proofs.Congruences.{value_equality_is_congruence}
use Rattle.conformance.specs.Populations.{Slot}
use Rattle.conformance.specs.CollectionMembers.{InBag, StandsInBag}
use Rattle.conformance.specs.RuleLaws.{WeakPinsAreGentle, GentlePinsArePlain, BagReferencesArePinned, ElementsAreToldApart, PinsPartClasses, ImagesStayInClasses, ElementsAreNotMerged}
use Rattle.conformance.proofs.Standing.{some_other, one_is, inside_stands, beside_stands, together_beside, bags_held}

pub weak_pins_are_gentle : WeakPinsAreGentle
weak_pins_are_gentle s d en rules chosen is E y h = inl h

pub gentle_pins_are_plain : GentlePinsArePlain
gentle_pins_are_plain s d en rules chosen is E y (inl (inl h)) = inl h
gentle_pins_are_plain s d en rules chosen is E y (inl (inr h)) = inr (some_other (inside_stands s d en y) is h)
gentle_pins_are_plain s d en rules chosen is E y (inr h) = inr (some_other (beside_stands s d en E y) is h)

pub bag_references_are_pinned : BagReferencesArePinned
bag_references_are_pinned s d en rules chosen is pinned f i m x n =
    bags_held (λ y. pinned y ≡ true) chosen.in_sets x.value
    (λ y h. f y (inl (inr (inl (one_is (StandsInBag s d en chosen.in_sets y) i is m
    (one_is (λ (z : Slot). InBag chosen.in_sets y z.value) x i.slots n h))))))

pub elements_are_told_apart : ElementsAreToldApart
elements_are_told_apart s d en rules chosen is E R pinned rows gentle keeps within y z together related =
    by (cases_eq y z)
  where
    by : (y ≡ z) ⊎ (y ≡ z → ⊥) → y ≡ z
    by (inl same) = same
    by (inr differ) =
        let beside = together_beside s d en E y z (λ e. differ (sym e)) (within y z related) in
        let is_pinned = gentle y (inr (some_other beside is together)) in
        (keeps y z related).0.same_if_pinned (or_left (pinned y) (pinned z) is_pinned)

-- a relation that keeps, with the identity, keeps under fewer pins
module _ (rows : List Row) (few many : ℕ → Bool) (population : IsPopulation rows)
    (more : (y : ℕ) → IsTrue (few y) → IsTrue (many y)) where
  one : ℕ → ℕ → Bool
  one y z = is_some (row_at rows y) && (y == z)

  one_is_named : (y z : ℕ) → one y z ≡ true → IsName rows y × (y ≡ z)
  unfolding one
  one_is_named y z h =
      let parts = and_parts (is_some (row_at rows y)) (y == z) h in
      (held_name rows y parts.0, eqb-true y z parts.1)

  one_self : (y : ℕ) → IsName rows y → one y y ≡ true
  unfolding one
  one_self y n = and_from (is_some (row_at rows y)) (y == y) (name_held rows y n) (eq-eqb y y refl)

  more_either : (y z : ℕ) → (few y || few z) ≡ true → (many y || many z) ≡ true
  more_either y z h = elim (or_cases (few y) (few z) h) [
    | inl f ↦ or_left (many y) (many z) (more y f)
    | inr f ↦ or_right (many y) (many z) (more z f)
  ]

  module _ (R : ℕ → ℕ → Bool) (keeps : Keeps rows many R) where
    widened : ℕ → ℕ → Bool
    widened y z = R y z || one y z

    widened_old : (y z : ℕ) → R y z ≡ true → widened y z ≡ true
    unfolding widened
    widened_old y z h = or_left (R y z) (one y z) h

    widened_self : (y : ℕ) → IsName rows y → widened y y ≡ true
    unfolding widened
    widened_self y n = or_right (R y y) (one y y) (one_self y n)

    widened_cases : (y z : ℕ) → widened y z ≡ true → (R y z ≡ true) ⊎ (one y z ≡ true)
    unfolding widened
    widened_cases y z h = or_cases (R y z) (one y z) h

    fewer : (x z : ℕ) → AreAlike rows many x z → AreAlike rows few x z
    fewer x z a = record {
      left = a.left;
      right = a.right;
      left_is = a.left_is;
      right_is = a.right_is;
      same_kind = a.same_kind;
      same_if_pinned = λ h. a.same_if_pinned (more_either x z h);
    }

    under_few : (y z : ℕ) → IsName rows y → under many R y z ≡ true → under few widened y z ≡ true
    under_few y z n h = by (many y || many z) (few y || few z) refl refl h
      where
        by : (a b : Bool) → (many y || many z) ≡ a → (few y || few z) ≡ b → cond a (y == z) (R y z) ≡ true
            → cond b (y == z) (widened y z) ≡ true
        by true true p q k = k
        by true false p q k = subst (λ w. widened y w ≡ true) (eqb-true y z k) (widened_self y n)
        by false true p q k = absurd (both_ways (many y || many z) p (more_either y z q))
        by false false p q k = widened_old y z k

    agree_few : (x z : ℕ) → AgreeUnder rows many R x z → AgreeUnder rows few widened x z
    agree_few x z a = record {
      left = a.left;
      right = a.right;
      left_is = a.left_is;
      right_is = a.right_is;
      values_agree = agree_each_trans one (under many R) (under few widened) step a.left.values a.left.values
          a.right.values (agree_each_refl one a.left.values (each_weaker_of (IsName rows) (λ y. one y y ≡ true)
          one_self a.left.values (population.closed x a.left a.left_is))) a.values_agree;
    }
      where
        step : (v y w : ℕ) → one v y ≡ true → under many R y w ≡ true → under few widened v w ≡ true
        step v y w h k =
            let same = one_is_named v y h in
            subst (λ u. under few widened u w ≡ true) (sym same.1)
            (under_few y w (subst (IsName rows) same.1 same.0) k)

    widened_keeps : Keeps rows few widened
    widened_keeps x z h = by (widened_cases x z h)
      where
        by : (R x z ≡ true) ⊎ (one x z ≡ true) → AreAlike rows few x z × AgreeUnder rows few widened x z
        by (inl r) = let pair = keeps x z r in (fewer x z pair.0, agree_few x z pair.1)
        by (inr o) =
            let same = one_is_named x z o in
            subst (λ w. AreAlike rows few x w × AgreeUnder rows few widened x w) same.1
            (alike_refl rows few x same.0, agree_under_refl rows few widened population widened_self x same.0)

  -- so does value equality
  less_equal : (y z : ℕ) → ValueEqual rows many y z → ValueEqual rows few y z
  less_equal y z h = (widened h.0 h.2, widened_old h.0 h.2 y z h.1, widened_keeps h.0 h.2)

pub pins_part_classes : PinsPartClasses
pins_part_classes rows few many E F population more few_is many_is y z related =
    (few_is y z).1 (less_equal rows few many population more y z ((many_is y z).0 related))

pub images_stay_in_classes : ImagesStayInClasses
images_stay_in_classes P Q few many E h population bags more image few_is y z n m e =
    (few_is y z).1 (less_equal P few many population more y z (
      kernel P h,
      kernel_from P h y z (record { left = n; right = m; image = e }),
      (kernels_are_congruences P Q many h population bags image).keeps,
    ))

pub elements_are_not_merged : ElementsAreNotMerged
elements_are_not_merged s d en rules chosen is rows weak gentle E F population weakly gently weak_is gentle_is y z
    together related =
    elements_are_told_apart s d en rules chosen is E F gentle rows gently
    (λ x w h. (value_equality_is_congruence rows gentle F population gentle_is).keeps x w h)
    (pins_part_classes rows weak gentle E F population
    (λ x h. gently x (weak_pins_are_gentle s d en rules chosen is E x (weakly x h))) weak_is gentle_is)
    y z together related
