-- Agreement by labels of classes is agreement under a partition, on references that name instances.
use Rattle.std.proofs.Common.{◌≡◌, ℕ, Bool, true, false, cond, List, refl, sym, ap, ◌∙◌, subst, eqb-true}
use Rattle.std.specs.Prelude.{◌==◌, ◌||◌}
use Rattle.std.proofs.lemmas.Bool.{false≢true}
use Rattle.step_values.specs.declared.labels.Label.TheVariants.{Name, Class}
use Rattle.step_values.specs.Labels.{label_test, one_label, renamed_in_bags, each_renamed_in_bags, AgreeEachBy}
use Rattle.step_values.specs.References.{EachReferenceOf, renamed_each}
use Rattle.step_values.specs.Values.{Value, leaf, reference, typed, sequence, bag, Values, none, more, is_crowd, AgreeEach}
use Rattle.step_values.proofs.Agreement.{agree_each_on}
use Rattle.step_values.proofs.Renaming.{each_renamed_itself}
use Rattle.value_equality.specs.ValueEquality.{under}
use Rattle.value_equality.specs.Rows.{Row, IsName}
use Rattle.value_equality.proofs.Lookup.{name_held}
use Rattle.certificate_checks.specs.steps.Places.{by_place}
use Rattle.certificate_checks.specs.steps.ComputedStability.{label_by, labels_by}

either_is : (b : Bool) (us vs ws : Values) → us ≡ ws → vs ≡ ws → cond b us vs ≡ ws
either_is true us vs ws e f = e
either_is false us vs ws e f = f

mutual
  in_bags_itself : (v : Value) → renamed_in_bags (λ y. y) v ≡ v
  in_bags_itself (leaf a) = refl
  in_bags_itself (reference y) = refl
  in_bags_itself (typed n v) = ap (typed n) (in_bags_itself v)
  in_bags_itself (sequence vs) = ap sequence (each_in_bags_itself vs)
  in_bags_itself (bag vs) =
      ap bag (either_is (is_crowd vs) (renamed_each (λ y. y) vs) (each_renamed_in_bags (λ y. y) vs) vs
      (each_renamed_itself (λ y. y) (λ y. refl) vs) (each_in_bags_itself vs))

  each_in_bags_itself : (vs : Values) → each_renamed_in_bags (λ y. y) vs ≡ vs
  each_in_bags_itself none = refl
  each_in_bags_itself (more v vs) = λ i. more (in_bags_itself v i) (each_in_bags_itself vs i)

module _ (P : List Row) (pinned : ℕ → Bool) (cs : List ℕ) (E : ℕ → ℕ → Bool)
    (decides : (y z : ℕ) → IsName P y → IsName P z → E y z ≡ (by_place P cs y == by_place P cs z)) where
  same_label : (y z : ℕ) → IsName P y → IsName P z → one_label (labels_by pinned P cs) (labels_by pinned P cs) y z
      ≡ under pinned E y z
  same_label y z n m = by (pinned y) (pinned z) refl refl
    where
      label_of : (x : ℕ) (b : Bool) → IsName P x → pinned x ≡ b → label_by pinned P cs x ≡ cond b (Name x) (Class
          (by_place P cs x))
      label_of x b k e = (λ i. cond (e i) (Name x) (cond (name_held P x k i) (Class (by_place P cs x)) (Name x)))

      apart : (pinned y ≡ true → pinned z ≡ true → ⊥) → (pinned y ≡ false → pinned z ≡ false → ⊥) → (b : Bool)
          → (y == z) ≡ b → false ≡ b
      apart f g true e = absurd (split (pinned y) refl)
        where
          split : (b : Bool) → pinned y ≡ b → ⊥
          split true h = f h (ap pinned (sym (eqb-true y z e)) ∙ h)
          split false h = g h (ap pinned (sym (eqb-true y z e)) ∙ h)
      apart f g false e = refl

      by : (b c : Bool) → pinned y ≡ b → pinned z ≡ c → label_test (label_by pinned P cs y) (label_by pinned P cs z)
          ≡ under pinned E y z
      by true true p q = (λ i. label_test (label_of y true n p i) (label_of z true m q i))
          ∙ sym (λ i. cond (p i || q i) (y == z) (E y z))
      by true false p q = (λ i. label_test (label_of y true n p i) (label_of z false m q i))
          ∙ apart (λ u v. false≢true (sym q ∙ v)) (λ u v. false≢true (sym u ∙ p)) (y == z) refl
          ∙ sym (λ i. cond (p i || q i) (y == z) (E y z))
      by false true p q = (λ i. label_test (label_of y false n p i) (label_of z true m q i))
          ∙ apart (λ u v. false≢true (sym p ∙ u)) (λ u v. false≢true (sym v ∙ q)) (y == z) refl
          ∙ sym (λ i. cond (p i || q i) (y == z) (E y z))
      by false false p q = (λ i. label_test (label_of y false n p i) (label_of z false m q i))
          ∙ sym (decides y z n m) ∙ sym (λ i. cond (p i || q i) (y == z) (E y z))

  pub by_labels : (vs ws : Values) → EachReferenceOf (IsName P) vs → EachReferenceOf (IsName P) ws
      → AgreeEach (under pinned E) vs ws → AgreeEachBy (labels_by pinned P cs) (labels_by pinned P cs) vs ws
  by_labels vs ws a b h =
      let l = one_label (labels_by pinned P cs) (labels_by pinned P cs) in
      let k = agree_each_on (IsName P) (under pinned E) l (λ y z n m t. same_label y z n m ∙ t) vs ws a b h in
      subst (λ x. AgreeEach l x (each_renamed_in_bags (λ y. y) ws)) (sym (each_in_bags_itself vs))
      (subst (AgreeEach l vs) (sym (each_in_bags_itself ws)) k)

  pub from_labels : (vs ws : Values) → EachReferenceOf (IsName P) vs → EachReferenceOf (IsName P) ws
      → AgreeEachBy (labels_by pinned P cs) (labels_by pinned P cs) vs ws → AgreeEach (under pinned E) vs ws
  from_labels vs ws a b h =
      let l = one_label (labels_by pinned P cs) (labels_by pinned P cs) in
      let k : AgreeEach l vs ws = subst (AgreeEach l vs) (each_in_bags_itself ws)
      (subst (λ x. AgreeEach l x (each_renamed_in_bags (λ y. y) ws)) (each_in_bags_itself vs) h) in
      agree_each_on (IsName P) l (under pinned E) (λ y z n m t. sym (same_label y z n m) ∙ t) vs ws a b k
