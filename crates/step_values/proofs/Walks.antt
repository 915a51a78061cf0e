-- Steps over lists of values.
use Rattle.std.proofs.Common.{◌≡◌, ◌≢◌, ℕ, zero, suc, ◌+◌, Bool, true, false, cond, Some, List, [], ◌∷◌, refl, sym, ◌∙◌, ap, eqb-true, add-one, ◌≤◌, ◌++◌, subst, append_assoc, append-nil, arith}
use Rattle.std.specs.Prelude.{◌==◌, ◌&&◌}
use Rattle.step_values.specs.declared.normal.Normal.{Normal}
use Rattle.step_values.specs.References.{renamed_each}
use Rattle.step_values.specs.Values.{Value, bag, Values, none, more, is_crowd}
use Rattle.step_values.specs.Labels.{Labelling, each_renamed_in_bags}
use Rattle.step_values.specs.steps.Slots.{nth}
use Rattle.step_values.specs.AgreementTests.{counts_test, value_count}
use Rattle.step_values.specs.NormalForms.{IsNormal, AreNormal}
use Rattle.step_values.specs.LabelledValues.{labelled, each_labelled, same_by, same_each_by}
use Rattle.step_values.proofs.Crowds.{size_renamed, two_sizes}

-- what is left at a place
abbrev pub after : ℕ → Values → Values
after zero vs = vs
after (suc i) none = none
after (suc i) (more v vs) = after i vs

after_suc : (vs : Values) (i : ℕ) (v : Value) → nth vs i ≡ Some v → after i vs ≡ more v (after (suc i) vs)
after_suc none i v e = absurd (cc)
after_suc (more u vs) zero v e = let same : u ≡ v = cc in ap (λ x. more x vs) same
after_suc (more u vs) (suc i) v e = after_suc vs i v e

-- what is left at i is its value and what is left after it
pub after_at : (vs : Values) (i : ℕ) (v : Value) → nth vs i ≡ Some v → after i vs ≡ more v (after (i + 1) vs)
after_at vs i v e = after_suc vs i v e ∙ ap (λ n. more v (after n vs)) (sym (add-one i))

pub after_all : (vs : Values) (i : ℕ) → value_count vs ≤ i → after i vs ≡ none
after_all none zero h = refl
after_all none (suc i) h = refl
after_all (more v vs) zero h = absurd (omega (arith, h))
after_all (more v vs) (suc i) h = after_all vs i (omega (arith, h))

and_false : (b : Bool) → (b && false) ≡ false
and_false true = refl
and_false false = refl

pub lists_of_two_sizes : (f g : Labelling) (vs ws : Values) → value_count vs ≢ value_count ws → same_each_by f g vs ws ≡ false
lists_of_two_sizes f g none none n = absurd (n refl)
lists_of_two_sizes f g none (more w ws) n = refl
lists_of_two_sizes f g (more v vs) none n = refl
lists_of_two_sizes f g (more v vs) (more w ws) n = ap (λ b. same_by f g v w && b)
    (lists_of_two_sizes f g vs ws (λ e. n (ap suc e))) ∙ and_false (same_by f g v w)

-- what stands for the values of a bag are as many
size_in_bags : (h : ℕ → ℕ) (vs : Values) → value_count (each_renamed_in_bags h vs) ≡ value_count vs
size_in_bags h none = refl
size_in_bags h (more v vs) = ap suc (size_in_bags h vs)

size_chosen : (h : ℕ → ℕ) (b : Bool) (vs : Values) → value_count (cond b (renamed_each h vs) (each_renamed_in_bags h vs))
    ≡ value_count vs
size_chosen h true vs = size_renamed h vs
size_chosen h false vs = size_in_bags h vs

pub bags_of_two_sizes : (f g : Labelling) (vs ws : Values) → value_count vs ≢ value_count ws → same_by f g (bag vs) (bag ws) ≡ false
bags_of_two_sizes f g none none n = absurd (n refl)
bags_of_two_sizes f g none (more w none) n = refl
bags_of_two_sizes f g none (more w (more x ws)) n = refl
bags_of_two_sizes f g (more v none) none n = refl
bags_of_two_sizes f g (more v none) (more w none) n = absurd (n refl)
bags_of_two_sizes f g (more v none) (more w (more x ws)) n = and_false _
bags_of_two_sizes f g (more v (more u vs)) ws n =
    let us : Values = more v (more u vs) in
    two_sizes (renamed_each f.inside us) (cond (is_crowd ws) (renamed_each g.inside ws) (each_renamed_in_bags g.inside
    ws)) (λ e. n (sym (size_renamed f.inside us) ∙ e ∙ size_chosen g.inside (is_crowd ws) ws))

-- Two lists, place by place.

module _ (f g : Labelling) (vs ws : Values) where
  pub each_at : (i : ℕ) (v w : Value) → nth vs i ≡ Some v → nth ws i ≡ Some w
      → same_each_by f g (after i vs) (after i ws)
      ≡ (same_by f g v w && same_each_by f g (after (i + 1) vs) (after (i + 1) ws))
  each_at i v w e k =
      ap (λ us. same_each_by f g us (after i ws)) (after_at vs i v e)
      ∙ ap (same_each_by f g (more v (after (i + 1) vs))) (after_at ws i w k)

  pub each_stops : (i : ℕ) (v w : Value) → nth vs i ≡ Some v → nth ws i ≡ Some w → same_by f g v w ≡ false
      → same_each_by f g (after i vs) (after i ws) ≡ false
  each_stops i v w e k h = each_at i v w e k
      ∙ ap (λ b. b && same_each_by f g (after (i + 1) vs) (after (i + 1) ws)) h

  pub each_goes_on : (i : ℕ) (v w : Value) → nth vs i ≡ Some v → nth ws i ≡ Some w → same_by f g v w ≡ true
      → same_each_by f g (after i vs) (after i ws) ≡ same_each_by f g (after (i + 1) vs) (after (i + 1) ws)
  each_goes_on i v w e k h = each_at i v w e k
      ∙ ap (λ b. b && same_each_by f g (after (i + 1) vs) (after (i + 1) ws)) h

  pub each_ends : (i : ℕ) → value_count vs ≡ value_count ws → value_count vs ≤ i → same_each_by f g (after i vs) (after i ws) ≡ true
  each_ends i e l =
      let m : value_count ws ≤ i = omega (arith, e, l) in
      ap (λ us. same_each_by f g us (after i ws)) (after_all vs i l)
      ∙ ap (same_each_by f g none) (after_all ws i m)

-- Normal forms, collected value by value.

-- with normal forms of what is left they are those of all
abbrev pub Collects : Labelling → Values → ℕ → List Normal → Type 0
Collects f vs i ms = (ns : List Normal) → AreNormal (each_labelled f (after i vs)) ns
    → AreNormal (each_labelled f vs) (ms ++ ns)

pub collected_more : (f : Labelling) (vs : Values) (i : ℕ) (v : Value) (n : Normal) (ms : List Normal)
    → nth vs i ≡ Some v → IsNormal (labelled f v) n → Collects f vs i ms → Collects f vs (i + 1) (ms ++ n ∷ [])
collected_more f vs i v n ms e form c ns p =
    let all : AreNormal (each_labelled f vs) (ms ++ n ∷ ns) =
    c (n ∷ ns) (subst (λ us. AreNormal (each_labelled f us) (n ∷ ns)) (sym (after_at vs i v e)) (form, p)) in
    subst (AreNormal (each_labelled f vs)) (sym (append_assoc ms (n ∷ []) ns)) all

pub collected_all : (f : Labelling) (vs : Values) (i : ℕ) (ms : List Normal) → value_count vs ≤ i → Collects f vs i ms
    → AreNormal (each_labelled f vs) ms
collected_all f vs i ms h c =
    subst (AreNormal (each_labelled f vs)) (append-nil ms)
    (c [] (subst (λ us. AreNormal (each_labelled f us) []) (sym (after_all vs i h)) tt))
