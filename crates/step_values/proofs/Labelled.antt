-- Values with the numbers of labels in place of references agree exactly where the values agree by these labels.
use Rattle.std.proofs.Common.{◌≡◌, ◌≢◌, ◌+◌, ℕ, suc, Bool, true, false, Result, Ok, Err, refl, sym, ◌∙◌, ap, eqb-true, eq-eqb, arith}
use Rattle.std.specs.Prelude.{◌==◌, ◌&&◌, ◌↔◌, IfOk}
use Rattle.std.specs.Str.{bytes_eq}
use Rattle.step_values.specs.declared.labels.Label.{Label}
use Rattle.step_values.specs.declared.labels.Label.TheVariants.{Name, Class}
use Rattle.step_values.specs.Values.{Value, leaf, reference, typed, sequence, bag, Values, none, more, is_crowd, AgreeEach}
use Rattle.step_values.specs.References.{renamed, renamed_each, EachReference, EachReferenceOf}
use Rattle.step_values.specs.Labels.{Labelling, renaming, label_test, one_label, renamed_in_bags, each_renamed_in_bags, AgreeBy, AgreeEachBy}
use Rattle.step_values.specs.AgreementTests.{value_count, same_test, same_each_test}
use Rattle.step_values.specs.LabelledValues.{code, placed, within, labelled, each_labelled, same_by, same_each_by}
use Rattle.std.proofs.lemmas.Bool.{and_parts, and_from}
use Rattle.step_values.proofs.Crowds.{placed_within, two_sizes, size_renamed}
use Rattle.step_values.proofs.References.{each_in_bag}
use Rattle.step_values.proofs.Walks.{bags_of_two_sizes}
use Rattle.step_values.proofs.Deciding.{same_bool, test_sound, test_complete, each_sound, each_complete, by_sound, by_complete, each_by_sound, each_by_complete}
use Rattle.step_values.proofs.Renaming.{agree_renamed, reflected, each_renamed_itself}

-- labels with one number are one
even_odd : (y c : ℕ) → (y + y == suc (c + c)) ≡ false
even_odd y c = go (y + y == suc (c + c)) refl
  where
    go : (b : Bool) → (y + y == suc (c + c)) ≡ b → (y + y == suc (c + c)) ≡ false
    go true e = let same = eqb-true (y + y) (suc (c + c)) e in absurd (omega (arith, same))
    go false e = e

odd_even : (c y : ℕ) → (suc (c + c) == y + y) ≡ false
odd_even c y = go (suc (c + c) == y + y) refl
  where
    go : (b : Bool) → (suc (c + c) == y + y) ≡ b → (suc (c + c) == y + y) ≡ false
    go true e = let same = eqb-true (suc (c + c)) (y + y) e in absurd (omega (arith, same))
    go false e = e

twice_eq : (y z : ℕ) → y + y ≡ z + z → y ≡ z
twice_eq y z e = omega (arith, e)

evens : (y z : ℕ) → (y + y == z + z) ≡ (y == z)
evens y z =
    same_bool _ _ (λ e. eq-eqb y z (twice_eq y z (eqb-true (y + y) (z + z) e)))
    (λ e. let same = eqb-true y z e in eq-eqb (y + y) (z + z) (ap (λ n. n + n) same))

odds : (c d : ℕ) → (suc (c + c) == suc (d + d)) ≡ (c == d)
odds c d =
    same_bool _ _ (λ e. eq-eqb c d (once_eq (eqb-true (suc (c + c)) (suc (d + d)) e)))
    (λ e. let same = eqb-true c d e in eq-eqb (suc (c + c)) (suc (d + d)) (ap (λ n. suc (n + n)) same))
  where
    once_eq : suc (c + c) ≡ suc (d + d) → c ≡ d
    once_eq e = omega (arith, e)

pub one_code : (a b : Label) → (code a == code b) ≡ label_test a b
one_code (Name y) (Name z) = evens y z
one_code (Name y) (Class c) = even_odd y c
one_code (Class c) (Name y) = odd_even c y
one_code (Class c) (Class d) = odds c d

-- in bags

abbrev twice : ℕ → ℕ
twice y = y + y

mutual
  within_twice : (f : Labelling) (v : Value) → labelled (within f) v ≡ renamed twice (renamed f.inside v)
  within_twice f (leaf a) = refl
  within_twice f (reference y) = refl
  within_twice f (typed n v) = ap (typed n) (within_twice f v)
  within_twice f (sequence vs) = ap sequence (each_within_twice f vs)
  within_twice f (bag vs) = ap bag (ap (λ g. each_labelled g vs) (placed_within (is_crowd vs) f)
      ∙ each_within_twice f vs)

  each_within_twice : (f : Labelling) (vs : Values) → each_labelled (within f) vs ≡ renamed_each twice
      (renamed_each f.inside vs)
  each_within_twice f none = refl
  each_within_twice f (more v vs) = let first = within_twice f v in let rest = each_within_twice f vs in cc

mutual
  each_any : (v : Value) → EachReference (λ _. Unit {0}) v
  each_any (leaf a) = tt
  each_any (reference y) = tt
  each_any (typed n v) = each_any v
  each_any (sequence vs) = each_any_of vs
  each_any (bag vs) = each_any_of vs

  each_any_of : (vs : Values) → EachReferenceOf (λ _. Unit {0}) vs
  each_any_of none = tt
  each_any_of (more v vs) = (each_any v, each_any_of vs)

twice_same : (vs ws : Values) → same_test (bag (renamed_each twice vs)) (bag (renamed_each twice ws)) ≡ same_test
    (bag vs) (bag ws)
twice_same vs ws =
    same_bool _ _
    (λ e. test_complete (bag vs) (bag ws) (reflected twice (λ _. Unit {0}) (λ _. Unit {0}) (λ y z _ _ same. twice_eq y z
    same) (◌==◌) (◌==◌) (λ _. Unit {0}) (λ y z _ _ same. sym (evens y z) ∙ same) (bag vs) (bag ws) (each_any_of vs)
    (each_in_bag (λ _. Unit {0}) (bag vs) (each_any_of vs)) (each_any_of ws) (test_sound (renamed twice (bag vs)) (renamed twice (bag ws)) e)))
    (λ e. test_complete (renamed twice (bag vs)) (renamed twice (bag ws)) (agree_renamed twice (◌==◌) (λ y z same.
    ap twice (eqb-true y z same)) (bag vs) (bag ws) (test_sound (bag vs) (bag ws) e)))

crowds_labelled : (f g : Labelling) (vs ws : Values) → same_test (bag (each_labelled (within f) vs))
    (bag (each_labelled (within g) ws)) ≡ same_test (bag (renamed_each f.inside vs)) (bag (renamed_each g.inside ws))
crowds_labelled f g vs ws =
    ap (λ us. same_test (bag us) (bag (each_labelled (within g) ws))) (each_within_twice f vs)
    ∙ ap (λ us. same_test (bag (renamed_each twice (renamed_each f.inside vs))) (bag us)) (each_within_twice g ws)
    ∙ twice_same (renamed_each f.inside vs) (renamed_each g.inside ws)

-- bags of no more than one value are compared place by place
small_test : (vs ws : Values) → is_crowd vs ≡ false → same_test (bag vs) (bag ws) ≡ same_each_test vs ws
small_test none ws e = same_bool _ _ (λ t. each_complete none ws (test_sound (bag none) (bag ws) t))
    (λ t. test_complete (bag none) (bag ws) (each_sound none ws t))
small_test (more v none) ws e = same_bool _ _ (λ t. each_complete (more v none) ws (test_sound (bag (more v none))
    (bag ws) t)) (λ t. test_complete (bag (more v none)) (bag ws) (each_sound (more v none) ws t))
small_test (more v (more u vs)) ws e = absurd (cc)

size_labelled : (f : Labelling) (vs : Values) → value_count (each_labelled f vs) ≡ value_count vs
size_labelled f none = refl
size_labelled f (more v vs) = ap suc (size_labelled f vs)

-- bags of two sizes
labelled_apart : (f g : Labelling) (vs ws : Values) → value_count vs ≢ value_count ws → same_test (labelled f (bag vs))
    (labelled g (bag ws)) ≡ same_by f g (bag vs) (bag ws)
labelled_apart f g vs ws n =
    two_sizes (each_labelled (placed (is_crowd vs) f) vs) (each_labelled (placed (is_crowd ws) g) ws)
    (λ e. n (sym (size_labelled (placed (is_crowd vs) f) vs) ∙ e ∙ size_labelled (placed (is_crowd ws) g) ws))
    ∙ sym (bags_of_two_sizes f g vs ws n)

renamed_apart : (h k : ℕ → ℕ) (vs ws : Values) → value_count vs ≢ value_count ws → same_by (renaming h) (renaming k) (bag vs) (bag ws)
    ≡ same_test (bag (renamed_each h vs)) (bag (renamed_each k ws))
renamed_apart h k vs ws n =
    bags_of_two_sizes (renaming h) (renaming k) vs ws n ∙ sym (two_sizes (renamed_each h vs) (renamed_each k ws)
    (λ e. n (sym (size_renamed h vs) ∙ e ∙ size_renamed k ws)))

-- outside

mutual
  pub same_labelled : (f g : Labelling) (v w : Value) → same_test (labelled f v) (labelled g w) ≡ same_by f g v w
  same_labelled f g (leaf a) (leaf b) = refl
  same_labelled f g (reference y) (reference z) = one_code (f.outside y) (g.outside z)
  same_labelled f g (typed n v) (typed m w) = ap (λ b. bytes_eq n m && b) (same_labelled f g v w)
  same_labelled f g (sequence vs) (sequence ws) = same_each_labelled f g vs ws
  same_labelled f g (bag none) (bag none) = refl
  same_labelled f g (bag none) (bag (more w ws)) = labelled_apart f g none (more w ws) (λ e. omega (arith, e))
  same_labelled f g (bag (more v vs)) (bag none) = labelled_apart f g (more v vs) none (λ e. omega (arith, e))
  same_labelled f g (bag (more v none)) (bag (more w none)) =
      small_test (more (labelled f v) none) (more (labelled g w) none) refl ∙ ap (λ b. b && true) (same_labelled f g v
      w)
  same_labelled f g (bag (more v none)) (bag (more w (more x ws))) =
      labelled_apart f g (more v none) (more w (more x ws)) (λ e. omega (arith, e))
  same_labelled f g (bag (more v (more u vs))) (bag (more w none)) =
      labelled_apart f g (more v (more u vs)) (more w none) (λ e. omega (arith, e))
  same_labelled f g (bag (more v (more u vs))) (bag (more w (more x ws))) =
      crowds_labelled f g (more v (more u vs)) (more w (more x ws))
  same_labelled f g _ _ = refl

  pub same_each_labelled : (f g : Labelling) (vs ws : Values) → same_each_test (each_labelled f vs) (each_labelled g ws)
      ≡ same_each_by f g vs ws
  same_each_labelled f g none none = refl
  same_each_labelled f g (more v vs) (more w ws) =
      ap (λ b. b && same_each_test (each_labelled f vs) (each_labelled g ws)) (same_labelled f g v w)
      ∙ ap (λ b. same_by f g v w && b) (same_each_labelled f g vs ws)
  same_each_labelled f g _ _ = refl

-- the tests decide agreement

pub same_decides : (f g : Labelling) (v w : Value) → (same_by f g v w ≡ true) ↔ AgreeBy f g v w
same_decides f g v w = (
  by_sound (one_label f g) (renamed_in_bags f.inside v) (renamed_in_bags g.inside w),
  by_complete (one_label f g) (renamed_in_bags f.inside v) (renamed_in_bags g.inside w),
)

pub same_each_decides : (f g : Labelling) (vs ws : Values) → (same_each_by f g vs ws ≡ true) ↔ AgreeEachBy f g vs ws
same_each_decides f g vs ws = (
  each_by_sound (one_label f g) (each_renamed_in_bags f.inside vs) (each_renamed_in_bags g.inside ws),
  each_by_complete (one_label f g) (each_renamed_in_bags f.inside vs) (each_renamed_in_bags g.inside ws),
)

-- a result that equals such a test decides agreement
pub decided : {P : Type 0} (b test : Bool) → (test ≡ true) ↔ P → b ≡ test → (b ≡ true) ↔ P
decided b test d e = (λ t. d.0 (sym e ∙ t), λ p. e ∙ d.1 p)

pub answer_decided : {E P : Type 0} (test : Bool) → (test ≡ true) ↔ P → (r : Result Bool E) → IfOk r (λ b. b ≡ test)
    → IfOk r (λ b. (b ≡ true) ↔ P)
answer_decided test d (Ok b) e = decided b test d e
answer_decided test d (Err e) f = f

-- Where names stand for the references of both sides, values agree exactly where they do when these names are put in
-- place of the references.

mutual
  same_renamed : (h k : ℕ → ℕ) (v w : Value) → same_by (renaming h) (renaming k) v w ≡ same_test (renamed h v)
      (renamed k w)
  same_renamed h k (leaf a) (leaf b) = refl
  same_renamed h k (reference y) (reference z) = refl
  same_renamed h k (typed n v) (typed m w) = ap (λ b. bytes_eq n m && b) (same_renamed h k v w)
  same_renamed h k (sequence vs) (sequence ws) = same_each_renamed h k vs ws
  same_renamed h k (bag none) (bag none) = refl
  same_renamed h k (bag none) (bag (more w ws)) = renamed_apart h k none (more w ws) (λ e. omega (arith, e))
  same_renamed h k (bag (more v vs)) (bag none) = renamed_apart h k (more v vs) none (λ e. omega (arith, e))
  same_renamed h k (bag (more v none)) (bag (more w none)) =
      ap (λ b. b && true) (same_renamed h k v w) ∙ sym (small_test (more (renamed h v) none) (more (renamed k w) none)
      refl)
  same_renamed h k (bag (more v none)) (bag (more w (more x ws))) =
      renamed_apart h k (more v none) (more w (more x ws)) (λ e. omega (arith, e))
  same_renamed h k (bag (more v (more u vs))) (bag (more w none)) =
      renamed_apart h k (more v (more u vs)) (more w none) (λ e. omega (arith, e))
  same_renamed h k (bag (more v (more u vs))) (bag (more w (more x ws))) = refl
  same_renamed h k _ _ = refl

  pub same_each_renamed : (h k : ℕ → ℕ) (vs ws : Values) → same_each_by (renaming h) (renaming k) vs ws
      ≡ same_each_test (renamed_each h vs) (renamed_each k ws)
  same_each_renamed h k none none = refl
  same_each_renamed h k (more v vs) (more w ws) =
      ap (λ b. b && same_each_by (renaming h) (renaming k) vs ws) (same_renamed h k v w)
      ∙ ap (λ b. same_test (renamed h v) (renamed k w) && b) (same_each_renamed h k vs ws)
  same_each_renamed h k _ _ = refl

one_side : (h : ℕ → ℕ) (vs ws : Values) → same_each_by (renaming h) (renaming (λ y. y)) vs ws
    ≡ same_each_test (renamed_each h vs) ws
one_side h vs ws = same_each_renamed h (λ y. y) vs ws
    ∙ ap (same_each_test (renamed_each h vs)) (each_renamed_itself (λ y. y) (λ _. refl) ws)

-- agreement with names for the references of one side only
pub agree_each_led_once : (h : ℕ → ℕ) (vs ws : Values) → AgreeEachBy (renaming h) (renaming (λ y. y)) vs ws
    → AgreeEach (◌==◌) (renamed_each h vs) ws
agree_each_led_once h vs ws a =
    each_sound (renamed_each h vs) ws (sym (one_side h vs ws) ∙ (same_each_decides (renaming h) (renaming (λ y. y)) vs
    ws).1 a)

pub led_once_agree_each : (h : ℕ → ℕ) (vs ws : Values) → AgreeEach (◌==◌) (renamed_each h vs) ws
    → AgreeEachBy (renaming h) (renaming (λ y. y)) vs ws
led_once_agree_each h vs ws a =
    (same_each_decides (renaming h) (renaming (λ y. y)) vs ws).0 (one_side h vs ws
    ∙ each_complete (renamed_each h vs) ws a)
