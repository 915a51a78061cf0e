-- Shapes are equal exactly where the values have one.
use Rattle.std.proofs.Common.{◌≡◌, ℕ, Bool, true, false, cond, List, refl, sym, ap, ◌∙◌, eq-eqb}
use Rattle.std.specs.Prelude.{◌==◌, ◌&&◌}
use Rattle.std.specs.Cmp.Lexicographic.{pointwise}
use Rattle.std.specs.Hash.{items_Alike}
use Rattle.std.specs.declared.hash.FoldHasher.{FoldHasher}
use Rattle.step_values.specs.contracts.normal.NormalHash.TheImpl.Laws as hashes
use Rattle.step_values.specs.declared.normal.Normal.{Normal}
use Rattle.step_values.specs.AgreementTests.{agree_each_by}
use Rattle.step_values.specs.NormalForms.{normal_eq}
use Rattle.step_values.specs.LabelledValues.{each_labelled}
use Rattle.step_values.specs.Labels.{one_label, renamed_in_bags, each_renamed_in_bags}
use Rattle.step_values.specs.Values.{Value, leaf, reference, typed, sequence, bag, Values, none, more, is_crowd}
use Rattle.step_values.specs.References.{renamed_each}
use Rattle.step_values.proofs.Labelled.{same_each_labelled}
use Rattle.step_values.proofs.NormalForms.{lists_same}
use Rattle.step_values.proofs.Renaming.{each_renamed_itself}
use Rattle.row_signatures.specs.declared.shapes.Shape.{Shape}
use Rattle.row_signatures.specs.declared.shapes.Shape.TheVariants.{Flat, Forms}
use Rattle.row_signatures.specs.steps.ComputedFlat.{IsHash, alike_each, bagless_each, hash_told, shape_test}
use Rattle.row_signatures.specs.steps.ComputedLabelling.{of_one_class}
use Rattle.row_signatures.specs.steps.ComputedShapes.{IsShapeOf, forms_hash, same_shape}
use Rattle.row_signatures.specs.steps.ShapeLaws.{test_back, test_decides}
use Rattle.row_signatures.proofs.Alike.{alike_itself, same_bagless, same_hash}

either_is : (b : Bool) (us vs ws : Values) → us ≡ ws → vs ≡ ws → cond b us vs ≡ ws
either_is true us vs ws e f = e
either_is false us vs ws e f = f

-- references in bags stand for themselves
mutual
  in_bags_itself : (v : Value) → renamed_in_bags (λ y. y) v ≡ v
  in_bags_itself (leaf a) = refl
  in_bags_itself (reference y) = refl
  in_bags_itself (typed n v) = ap (typed n) (in_bags_itself v)
  in_bags_itself (sequence vs) = ap sequence (each_in_bags_itself vs)
  in_bags_itself (bag vs) =
      ap bag (either_is (is_crowd vs) (renamed_each (λ y. y) vs) (each_renamed_in_bags (λ y. y) vs) vs
      (each_renamed_itself (λ y. y) (λ y. refl) vs) (each_in_bags_itself vs))

  each_in_bags_itself : (vs : Values) → each_renamed_in_bags (λ y. y) vs ≡ vs
  each_in_bags_itself none = refl
  each_in_bags_itself (more v vs) = λ i. more (in_bags_itself v i) (each_in_bags_itself vs i)

-- values of which in one alone a bag stands have two shapes
two_shapes : (vs ws : Values) → bagless_each vs ≡ true → bagless_each ws ≡ false → shape_test vs ws ≡ false
two_shapes vs ws p q = by (shape_test vs ws) refl
  where
    by : (b : Bool) → shape_test vs ws ≡ b → shape_test vs ws ≡ false
    by true e = let same = same_bagless vs ws ((test_decides vs ws).0 e) in absurd (cc)
    by false e = e

-- a number that is one where the test passes needs no test
hash_first : (h k : ℕ) (b : Bool) → (b ≡ true → h ≡ k) → ((h == k) && b) ≡ b
hash_first h k true same = ap (λ a. a && true) (eq-eqb h k (same refl))
hash_first h k false same = and_false (h == k)
  where
    and_false : (b : Bool) → (b && false) ≡ false
    and_false true = refl
    and_false false = refl

hashed_alike : (start : FoldHasher) (vs ws : Values) (h k : ℕ) → IsHash start vs h → IsHash start ws k
    → ((h == k) && shape_test vs ws) ≡ shape_test vs ws
hashed_alike start vs ws h k p q =
    hash_first h k (shape_test vs ws) (λ e. same_hash start vs ws h k ((test_decides vs ws).0 e) p q)

hashed_forms : (start : FoldHasher) (ms ns : List Normal) (h k : ℕ) → h ≡ forms_hash start ms
    → k ≡ forms_hash start ns → ((h == k) && pointwise normal_eq ms ns) ≡ pointwise normal_eq ms ns
hashed_forms start ms ns h k p q =
    hash_first h k (pointwise normal_eq ms ns) (λ e.
    p ∙ ap (hash_told start)
    ((items_Alike (record { fed = hashes.respects_eq-law })).fed ms ns e) ∙ sym q)

pub shapes_decide : (start : FoldHasher) (vs ws : Values) (s t : Shape) → IsShapeOf start vs s → IsShapeOf start ws t
    → same_shape s t ≡ shape_test vs ws
shapes_decide start vs ws (Flat f) (Flat g) p q =
    (λ i. (f.hash == g.hash) && alike_each (p.1 i) (q.1 i))
    ∙ ap (λ b. (f.hash == g.hash) && b) (alike_itself vs ws p.0 q.0)
    ∙ hashed_alike start vs ws f.hash g.hash p.2 q.2
shapes_decide start vs ws (Flat f) (Forms g) p q = sym (two_shapes vs ws p.0 q.0)
shapes_decide start vs ws (Forms f) (Flat g) p q = sym (test_back vs ws ∙ two_shapes ws vs q.0 p.0)
shapes_decide start vs ws (Forms f) (Forms g) p q =
    hashed_forms start f.forms.items g.forms.items f.hash g.hash p.2 q.2
    ∙ lists_same (each_labelled of_one_class vs) (each_labelled of_one_class ws) f.forms.items g.forms.items p.1 q.1
    ∙ same_each_labelled of_one_class of_one_class vs ws
    ∙ (λ i. agree_each_by (one_label of_one_class of_one_class) (each_in_bags_itself vs i) (each_in_bags_itself ws i))
