-- Lemmas for the laws of the traits; no promise stands here.
-- To have one shape is an equivalence.
use Rattle.std.proofs.Common.{◌≡◌, ℕ, Bool, true, IsTrue, refl, ap, eqb-true}
use Rattle.std.specs.Prelude.{◌==◌, ◌↔◌, nat_eq}
use Rattle.std.specs.Cmp.{IsEquivalence, and_equiv, first_so, nat_eq_equiv, on_equiv}
use Rattle.std.specs.Hash as fed
use Rattle.std.specs.Ordering.{eq_of_both, on}
use Rattle.step_values.specs.Shapes.{HaveOneShape}
use Rattle.step_values.specs.Values.{Values}
use Rattle.step_values.proofs.Agreement.{agree_each_back, agree_each_grows, agree_each_trans, same_each_refl}
use Rattle.step_values.proofs.Deciding.{each_by_complete, each_by_sound, same_bool}
use Rattle.row_signatures.specs.declared.flat_values.FlatValues.{FlatValues}
use Rattle.row_signatures.specs.steps.ComputedFlat.{alike_each, each_emptied, shape_test}

abbrev any : ℕ → ℕ → Bool
any y z = true

pub test_decides : (vs ws : Values) → (shape_test vs ws ≡ true) ↔ HaveOneShape vs ws
test_decides vs ws = (each_by_sound any vs ws, each_by_complete any vs ws)

pub own_shape : (vs : Values) → shape_test vs vs ≡ true
own_shape vs = (test_decides vs vs).1 (agree_each_grows (◌==◌) any (λ y z e. refl) vs vs (same_each_refl vs))

pub one_shape_back : (vs ws : Values) → HaveOneShape vs ws → HaveOneShape ws vs
one_shape_back = agree_each_back any any (λ y z e. e)

pub one_shape_trans : (us vs ws : Values) → HaveOneShape us vs → HaveOneShape vs ws → HaveOneShape us ws
one_shape_trans = agree_each_trans any any any (λ x y z e f. e)

-- values are of one shape if both have the shape of a third list of values
pub one_shape_between : (us vs ws : Values) → shape_test us ws ≡ true → shape_test vs ws ≡ true → HaveOneShape us vs
one_shape_between us vs ws e f =
    one_shape_trans us ws vs ((test_decides us ws).0 e) (one_shape_back vs ws ((test_decides vs ws).0 f))

-- the test gives equal results for values of one shape
pub same_answers : (us vs : Values) → HaveOneShape us vs → (ws : Values) → shape_test us ws ≡ shape_test vs ws
same_answers us vs h ws =
    same_bool _ _
    (λ e. (test_decides vs ws).1 (one_shape_trans vs us ws (one_shape_back us vs h) ((test_decides us ws).0 e)))
    (λ e. (test_decides us ws).1 (one_shape_trans us vs ws h ((test_decides vs ws).0 e)))

pub test_back : (vs ws : Values) → shape_test vs ws ≡ shape_test ws vs
test_back vs ws =
    same_bool _ _ (λ e. (test_decides ws vs).1 (one_shape_back vs ws ((test_decides vs ws).0 e)))
    (λ e. (test_decides vs ws).1 (one_shape_back ws vs ((test_decides ws vs).0 e)))

shape_equiv : IsEquivalence shape_test
shape_equiv = record {
  refl = own_shape;
  symm = test_back;
  congr = λ us vs ws e. same_answers us vs ((test_decides us vs).0 e) ws;
}

-- flat values are equal if their hashes are equal and their values are alike
abbrev pub flat_test : FlatValues → FlatValues → Bool
flat_test = eq_of_both (on (λ f. f.hash) nat_eq) (on (λ f. f.values) alike_each)

pub flat_equiv : IsEquivalence flat_test
flat_equiv =
    and_equiv (on_equiv (λ (f : FlatValues). f.hash) nat_eq_equiv)
    (on_equiv (λ (f : FlatValues). f.values) (on_equiv each_emptied shape_equiv))

-- equal flat values feed a hasher equally
pub one_hash : (f g : FlatValues) → IsTrue (flat_test f g) → fed.u64 f.hash ≡ fed.u64 g.hash
one_hash f g e = ap fed.u64 (eqb-true f.hash g.hash (first_so (nat_eq f.hash g.hash) (alike_each f.values g.values) e))
