-- Normal forms of parameters side by side.
use Rattle.std.proofs.Common.{◌≡◌, ◌<◌, ℕ, zero, suc, ◌+◌, Bool, true, false, cond, List, [], ◌∷◌, ◌++◌, Some, length, take, slice_get, refl, sym, ◌∙◌, ap, subst, arith, add-one}
use Rattle.std.specs.Prelude.{not, ◌&&◌}
use Rattle.step_structures.specs.Trees.{Tree}
use Rattle.step_records.specs.Cells.{all_of}
use Rattle.step_values.specs.declared.normal.Normal.{Normal}
use Rattle.step_values.specs.AgreementTests.{same_test, same_each_test}
use Rattle.step_values.specs.NormalForms.{IsNormal, AreNormal, normal_eq, normal_cmp}
use Rattle.step_values.specs.References.{renamed_each}
use Rattle.step_values.specs.Values.{Value, Values, none, more}
use Rattle.step_values.specs.contracts.normal.NormalOrd.TheImpl.Laws as orders
use Rattle.std.specs.List.Sorted.{IsPermutation, IsSorted}
use Rattle.step_values.proofs.Labelled.{same_each_labelled, same_each_renamed}
use Rattle.step_values.proofs.NormalForms.{forms_same}
use Rattle.step_values.proofs.Renaming.{each_renamed_itself}
use Rattle.express_syntax.specs.Schemas.{Schema}
use Rattle.conformance.specs.Bases.{Domain, Base}
use Rattle.conformance.specs.ParameterFits.{value_as, values_as, is_set, set_ones, differs_from, all_differ, are_distinct}
use Rattle.parameter_fits.specs.steps.Apart.{differs, all_apart, neighbours_apart}
use Rattle.parameter_fits.specs.steps.Named.{itself, by_name, each_by_name}
use Rattle.parameter_fits.proofs.Sorted.{decided}

-- one value more, behind the others
abbrev added : Values → Value → Values
added none w = more w none
added (more v vs) w = more v (added vs w)

named_added : (vs : Values) (v : Value) → each_by_name (added vs v) ≡ added (each_by_name vs) (by_name v)
named_added none v = refl
named_added (more w vs) v = ap (more (by_name w)) (named_added vs v)

normal_added : (vs : Values) (v : Value) (ns : List Normal) (n : Normal) → AreNormal vs ns → IsNormal v n
    → AreNormal (added vs v) (ns ++ n ∷ [])
normal_added none v [] n p q = (q, tt)
normal_added none v (m ∷ ns) n p q = absurd p
normal_added (more w vs) v [] n p q = absurd p
normal_added (more w vs) v (m ∷ ns) n p q = (p.0, normal_added vs v ns n p.1 q)

set_added : (vs : Values) (v : Value)
    → set_ones (added vs v) ≡ cond (is_set v) (added (set_ones vs) v) (set_ones vs)
set_added none v = refl
set_added (more w vs) v = go (is_set w) (is_set v) (set_added vs v)
  where
    go : (b c : Bool) → set_ones (added vs v) ≡ cond c (added (set_ones vs) v) (set_ones vs)
        → cond b (more w (set_ones (added vs v))) (set_ones (added vs v))
        ≡ cond c (added (cond b (more w (set_ones vs)) (set_ones vs)) v) (cond b (more w (set_ones vs)) (set_ones vs))
    go true true e = ap (more w) e
    go true false e = ap (more w) e
    go false true e = e
    go false false e = e

module _ (s : Schema) (d : Domain) (b : Base) where
  abbrev values : List Tree → Values
  values xs = values_as s d b (all_of xs)

  taken : (xs : List Tree) (i : ℕ) (x : Tree) → slice_get xs i ≡ Some x
      → values (take (suc i) xs) ≡ added (values (take i xs)) (value_as s d b x)
  taken [] i x e = absurd (cc)
  taken (y ∷ xs) zero x e = let same : y ≡ x = cc in ap (λ z. more (value_as s d b z) none) same
  taken (y ∷ xs) (suc i) x e = ap (more (value_as s d b y)) (taken xs i x e)

  module _ (xs : List Tree) (i : ℕ) (x : Tree) (at : slice_get xs i ≡ Some x) where
    next : values (take (i + 1) xs) ≡ added (values (take i xs)) (value_as s d b x)
    next = ap (λ n. values (take n xs)) (add-one i) ∙ taken xs i x at

    pub form_next : (ns : List Normal) (n : Normal) → AreNormal (each_by_name (values (take i xs))) ns
        → IsNormal (by_name (value_as s d b x)) n → AreNormal (each_by_name (values (take (i + 1) xs))) (ns ++ n ∷ [])
    form_next ns n p q =
        subst (λ vs. AreNormal vs (ns ++ n ∷ []))
        (sym (ap each_by_name next ∙ named_added (values (take i xs)) (value_as s d b x)))
        (normal_added (each_by_name (values (take i xs))) (by_name (value_as s d b x)) ns n p q)

    pub set_next : (ns : List Normal) (n : Normal) → is_set (value_as s d b x) ≡ true
        → AreNormal (each_by_name (set_ones (values (take i xs)))) ns → IsNormal (by_name (value_as s d b x)) n
        → AreNormal (each_by_name (set_ones (values (take (i + 1) xs)))) (ns ++ n ∷ [])
    set_next ns n e p q =
        let vs = values (take i xs) in
        let v = value_as s d b x in
        subst (λ ws. AreNormal ws (ns ++ n ∷ []))
        (sym (ap (λ ws. each_by_name (set_ones ws)) next ∙ ap each_by_name (set_added vs v
        ∙ ap (λ t. cond t (added (set_ones vs) v) (set_ones vs)) e) ∙ named_added (set_ones vs) v))
        (normal_added (each_by_name (set_ones vs)) (by_name v) ns n p q)

    pub unset_next : (ns : List Normal) → is_set (value_as s d b x) ≡ false
        → AreNormal (each_by_name (set_ones (values (take i xs)))) ns
        → AreNormal (each_by_name (set_ones (values (take (i + 1) xs)))) ns
    unset_next ns e p =
        let vs = values (take i xs) in
        let v = value_as s d b x in
        subst (λ ws. AreNormal ws ns)
        (sym (ap (λ ws. each_by_name (set_ones ws)) next ∙ ap each_by_name (set_added vs v
        ∙ ap (λ t. cond t (added (set_ones vs) v) (set_ones vs)) e))) p

  -- one element alone is distinct
  pub few_distinct : (xs : List Tree) → length xs < 2 → true ≡ are_distinct (values xs)
  few_distinct [] h = refl
  few_distinct (x ∷ []) h = go (is_set (value_as s d b x))
    where
      go : (t : Bool) → true ≡ all_differ (cond t (more (value_as s d b x) none) none)
      go true = refl
      go false = refl
  few_distinct (x ∷ y ∷ xs) h = absurd (omega (arith, h))

and_true : (b : Bool) → (b && true) ≡ b
and_true true = refl
and_true false = refl

-- values are equal by name as they are by themselves
same_named : (v w : Value) → same_test (by_name v) (by_name w) ≡ same_test v w
same_named v w =
    let alike = each_renamed_itself (λ y. y) (λ y. refl) in
    sym (and_true (same_test (by_name v) (by_name w)))
    ∙ same_each_labelled itself itself (more v none) (more w none)
    ∙ same_each_renamed (λ y. y) (λ y. y) (more v none) (more w none)
    ∙ ap (λ vs. same_each_test vs (renamed_each (λ y. y) (more w none))) (alike (more v none))
    ∙ ap (same_each_test (more v none)) (alike (more w none))
    ∙ and_true (same_test v w)

same_forms : (v w : Value) (m n : Normal) → IsNormal (by_name v) m → IsNormal (by_name w) n
    → normal_eq m n ≡ same_test v w
same_forms v w m n p q = forms_same (by_name v) (by_name w) m n p q ∙ same_named v w

differ : (v : Value) (m : Normal) → IsNormal (by_name v) m → (vs : Values) (ns : List Normal)
    → AreNormal (each_by_name vs) ns → differs normal_eq m ns ≡ differs_from v vs
differ v m p none [] q = refl
differ v m p none (n ∷ ns) q = absurd q
differ v m p (more w vs) [] q = absurd q
differ v m p (more w vs) (n ∷ ns) q =
    ap (λ t. not t && differs normal_eq m ns) (same_forms v w m n p q.0)
    ∙ ap (λ t. not (same_test v w) && t) (differ v m p vs ns q.1)

all_apart_differ : (vs : Values) (ns : List Normal) → AreNormal (each_by_name vs) ns
    → all_apart normal_eq ns ≡ all_differ vs
all_apart_differ none [] q = refl
all_apart_differ none (n ∷ ns) q = absurd q
all_apart_differ (more v vs) [] q = absurd q
all_apart_differ (more v vs) (n ∷ ns) q =
    ap (λ t. t && all_apart normal_eq ns) (differ v n q.0 vs ns q.1)
    ∙ ap (λ t. differs_from v vs && t) (all_apart_differ vs ns q.1)

-- sorted forms are distinct where no two neighbours are equal
pub sorted_distinct : (vs : Values) (ms ns : List Normal) → AreNormal (each_by_name (set_ones vs)) ms
    → IsPermutation ms ns → IsSorted normal_cmp ns → neighbours_apart normal_eq ns ≡ are_distinct vs
sorted_distinct vs ms ns p moved sorted =
    decided normal_eq normal_cmp orders.total-law orders.matches_eq-law ms ns moved sorted
    ∙ all_apart_differ (set_ones vs) ms p
