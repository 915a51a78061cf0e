-- Normal forms are equal exactly where the values agree.
use denote.Hole.Carrier
use Rattle.std.proofs.Common.{◌≡◌, ◌≢◌, ◌==◌, ℕ, suc, Bool, true, false, cond, List, [], ◌∷◌, length, refl, sym, ◌∙◌, ap, subst, inl, inr, eq-eqb, arith}
use Rattle.std.specs.Prelude.{◌&&◌, nat_eq}
use Rattle.std.specs.Cmp.{IsTotalOrder}
use Rattle.std.specs.Cmp.Lexicographic.{pointwise}
use Rattle.std.specs.Ordering.{on, is_eq}
use Rattle.std.specs.Str.{bytes_eq}
use Rattle.std.proofs.lemmas.Bool.{and_parts, and_from}
use Rattle.std.proofs.lemmas.List.Sorted.{length_permutation}
use Rattle.step_literals.specs.Items.{text_items}
use Rattle.step_literals.specs.ItemKeys.{text_key}
use Rattle.step_literals.specs.steps.ItemKeyLemmas.{texts_are_their_items}
use Rattle.step_literals.specs.declared.literal.Text.{Text}
use Rattle.step_values.specs.declared.normal.Normal.{Normal, out-Normal}
use Rattle.step_values.specs.declared.normal.Normal.TheVariants as variant
use Rattle.step_values.specs.contracts.normal.NormalPartialEq.TheImpl.Laws as equals
use Rattle.step_values.specs.contracts.normal.NormalOrd.TheImpl.Laws as orders
use Rattle.step_values.specs.declared.labels.Label.{Label}
use Rattle.step_values.specs.declared.labels.Label.TheVariants.{Name, Class}
use Rattle.step_values.specs.contracts.labels.LabelPartialEq.TheImpl.{ghosts as labels}
use Rattle.step_values.specs.LabelledValues.{code}
use Rattle.step_values.specs.Leaves.{text}
use Rattle.step_values.specs.Values.{Value, leaf, reference, typed, sequence, bag, Values, none, more, IsReordering, unchanged, kept, swapped, joined, AgreeEach}
use Rattle.step_values.specs.AgreementTests.{leaf_test, count_in, value_count, same_test, same_each_test, counts_test}
use Rattle.step_values.specs.NormalForms.{Form, plain, to, called, listed, bagged, form, normal_cmp, normal_eq, IsNormal, AreNormal, AreSorted}
use Rattle.step_values.proofs.Crowds.{by_names}
use Rattle.step_values.proofs.Deciding.{leaf_decides, same_bool, Member, counts_from, count_swap, test_sound, test_complete}
use Rattle.step_values.proofs.Labelled.{one_code}
use Rattle.step_values.proofs.Sorting.{often, ascend, places_same, same_often, often_moved}

order : IsTotalOrder normal_cmp
order = orders.total-law

ties : (m n : Normal) → normal_eq m n ≡ is_eq (normal_cmp m n)
ties = orders.matches_eq-law

-- Equality, one layer deep

abbrev label_eq : Label → Label → Bool
label_eq a b = labels.eq a b

abbrev form_test : Form → Form → Bool
form_test (plain a) (plain b) = leaf_test a b
form_test (to y) (to z) = y == z
form_test (called s m) (called t n) = bytes_eq s t && normal_eq m n
form_test (listed ms) (listed ns) = pointwise normal_eq ms ns
form_test (bagged ms) (bagged ns) = pointwise normal_eq ms ns
form_test _ _ = false

texts_same : (s t : Text) → on text_key (pointwise nat_eq) s t ≡ leaf_test (text (text_items s)) (text (text_items t))
texts_same s t =
    let texts = texts_are_their_items s t in
    let leaves = leaf_decides (text (text_items s)) (text (text_items t)) in
    same_bool _ _ (λ e. leaves.1 (ap text (texts.0 e)))
    (λ e. texts.1 (let same : text (text_items s) ≡ text (text_items t) = leaves.0 e in cc))

labels_same : (a b : Label) → label_eq a b ≡ (code a == code b)
labels_same (Name y) (Name z) = sym (one_code (Name y) (Name z))
labels_same (Name y) (Class c) = sym (one_code (Name y) (Class c))
labels_same (Class c) (Name y) = sym (one_code (Class c) (Name y))
labels_same (Class c) (Class d) = sym (one_code (Class c) (Class d))

unrolled : (m n : Normal) → equals.unfolded m n ≡ form_test (form m) (form n)
unfolding out-Normal Carrier.out
unrolled variant.Unset variant.Unset = refl
unrolled variant.Derived variant.Derived = refl
unrolled (variant.Number a) (variant.Number b) = refl
unrolled (variant.Text s) (variant.Text t) = texts_same s t
unrolled (variant.Bits a) (variant.Bits b) = refl
unrolled (variant.Element a) (variant.Element b) = refl
unrolled (variant.Reference a) (variant.Reference b) = labels_same a b
unrolled (variant.Typed' a m p) (variant.Typed' b n q) = refl
unrolled (variant.Sequence' k ms) (variant.Sequence' l ns) = refl
unrolled (variant.Bag' k ms) (variant.Bag' l ns) = refl
unrolled _ _ = refl

by_forms : (m n : Normal) (F G : Form) → form m ≡ F → form n ≡ G → normal_eq m n ≡ form_test F G
by_forms m n F G p q = equals.is m n ∙ unrolled m n ∙ ap (λ x. form_test x (form n)) p ∙ ap (form_test F) q

-- Values and forms of two variants

abbrev value_variant : Value → ℕ
value_variant (leaf a) = 0
value_variant (reference y) = 1
value_variant (typed s v) = 2
value_variant (sequence vs) = 3
value_variant (bag vs) = 4

abbrev form_variant : Form → ℕ
form_variant (plain a) = 0
form_variant (to y) = 1
form_variant (called s m) = 2
form_variant (listed ms) = 3
form_variant (bagged ms) = 4

values_apart : (v w : Value) → value_variant v ≢ value_variant w → same_test v w ≡ false
values_apart (leaf a) (leaf b) h = absurd (h refl)
values_apart (reference y) (reference z) h = absurd (h refl)
values_apart (typed s v) (typed t w) h = absurd (h refl)
values_apart (sequence vs) (sequence ws) h = absurd (h refl)
values_apart (bag vs) (bag ws) h = absurd (h refl)
values_apart _ _ h = refl

forms_apart : (F G : Form) → form_variant F ≢ form_variant G → form_test F G ≡ false
forms_apart (plain a) (plain b) h = absurd (h refl)
forms_apart (to y) (to z) h = absurd (h refl)
forms_apart (called s m) (called t n) h = absurd (h refl)
forms_apart (listed ms) (listed ns) h = absurd (h refl)
forms_apart (bagged ms) (bagged ns) h = absurd (h refl)
forms_apart _ _ h = refl

one_variant : (v : Value) (n : Normal) → IsNormal v n → form_variant (form n) ≡ value_variant v
one_variant (leaf a) n p = ap form_variant p
one_variant (reference y) n p = ap form_variant p
one_variant (typed s v) n p = ap form_variant p.1
one_variant (sequence vs) n p = ap form_variant p.1
one_variant (bag vs) n p = ap form_variant p.1

apart : (v w : Value) (m n : Normal) → IsNormal v m → IsNormal w n → value_variant v ≢ value_variant w
    → normal_eq m n ≡ same_test v w
apart v w m n p q h =
    by_forms m n (form m) (form n) refl refl
    ∙ forms_apart (form m) (form n) (λ e. h (sym (one_variant v m p) ∙ e ∙ one_variant w n q))
    ∙ sym (values_apart v w h)

-- equality of normal forms of v is its agreement
record Faithful (v : Value) : Type 0 where
  pub holds : (w : Value) (m n : Normal) → IsNormal v m → IsNormal w n → normal_eq m n ≡ same_test v w

abbrev AllFaithful : Values → Type 0
AllFaithful none = Unit {0}
AllFaithful (more v vs) = Faithful v × AllFaithful vs

member_faithful : (u : Value) (vs : Values) → AllFaithful vs → Member u vs → Faithful u
member_faithful u none d m = absurd m
member_faithful u (more v vs) d (inl e) = subst Faithful (sym e) d.0
member_faithful u (more v vs) d (inr m) = member_faithful u vs d.1 m

-- Bags: sorted lists

sizes : (vs : Values) (ms : List Normal) → AreNormal vs ms → value_count vs ≡ length ms
sizes none [] p = refl
sizes none (m ∷ ms) p = absurd p
sizes (more v vs) [] p = absurd p
sizes (more v vs) (m ∷ ms) p = ap suc (sizes vs ms p.1)

lengths : (ms ns : List Normal) → pointwise normal_eq ms ns ≡ true → length ms ≡ length ns
lengths [] [] h = refl
lengths [] (n ∷ ns) h = absurd (cc)
lengths (m ∷ ms) [] h = absurd (cc)
lengths (m ∷ ms) (n ∷ ns) h = ap suc (lengths ms ns (and_parts (normal_eq m n) (pointwise normal_eq ms ns) h).1)

member_normal : (u : Value) (vs : Values) (ms : List Normal) → AreNormal vs ms → Member u vs → (z : Normal)
    × IsNormal u z
member_normal u none ms p m = absurd m
member_normal u (more v vs) [] p m = absurd p
member_normal u (more v vs) (n ∷ ms) p (inl e) = (n, subst (λ t. IsNormal t n) (sym e) p.0)
member_normal u (more v vs) (n ∷ ms) p (inr m) = member_normal u vs ms p.1 m

counted : (u : Value) → Faithful u → (z : Normal) → IsNormal u z → (vs : Values) (ms : List Normal) → AreNormal vs ms
    → often normal_eq z ms ≡ count_in (same_test u) vs
counted u d z i none [] p = refl
counted u d z i none (m ∷ ms) p = absurd p
counted u d z i (more v vs) [] p = absurd p
counted u d z i (more v vs) (m ∷ ms) p =
    ap (λ b. cond b (suc (often normal_eq z ms)) (often normal_eq z ms)) (d.holds v z m i p.0)
    ∙ ap (λ k. cond (same_test u v) (suc k) k) (counted u d z i vs ms p.1)

reordered : {us ws : Values} → IsReordering us ws → (ns : List Normal) → AreNormal ws ns → (os : List Normal)
    × AreNormal us os × ((z : Normal) → often normal_eq z os ≡ often normal_eq z ns)
reordered (unchanged vs) ns p = (ns, p, λ z. refl)
reordered (kept v r) [] p = absurd p
reordered (kept v r) (n ∷ ns) p =
    let found = reordered r ns p.1 in (
      n ∷ found.0,
      (p.0, found.1),
      λ z. ap (λ k. cond (normal_eq z n) (suc k) k)
          (found.2 z),
    )
reordered (swapped v w vs) [] p = absurd p
reordered (swapped v w vs) (m ∷ []) p = absurd p.1
reordered (swapped v w vs) (m ∷ n ∷ ns) p =
    (n ∷ m ∷ ns, (p.1.0, (p.0, p.1.1)), λ z. count_swap (normal_eq z n) (normal_eq z m) (often normal_eq z ns))
reordered (joined r s) ns p =
    let later = reordered s ns p in
    let first = reordered r later.0 later.1 in (first.0, first.1, λ z. first.2 z ∙ later.2 z)

places : (vs us : Values) → AllFaithful vs → AgreeEach (◌==◌) vs us → (ms os : List Normal) → AreNormal vs ms
    → AreNormal us os → pointwise normal_eq ms os ≡ true
places none none d a [] [] p q = refl
places none none d a (m ∷ ms) os p q = absurd p
places none none d a [] (n ∷ os) p q = absurd q
places (more v vs) (more u us) d a [] os p q = absurd p
places (more v vs) (more u us) d a (m ∷ ms) [] p q = absurd q
places (more v vs) (more u us) d a (m ∷ ms) (n ∷ os) p q =
    and_from (normal_eq m n) (pointwise normal_eq ms os) (d.0.holds u m n p.0 q.0 ∙ test_complete v u a.0)
    (places vs us d.1 a.1 ms os p.1 q.1)
places _ _ d a ms os p q = absurd a

module _ (vs ws : Values) (faithful : AllFaithful vs) (ms ns : List Normal) (p : AreSorted vs ms) (q : AreSorted ws ns)
  where
    bags_sound : pointwise normal_eq ms ns ≡ true → same_test (bag vs) (bag ws) ≡ true
    bags_sound h =
        let alike : (z : Normal) → often normal_eq z p.0 ≡ often normal_eq z q.0 =
        λ z. often_moved normal_eq normal_cmp order ties z p.0 ms p.2 ∙ same_often normal_eq normal_cmp order ties ms ns
        h
        z ∙ sym (often_moved normal_eq normal_cmp order ties z q.0 ns q.2) in
        let one_size : value_count vs ≡ value_count ws =
        sizes vs p.0 p.1 ∙ sym (length_permutation p.0 ms p.2) ∙ lengths ms ns h ∙ length_permutation q.0 ns q.2
        ∙ sym (sizes ws q.0 q.1) in
        and_from (value_count vs == value_count ws) (counts_test vs vs ws) (eq-eqb _ _ one_size) (counts_from vs vs ws (λ u m.
        let z = member_normal u vs p.0 p.1 m in
        let d = member_faithful u vs faithful m in
        sym (counted u d z.0 z.1 vs p.0 p.1) ∙ alike z.0 ∙ counted u d z.0 z.1 ws q.0 q.1))

    bags_complete : same_test (bag vs) (bag ws) ≡ true → pointwise normal_eq ms ns ≡ true
    bags_complete h =
        let agree = by_names vs ws (test_sound (bag vs) (bag ws) h) in
        let other = reordered agree.1 q.0 q.1 in
        let paired = places vs agree.0 faithful agree.2 p.0 other.0 p.1 other.1 in
        places_same normal_eq normal_cmp order ties ms ns (ascend normal_eq normal_cmp order ties ms p.3)
        (ascend normal_eq normal_cmp order ties ns q.3) (λ z.
        sym (often_moved normal_eq normal_cmp order ties z p.0 ms p.2)
        ∙ same_often normal_eq normal_cmp order ties p.0 other.0 paired z
        ∙ other.2 z
        ∙ often_moved normal_eq normal_cmp order ties z q.0 ns q.2)

    bags_same : pointwise normal_eq ms ns ≡ same_test (bag vs) (bag ws)
    bags_same = same_bool _ _ bags_sound bags_complete

mutual
  pub forms_same : (v w : Value) (m n : Normal) → IsNormal v m → IsNormal w n → normal_eq m n ≡ same_test v w
  forms_same (leaf a) (leaf b) m n p q = by_forms m n (plain a) (plain b) p q
  forms_same (reference y) (reference z) m n p q = by_forms m n (to y) (to z) p q
  forms_same (typed s v) (typed t w) m n p q =
      by_forms m n (called s p.0) (called t q.0) p.1 q.1 ∙ ap (λ b. bytes_eq s t && b) (forms_same v w p.0 q.0 p.2 q.2)
  forms_same (sequence vs) (sequence ws) m n p q = by_forms m n (listed p.0) (listed q.0) p.1 q.1
      ∙ lists_same vs ws p.0 q.0 p.2 q.2
  forms_same (bag vs) (bag ws) m n p q = by_forms m n (bagged p.0) (bagged q.0) p.1 q.1
      ∙ bags_same vs ws (all_faithful vs) p.0 q.0 p.2 q.2
  forms_same v w m n p q = apart v w m n p q (λ e. absurd (omega (arith, e)))

  pub lists_same : (vs ws : Values) (ms ns : List Normal) → AreNormal vs ms → AreNormal ws ns
      → pointwise normal_eq ms ns ≡ same_each_test vs ws
  lists_same none none [] [] p q = refl
  lists_same none (more w ws) [] (n ∷ ns) p q = refl
  lists_same (more v vs) none (m ∷ ms) [] p q = refl
  lists_same (more v vs) (more w ws) (m ∷ ms) (n ∷ ns) p q =
      ap (λ b. b && pointwise normal_eq ms ns) (forms_same v w m n p.0 q.0) ∙ ap (λ b. same_test v w && b)
      (lists_same vs ws ms ns p.1 q.1)
  lists_same none ws (m ∷ ms) ns p q = absurd p
  lists_same (more v vs) ws [] ns p q = absurd p
  lists_same none none [] (n ∷ ns) p q = absurd q
  lists_same none (more w ws) [] [] p q = absurd q
  lists_same (more v vs) none (m ∷ ms) (n ∷ ns) p q = absurd q
  lists_same (more v vs) (more w ws) (m ∷ ms) [] p q = absurd q

  all_faithful : (vs : Values) → AllFaithful vs
  all_faithful none = tt
  all_faithful (more v vs) = (record { holds = forms_same v }, all_faithful vs)

-- bags agree where their sorted normal forms are equal
pub sorted_same : (vs ws : Values) (ms ns : List Normal) → AreSorted vs ms → AreSorted ws ns
    → pointwise normal_eq ms ns ≡ same_test (bag vs) (bag ws)
sorted_same vs ws ms ns p q = bags_same vs ws (all_faithful vs) ms ns p q
