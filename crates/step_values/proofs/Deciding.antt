-- The test of agreement by name decides it.
use Rattle.std.proofs.Common.{◌≡◌, ◌<◌, ℕ, suc, Bool, true, false, cond, List, [], ◌∷◌, Decides, refl, sym, ◌∙◌, ap, subst, ◌⊎◌, inl, inr, eqb-true, eq-eqb, arith}
use Rattle.std.specs.Prelude.{◌==◌}
use Rattle.std.specs.Str.{bytes_eq}
use Rattle.std.proofs.lemmas.Bool.{and_parts, and_from}
use Rattle.std.proofs.lemmas.Slice.Eq.{bytes_eq-Decides}
use Rattle.std.specs.Cmp.{signed_Decides, booleans_Decides}
use Rattle.std.specs.Cmp.Lexicographic.{pointwise_decides}
use Rattle.step_literals.specs.declared.literal.items.Item.{Item}
use Rattle.step_literals.specs.declared.literal.items.Item.TheVariants.{Code, Page, Raw}
use Rattle.step_values.specs.Leaves.{Leaf, unset, derived, number, text, bits, element}
use Rattle.step_values.specs.Values.{Value, leaf, reference, typed, sequence, bag, Values, none, more, is_crowd, IsReordering, unchanged, kept, swapped, joined, Agree, AgreeEach}
use Rattle.step_values.specs.AgreementTests.{item_test, each_test, leaf_test, count_in, value_count, same_test, same_each_test, counts_test, agree_by, agree_each_by}
use Rattle.step_values.proofs.Crowds.{passes, passed, size_reordered, size_agree, by_names, from_names}
use Rattle.step_values.proofs.Agreement.{same_refl, agree_back, agree_trans, eqb_sym, eqb_trans}

module _ {A : Type 0} (test : A → A → Bool) (decides : (a b : A) → Decides (test a b) (a ≡ b)) where
  pub each_decides : (xs ys : List A) → Decides (each_test test xs ys) (xs ≡ ys)
  each_decides [] [] = (λ _. refl, λ _. refl)
  each_decides [] (y ∷ ys) = (λ e. absurd (cc), λ e. absurd (cc))
  each_decides (x ∷ xs) [] = (λ e. absurd (cc), λ e. absurd (cc))
  each_decides (x ∷ xs) (y ∷ ys) = (
    λ e. let parts = and_parts (test x y) (each_test test xs ys) e in let first : x ≡ y = (decides x y).0 parts.0 in
        let rest : xs ≡ ys = (each_decides xs ys).0 parts.1 in cc,
    λ e. and_from (test x y) (each_test test xs ys) ((decides x y).1 (cc)) ((each_decides xs ys).1 (cc)),
  )

item_decides : (a b : Item) → Decides (item_test a b) (a ≡ b)
item_decides (Code c) (Code d) = (λ e. ap Code (eqb-true c d e), λ e. eq-eqb c d (cc))
item_decides (Page p b) (Page q c) = (
  λ e. let parts = and_parts (p == q) (b == c) e in let page : p ≡ q = eqb-true p q parts.0 in let byte : b ≡ c =
      eqb-true b c parts.1 in cc,
  λ e. and_from (p == q) (b == c) (eq-eqb p q (cc)) (eq-eqb b c (cc)),
)
item_decides (Raw b) (Raw c) = (λ e. ap Raw (eqb-true b c e), λ e. eq-eqb b c (cc))
item_decides _ _ = (λ e. absurd (cc), λ e. absurd (cc))

pub leaf_decides : (a b : Leaf) → Decides (leaf_test a b) (a ≡ b)
leaf_decides unset unset = (λ e. refl, λ e. refl)
leaf_decides derived derived = (λ e. refl, λ e. refl)
leaf_decides (number y) (number z) = (λ e. ap number ((signed_Decides y z).0 e), λ e. (signed_Decides y z).1 (cc))
leaf_decides (text s) (text t) = (
  λ e. ap text ((each_decides item_test item_decides s t).0 e),
  λ e. (each_decides item_test item_decides s t).1 (cc),
)
leaf_decides (bits s) (bits t) = (
  λ e. ap bits ((pointwise_decides booleans_Decides s t).0 e),
  λ e. (pointwise_decides booleans_Decides s t).1 (cc),
)
leaf_decides (element s) (element t) = (
  λ e. ap element ((bytes_eq-Decides s t).0 e),
  λ e. (bytes_eq-Decides s t).1
      (cc),
)
leaf_decides _ _ = (λ e. absurd (cc), λ e. absurd (cc))

pub same_bool : (a b : Bool) → (a ≡ true → b ≡ true) → (b ≡ true → a ≡ true) → a ≡ b
same_bool true true f g = refl
same_bool true false f g = sym (f refl)
same_bool false true f g = g refl
same_bool false false f g = refl

abbrev Same : Value → Value → Type 0
Same v w = Agree (◌==◌) v w

same_sym : (v w : Value) → Same v w → Same w v
same_sym = agree_back (◌==◌) (◌==◌) eqb_sym

same_trans : (u v w : Value) → Same u v → Same v w → Same u w
same_trans = agree_trans (◌==◌) (◌==◌) (◌==◌) eqb_trans

-- the test decides each agreement of u
pub record Decided (u : Value) : Type 0 where
  pub sound : (w : Value) → same_test u w ≡ true → Same u w
  pub complete : (w : Value) → Same u w → same_test u w ≡ true

abbrev AllDecided : Values → Type 0
AllDecided none = Unit {0}
AllDecided (more v vs) = Decided v × AllDecided vs

abbrev pub Member : Value → Values → Type 0
Member u none = ⊥
Member u (more v vs) = (u ≡ v) ⊎ Member u vs

member_decided : (u : Value) (vs : Values) → AllDecided vs → Member u vs → Decided u
member_decided u none d m = absurd m
member_decided u (more v vs) d (inl e) = subst Decided (sym e) d.0
member_decided u (more v vs) d (inr m) = member_decided u vs d.1 m

-- a test answers alike at values that agree
alike_answers : (u v w : Value) → Decided u → Same v w → same_test u v ≡ same_test u w
alike_answers u v w d s =
    same_bool (same_test u v) (same_test u w) (λ h. d.complete w (same_trans u v w (d.sound v h) s))
    (λ h. d.complete v (same_trans u w v (d.sound w h) (same_sym v w s)))

count_more : (b : Bool) (m n : ℕ) → m ≡ n → cond b (suc m) m ≡ cond b (suc n) n
count_more b m n e = ap (λ k. cond b (suc k) k) e

count_less : (b : Bool) (m n : ℕ) → cond b (suc m) m ≡ cond b (suc n) n → m ≡ n
count_less true m n e = omega arith
count_less false m n e = e

pub count_swap : (b c : Bool) (n : ℕ) → cond b (suc (cond c (suc n) n)) (cond c (suc n) n) ≡ cond c
    (suc (cond b (suc n) n)) (cond b (suc n) n)
count_swap true true n = refl
count_swap true false n = refl
count_swap false true n = refl
count_swap false false n = refl

count_reordered : (p : Value → Bool) {us ws : Values} → IsReordering us ws → count_in p us ≡ count_in p ws
count_reordered p (unchanged vs) = refl
count_reordered p (kept {vs = vs} {ws = ws} v r) = count_more (p v) (count_in p vs) (count_in p ws)
    (count_reordered p r)
count_reordered p (swapped v w vs) = count_swap (p v) (p w) (count_in p vs)
count_reordered p (joined r s) = count_reordered p r ∙ count_reordered p s

count_agree : (u : Value) → Decided u → (vs us : Values) → AgreeEach (◌==◌) vs us → count_in (same_test u) vs ≡ count_in
    (same_test u) us
count_agree u d none none h = refl
count_agree u d (more v vs) (more w us) h =
    count_more (same_test u v) (count_in (same_test u) vs) (count_in (same_test u) us) (count_agree u d vs us h.1)
    ∙ ap (λ b. cond b (suc (count_in (same_test u) us)) (count_in (same_test u) us)) (alike_answers u v w d h.0)
count_agree u d _ _ h = absurd h

-- a value that passes can be taken to the front
taken : (p : Value → Bool) (ws : Values) → 0 < count_in p ws → (w : Value) × (rest : Values) × (p w ≡ true)
    × IsReordering (more w rest) ws
taken p none h = absurd (omega arith)
taken p (more v vs) h = go (p v) refl h (taken p vs)
  where
    go : (b : Bool) → p v ≡ b → 0 < cond b (suc (count_in p vs)) (count_in p vs)
        → (0 < count_in p vs → (w : Value) × (rest : Values) × (p w ≡ true) × IsReordering (more w rest) vs)
        → (w : Value) × (rest : Values) × (p w ≡ true) × IsReordering (more w rest) (more v vs)
    go true e k later = (v, vs, e, unchanged (more v vs))
    go false e k later =
        let found = later k in (found.0, more v found.1, found.2, joined (swapped found.0 v found.1) (kept v found.3))

counts_each : (rest vs ws : Values) → counts_test rest vs ws ≡ true → (u : Value) → Member u rest
    → count_in (same_test u) vs ≡ count_in (same_test u) ws
counts_each none vs ws h u m = absurd m
counts_each (more v rest) vs ws h u (inl e) =
    let parts = and_parts (count_in (same_test v) vs == count_in (same_test v) ws) (counts_test rest vs ws) h in
    subst (λ t. count_in (same_test t) vs ≡ count_in (same_test t) ws) (sym e) (eqb-true _ _ parts.0)
counts_each (more v rest) vs ws h u (inr m) =
    let parts = and_parts (count_in (same_test v) vs == count_in (same_test v) ws) (counts_test rest vs ws) h in
    counts_each rest vs ws parts.1 u m

pub counts_from : (rest vs ws : Values) → ((u : Value) → Member u rest → count_in (same_test u) vs ≡ count_in
    (same_test u) ws) → counts_test rest vs ws ≡ true
counts_from none vs ws f = refl
counts_from (more v rest) vs ws f =
    and_from (count_in (same_test v) vs == count_in (same_test v) ws) (counts_test rest vs ws)
    (eq-eqb _ _ (f v (inl refl))) (counts_from rest vs ws (λ u m. f u (inr m)))

paired : (v w : Value) (vs ws rest us : Values) → IsReordering (more w rest) ws → Same v w → IsReordering us rest
    → AgreeEach (◌==◌) vs us → (zs : Values) × IsReordering zs ws × AgreeEach (◌==◌) (more v vs) zs
paired v w vs ws rest us taken_out pair reordered agree = (
  more w us,
  joined (kept w reordered) taken_out,
  (pair, agree),
)

matched : (vs ws : Values) → AllDecided vs → value_count vs ≡ value_count ws
    → ((u : Value) → Member u vs → count_in (same_test u) vs ≡ count_in (same_test u) ws) → (us : Values)
    × IsReordering us ws × AgreeEach (◌==◌) vs us
matched none none d s f = (none, unchanged none, tt)
matched none (more w ws) d s f = absurd (omega arith)
matched (more v vs) ws d s f =
    let itself : same_test v v ≡ true = d.0.complete v (same_refl v) in
    let front : count_in (same_test v) (more v vs) ≡ suc (count_in (same_test v) vs) =
    ap (λ b. cond b (suc (count_in (same_test v) vs)) (count_in (same_test v) vs)) itself in
    let all : count_in (same_test v) (more v vs) ≡ count_in (same_test v) ws = f v (inl refl) in
    let some : 0 < count_in (same_test v) ws = omega (arith, front, all) in
    let found = taken (same_test v) ws some in
    let pair : Same v found.0 = d.0.sound found.0 found.2 in
    let left : value_count vs ≡ value_count found.1 = omega (arith, size_reordered found.3, s) in
    let rest = matched vs found.1 d.1 left (λ u m. count_less (same_test u v) (count_in (same_test u) vs)
    (count_in (same_test u) found.1)
    (f u (inr m) ∙ sym (count_reordered (same_test u) found.3)
    ∙ ap (λ b. cond b (suc (count_in (same_test u) found.1)) (count_in (same_test u) found.1))
    (sym (alike_answers u v found.0 (member_decided u vs d.1 m) pair)))) in
    paired v found.0 vs ws found.1 rest.0 found.3 pair rest.1 rest.2

mutual
  pub test_sound : (v w : Value) → same_test v w ≡ true → Same v w
  test_sound (leaf a) (leaf b) h = (leaf_decides a b).0 h
  test_sound (reference y) (reference z) h = h
  test_sound (typed n v) (typed m w) h =
      let parts = and_parts (bytes_eq n m) (same_test v w) h in
      ((bytes_eq-Decides n m).0 parts.0, test_sound v w parts.1)
  test_sound (sequence vs) (sequence ws) h = each_sound vs ws h
  test_sound (bag vs) (bag ws) h =
      let parts = and_parts (value_count vs == value_count ws) (counts_test vs vs ws) h in
      let found = matched vs ws (all_decided vs) (eqb-true _ _ parts.0) (counts_each vs vs ws parts.1) in
      from_names vs found.0 ws found.1 found.2
  test_sound _ _ h = absurd (cc)

  pub test_complete : (v w : Value) → Same v w → same_test v w ≡ true
  test_complete (leaf a) (leaf b) h = (leaf_decides a b).1 h
  test_complete (reference y) (reference z) h = h
  test_complete (typed n v) (typed m w) h = and_from (bytes_eq n m) (same_test v w) ((bytes_eq-Decides n m).1 h.0)
      (test_complete v w h.1)
  test_complete (sequence vs) (sequence ws) h = each_complete vs ws h
  test_complete (bag vs) (bag ws) h =
      let s = by_names vs ws h in
      and_from (value_count vs == value_count ws) (counts_test vs vs ws) (eq-eqb _ _ (size_agree (◌==◌) vs s.0 s.2
      ∙ size_reordered s.1)) (counts_from vs vs ws (λ u m. count_agree u (member_decided u vs (all_decided vs) m) vs s.0
      s.2 ∙ count_reordered (same_test u) s.1))
  test_complete _ _ h = absurd h

  pub each_sound : (vs ws : Values) → same_each_test vs ws ≡ true → AgreeEach (◌==◌) vs ws
  each_sound none none h = tt
  each_sound (more v vs) (more w ws) h =
      let parts = and_parts (same_test v w) (same_each_test vs ws) h in
      (test_sound v w parts.0, each_sound vs ws parts.1)
  each_sound _ _ h = absurd (cc)

  pub each_complete : (vs ws : Values) → AgreeEach (◌==◌) vs ws → same_each_test vs ws ≡ true
  each_complete none none h = refl
  each_complete (more v vs) (more w ws) h = and_from (same_test v w) (same_each_test vs ws) (test_complete v w h.0)
      (each_complete vs ws h.1)
  each_complete _ _ h = absurd h

  all_decided : (vs : Values) → AllDecided vs
  all_decided none = tt
  all_decided (more v vs) = (record { sound = test_sound v; complete = test_complete v }, all_decided vs)

-- The test of agreement under a test of references decides it.

module _ (test : ℕ → ℕ → Bool) where
  mutual
    pub by_sound : (v w : Value) → agree_by test v w ≡ true → Agree test v w
    by_sound (leaf a) (leaf b) h = (leaf_decides a b).0 h
    by_sound (reference y) (reference z) h = h
    by_sound (typed n v) (typed m w) h =
        let parts = and_parts (bytes_eq n m) (agree_by test v w) h in
        ((bytes_eq-Decides n m).0 parts.0, by_sound v w parts.1)
    by_sound (sequence vs) (sequence ws) h = each_by_sound vs ws h
    by_sound (bag vs) (bag ws) h =
        passes (is_crowd vs) (same_test (bag vs) (bag ws)) (agree_each_by test vs ws) h (λ e. by_names vs ws
        (test_sound (bag vs) (bag ws) e)) (λ e. each_by_sound vs ws e)
    by_sound _ _ h = absurd (cc)

    pub each_by_sound : (vs ws : Values) → agree_each_by test vs ws ≡ true → AgreeEach test vs ws
    each_by_sound none none h = tt
    each_by_sound (more v vs) (more w ws) h =
        let parts = and_parts (agree_by test v w) (agree_each_by test vs ws) h in
        (by_sound v w parts.0, each_by_sound vs ws parts.1)
    each_by_sound _ _ h = absurd (cc)

  mutual
    pub by_complete : (v w : Value) → Agree test v w → agree_by test v w ≡ true
    by_complete (leaf a) (leaf b) h = (leaf_decides a b).1 h
    by_complete (reference y) (reference z) h = h
    by_complete (typed n v) (typed m w) h = and_from (bytes_eq n m) (agree_by test v w) ((bytes_eq-Decides n m).1 h.0)
        (by_complete v w h.1)
    by_complete (sequence vs) (sequence ws) h = each_by_complete vs ws h
    by_complete (bag vs) (bag ws) h =
        passed (is_crowd vs) (same_test (bag vs) (bag ws)) (agree_each_by test vs ws) h (λ s. test_complete (bag vs)
        (bag ws) (from_names vs s.0 ws s.1 s.2)) (λ s. each_by_complete vs ws s)
    by_complete _ _ h = absurd h

    pub each_by_complete : (vs ws : Values) → AgreeEach test vs ws → agree_each_by test vs ws ≡ true
    each_by_complete none none h = refl
    each_by_complete (more v vs) (more w ws) h =
        and_from (agree_by test v w) (agree_each_by test vs ws) (by_complete v w h.0)
        (each_by_complete vs ws h.1)
    each_by_complete _ _ h = absurd h
