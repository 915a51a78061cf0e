-- Type words in order, and rows with them so.
use Rattle.std.proofs.Common.{◌≡◌, ◌<◌, ℕ, zero, suc, ◌+◌, Bool, true, false, cond, List, [], ◌∷◌, ◌++◌, length, take, drop, get_or, set, add-one, drop-cons, arith, Some, nat_eq, Less, rules, refl, sym, ◌∙◌, ap, subst, inl, inr}
use Rattle.std.specs.Prelude.{◌==◌, ◌||◌, map, IsPermutation, Vec}
use Rattle.std.specs.Cmp.{on_total}
use Rattle.std.specs.Cmp.Rules.{comparing}
use Rattle.std.specs.Cmp.Lexicographic.{slice_cmp, pointwise}
use Rattle.std.specs.List.{AllZip, AllByRecursion, IsDistinct, list_any, dedup, dedup_from}
use Rattle.std.specs.List.Retain.{IsFiltered, DiffersFromLast}
use Rattle.std.specs.List.Sorted.{IsStrictlySortedBy, IsSorted}
use Rattle.std.specs.Ordering.{nat_cmp, on, eq_by_cmp}
use Rattle.std.specs.Str.{bytes_eq}
use Rattle.std.proofs.lemmas.Cmp.{nat_list_cmp_total}
use Rattle.std.proofs.Math.Seq.{take-suc, take-suc-set, take-append_seam}
use Rattle.std.proofs.lemmas.List.{length-set, drop-set-lt}
use Rattle.std.proofs.lemmas.List.Elements.{AllZip-push, length_all_zip}
use Rattle.std.proofs.lemmas.List.Filters.{dedup_is}
use Rattle.std.proofs.lemmas.List.Kept.{IsStrictlySortedBy-dedup}
use Rattle.std.proofs.lemmas.List.Sorted.{list_any-IsPermutation}
use Rattle.std.proofs.lemmas.Slice.Eq.{bytes_eq-Decides}
use Rattle.step_literals.specs.declared.literal.Word.{Word}
use Rattle.value_equality.specs.declared.row.RowHead.{RowHead}
use Rattle.step_values.specs.References.{EachReferenceOf}
use Rattle.value_equality.specs.Rows.{Row, names, row_at, IsName, IsPopulation, AreFew}
use Rattle.value_equality.specs.SortedTypes.{AreInOrder, IsSettled}
use Rattle.step_values.specs.Views.{word_of}
use Rattle.step_values.specs.Values.{Values}
use Rattle.value_equality.specs.steps.ComputedHeads.{SettlesHead, SettlesTypes}
use Rattle.value_equality.specs.Views.{Head, heads_seen, type_lists_of, rows_from, types_at}
use Rattle.value_equality.proofs.Lookup.{row_cases, row_here, row_later, held_name, name_held}
use Rattle.value_equality.proofs.Placing.{name_stands}
use Rattle.step_values.proofs.References.{each_weaker_of}

any_map : (p : List ℕ → Bool) (ws : List Word) → list_any p (map word_of ws) ≡ list_any (λ w. p (word_of w)) ws
any_map p [] = refl
any_map p (w ∷ ws) = ap (λ b. p (word_of w) || b) (any_map p ws)

sorted_map : (ws : List Word) → IsStrictlySortedBy (on word_of (slice_cmp nat_cmp)) ws
    → IsStrictlySortedBy (slice_cmp nat_cmp) (map word_of ws)
unfolding IsStrictlySortedBy
sorted_map [] s = tt
sorted_map (w ∷ ws) s = (below ws s.0, sorted_map ws s.1)
  where
    below : (vs : List Word) → AllByRecursion (λ v. on word_of (slice_cmp nat_cmp) w v ≡ Less) vs
        → AllByRecursion (λ v. slice_cmp nat_cmp (word_of w) v ≡ Less) (map word_of vs)
    below [] h = tt
    below (v ∷ vs) h = (h.0, below vs h.1)

-- a test that equal words pass alike finds one after `dedup` exactly where it did before
module _ {A : Type 0} (same : A → A → Bool) (p : A → Bool) (alike : (x y : A) → same x y ≡ true → p x ≡ p y) where
  any_dedup_from : (k : A) (xs : List A) → list_any p (dedup_from same k xs) ≡ (p k || list_any p xs)
  any_dedup_from k [] = refl
  any_dedup_from k (x ∷ xs) = go (same x k) refl (any_dedup_from k xs) (any_dedup_from x xs)
    where
      twice : (a b c : Bool) → a ≡ b → (b || c) ≡ (b || (a || c))
      twice true b c e = let t : b ≡ true = sym e in ap (λ d. d || c) t ∙ ap (λ d. d || true) (sym t)
      twice false b c e = refl

      go : (b : Bool) → same x k ≡ b → list_any p (dedup_from same k xs) ≡ (p k || list_any p xs)
          → list_any p (dedup_from same x xs) ≡ (p x || list_any p xs)
          → list_any p (cond b (dedup_from same k xs) (k ∷ dedup_from same x xs)) ≡ (p k || (p x || list_any p xs))
      go true e here there = here ∙ twice (p x) (p k) (list_any p xs) (alike x k e)
      go false e here there = ap (λ b. p k || b) there

  any_dedup : (xs : List A) → list_any p (dedup same xs) ≡ list_any p xs
  any_dedup [] = refl
  any_dedup (x ∷ xs) = any_dedup_from x xs

module _ (w : List ℕ) where
  alike_words : (x y : Word) → on word_of (pointwise nat_eq) x y ≡ true → bytes_eq w (word_of x) ≡ bytes_eq w
      (word_of y)
  alike_words x y e = ap (bytes_eq w) ((bytes_eq-Decides (word_of x) (word_of y)).0 e)

ties : (x y : Word) → on word_of (pointwise nat_eq) x y ≡ eq_by_cmp (on word_of (slice_cmp nat_cmp)) x y
ties x y = search (comparing, rules)

-- words that were sorted, and then left out where they stand again
pub sorted_words : (old sorted new : List Word) → IsPermutation old sorted → IsSorted (on word_of (slice_cmp nat_cmp))
    sorted → IsFiltered (DiffersFromLast (on word_of (pointwise nat_eq))) [] sorted new
    → AreInOrder (map word_of old) (map word_of new)
sorted_words old sorted new reordered up kept =
    let is : new ≡ dedup (on word_of (pointwise nat_eq)) sorted = dedup_is (on word_of (pointwise nat_eq)) sorted new
    kept in
    record {
      in_order = sorted_map new (subst (IsStrictlySortedBy (on word_of (slice_cmp nat_cmp))) (sym is)
          (IsStrictlySortedBy-dedup (on_total word_of nat_list_cmp_total) ties sorted up));
      same = λ w.
          any_map (bytes_eq w) new
          ∙ ap (list_any (λ v. bytes_eq w (word_of v))) is
          ∙ any_dedup (on word_of (pointwise nat_eq)) (λ v. bytes_eq w (word_of v)) (alike_words w) sorted
          ∙ sym (list_any-IsPermutation (λ v. bytes_eq w (word_of v)) old sorted reordered)
          ∙ sym (any_map (bytes_eq w) old);
    }

pub names_settled : (rs qs : List Row) → AllZip IsSettled rs qs → names qs ≡ names rs
names_settled [] [] z = refl
names_settled [] (q ∷ qs) z = absurd z
names_settled (r ∷ rs) [] z = absurd z
names_settled (r ∷ rs) (q ∷ qs) z = let first = z.0.name in let rest = names_settled rs qs z.1 in cc

pub few_settled : (rs qs : List Row) → AllZip IsSettled rs qs → AreFew rs → AreFew qs
few_settled rs qs z few = omega (arith, few, length_all_zip IsSettled rs qs z)

row_settled : (rs qs : List Row) → AllZip IsSettled rs qs → (x : ℕ) (q : Row) → row_at qs x ≡ Some q
    → (r : Row) × (row_at rs x ≡ Some r) × (r.values ≡ q.values)
row_settled [] [] z x q n = absurd (cc)
row_settled [] (p ∷ qs) z x q n = absurd z
row_settled (r ∷ rs) [] z x q n = absurd z
row_settled (r ∷ rs) (p ∷ qs) z x q n =
    elim (row_cases p qs x q n) [
      | inl here ↦ (
        r,
        row_here r rs x (sym z.0.name ∙ here.0),
        sym z.0.values ∙ ap (λ (s : Row). s.values) here.1,
      )
      | inr there ↦ (
          let later = row_settled rs qs z.1 x q there.1 in
          (later.0, row_later r rs x (ap (λ n. n == x) (sym z.0.name) ∙ there.0) ∙ later.1, later.2)
          )
    ]

pub population_settled : (rs qs : List Row) → AllZip IsSettled rs qs → IsPopulation rs → IsPopulation qs
population_settled rs qs z population = record {
  distinct = subst (IsDistinct (◌==◌)) (sym (names_settled rs qs z)) population.distinct;
  closed = λ x q n.
      let r = row_settled rs qs z x q n in
      subst (EachReferenceOf (IsName qs)) r.2 (each_weaker_of (IsName rs) (IsName qs) named r.0.values
      (population.closed x r.0 r.1));
}
  where
    named : (y : ℕ) → IsName rs y → IsName qs y
    named y m =
        held_name qs y
        (sym (name_stands qs y) ∙ ap (list_any (nat_eq y)) (names_settled rs qs z) ∙ name_stands rs y
        ∙ name_held rs y m)

-- a step of a loop that settles lists in place
module _ {Z : Type 0} (first lists : List (Vec Word Z)) (i : ℕ) (k j : Vec Word Z) (len : length lists ≡ length first)
    (left : drop i lists ≡ drop i first) (within : i < length lists) (at : k ≡ get_or lists i k) where
  ahead : get_or lists i k ∷ drop (suc i) lists ≡ get_or first i k ∷ drop (suc i) first
  ahead = sym (drop-cons lists i k within) ∙ left ∙ drop-cons first i k (omega (arith, len, within))

  pub settled_len : length (set lists i j) ≡ length first
  settled_len = length-set lists i j ∙ len

  pub settled_left : drop (i + 1) (set lists i j) ≡ drop (i + 1) first
  settled_left = rw add-one (drop-set-lt (suc i) lists i j (omega arith) ∙ (let e = ahead in cc))

  pub settled_done : AllZip SettlesTypes (take i first) (take i lists) → SettlesTypes (get_or lists i k) j
      → AllZip SettlesTypes (take (i + 1) first) (take (i + 1) (set lists i j))
  settled_done done settles =
      let here : k ≡ get_or first i k = at ∙ (let e = ahead in cc) in
      let before : take (i + 1) first ≡ take i first ++ k ∷ [] =
      rw add-one (take-suc first i k (omega (arith, len, within)) ∙ ap (λ s. take i first ++ s ∷ []) (sym here)) in
      let after : take (i + 1) (set lists i j) ≡ take i lists ++ j ∷ [] = rw add-one (take-suc-set lists i j within) in
      subst (λ (t : List (Vec Word Z)). AllZip SettlesTypes t (take (i + 1) (set lists i j))) (sym before)
      (subst (λ (t : List (Vec Word Z)). AllZip SettlesTypes (take i first ++ k ∷ []) t) (sym after)
      (AllZip-push SettlesTypes (take i first) (take i lists) k j done (subst (λ (t : Vec Word Z). SettlesTypes t j) (sym at)
      settles)))

none_in_order : AreInOrder [] []
unfolding IsStrictlySortedBy
none_in_order = record { in_order = tt; same = λ w. refl }

-- the types of a kind
types_settled : {Z : Type 0} (ks js : List (Vec Word Z)) → AllZip SettlesTypes ks js → (n : ℕ)
    → AreInOrder (types_at (type_lists_of ks) n) (types_at (type_lists_of js) n)
types_settled [] [] z n = none_in_order
types_settled [] (j ∷ js) z n = absurd z
types_settled (k ∷ ks) [] z n = absurd z
types_settled (k ∷ ks) (j ∷ js) z zero = z.0
types_settled (k ∷ ks) (j ∷ js) z (suc n) = types_settled ks js z.1 n

pub heads_settled : {Z : Type 0} (ks js : List (Vec Word Z)) → AllZip SettlesTypes ks js → (hs : List RowHead)
    → AllZip SettlesHead (heads_seen (type_lists_of ks) hs) (heads_seen (type_lists_of js) hs)
heads_settled ks js z [] = tt
heads_settled ks js z (h ∷ hs) = (
  λ vs. record { name = refl; section = refl; types = types_settled ks js z h.type_list; values = refl },
  heads_settled ks js z hs,
)

pub rows_settled : (hs gs : List Head) (rows : List Values) → AllZip SettlesHead hs gs
    → AllZip IsSettled (rows_from hs rows) (rows_from gs rows)
rows_settled [] [] rows z = tt
rows_settled [] (g ∷ gs) rows z = absurd z
rows_settled (h ∷ hs) [] rows z = absurd z
rows_settled (h ∷ hs) (g ∷ gs) [] z = tt
rows_settled (h ∷ hs) (g ∷ gs) (vs ∷ rows) z = (z.0 vs, rows_settled hs gs rows z.1)

-- a list of which all is replaced
whole : {A : Type 0} (n : ℕ) (old new : List A) → n ≡ length new → take n (new ++ drop (length new) old) ≡ new
whole n old new e = ap (λ k. take k (new ++ drop (length new) old)) e ∙ take-append_seam new (drop (length new) old)

pub whole_settled : {Z : Type 0} (n : ℕ) (old new : List (Vec Word Z)) → n ≡ length old → AllZip SettlesTypes old new
    → take n (new ++ drop (length new) old) ≡ new
whole_settled n old new e z = whole n old new (e ∙ length_all_zip SettlesTypes old new z)
