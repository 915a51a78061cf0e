-- Names that are looked up in a set, as far as they are needed there.
use Rattle.std.proofs.Common.{◌≡◌, ℕ, zero, suc, ◌<◌, ◌≤◌, ◌+◌, ◌||◌, ◌==◌, Bool, true, false, List, [], ◌∷◌, ◌++◌, length, take, slice_index, nat_eq, if◌then◌else◌, refl, sym, ap, ◌∙◌, subst, arith}
use Rattle.std.proofs.lemmas.List.{take-append-le, length-append}
use Rattle.std.specs.List.{list_any}
use Rattle.indexmap.specs.IndexSet.{insert_key}
use Rattle.std.proofs.lemmas.Bool.Decides.{nat_tests}
use Rattle.step_structures.specs.Fits.{has_name}
use Rattle.step_records.specs.steps.Names.{AtMost, AreFirst, IsKept}

-- the names in the set
pub has_key : (k : ℕ) (names : List ℕ) → has_name k names ≡ list_any (nat_eq k) names
has_key k [] = refl
has_key k (n ∷ ns) = ap (λ b. nat_eq k n || b) (has_key k ns)

-- names beyond the greatest
not_same : (n m g : ℕ) → m ≤ g → g < n → (n == m) ≡ false
not_same n m g h k = grind (arith, nat_tests)

pub beyond : (n g : ℕ) (names : List ℕ) → AtMost g names → g < n → has_name n names ≡ false
beyond n g [] h k = refl
beyond n g (m ∷ ms) h k = rw (not_same n m g h.0 k) (beyond n g ms h.1 k)

pub at_most_more : (g k : ℕ) (names : List ℕ) → AtMost g names → g ≤ k → AtMost k names
at_most_more g k [] h e = tt
at_most_more g k (m ∷ ms) h e = (omega (arith, h.0, e), at_most_more g k ms h.1 e)

at_most_push : (g n : ℕ) (names : List ℕ) → AtMost g names → n ≤ g → AtMost g (names ++ n ∷ [])
at_most_push g n [] h e = (e, tt)
at_most_push g n (m ∷ ms) h e = (h.0, at_most_push g n ms h.1 e)

pub at_most_next : (g k n : ℕ) (names : List ℕ) → AtMost g names → g ≤ k → n ≤ k → AtMost k (names ++ n ∷ [])
at_most_next g k n names h e f = at_most_push k n names (at_most_more g k names h e) f

or_none : (b : Bool) → (b || false) ≡ b
or_none true = refl
or_none false = refl

or_assoc : (a b c : Bool) → (a || (b || c)) ≡ ((a || b) || c)
or_assoc true b c = refl
or_assoc false b c = refl

has_both : (n : ℕ) (xs ys : List ℕ) → has_name n (xs ++ ys) ≡ has_name n xs || has_name n ys
has_both n [] ys = refl
has_both n (x ∷ xs) ys = ap (λ b. n == x || b) (has_both n xs ys) ∙ or_assoc (n == x) (has_name n xs) (has_name n ys)

-- a name that is put into a set is there, and the others are as they were

inserted : (n k : ℕ) (xs : List ℕ) (is : Bool) → list_any (nat_eq k) xs ≡ is
    → has_name n (if is then xs else xs ++ k ∷ []) ≡ has_name n xs || (n == k)
inserted n k xs false h = has_both n xs (k ∷ []) ∙ ap (λ b. has_name n xs || b) (or_none (n == k))
inserted n k xs true h = there (n == k) refl
  where
    there : (same : Bool) → (n == k) ≡ same → has_name n xs ≡ has_name n xs || same
    there false e = sym (or_none (has_name n xs))
    there true e =
        let is : n ≡ k = grind (arith, nat_tests) in
        let held : has_name n xs ≡ true = ap (λ m. has_name m xs) is ∙ has_key k xs ∙ h in
        rw held refl

pub has_inserted : (n k : ℕ) (xs : List ℕ) → has_name n (insert_key nat_eq xs k) ≡ has_name n xs || (n == k)
has_inserted n k xs = inserted n k xs (list_any (nat_eq k) xs) refl

-- one name more of a list
has_more : (n i : ℕ) (xs : List ℕ) → i < length xs
    → has_name n (take (suc i) xs) ≡ has_name n (take i xs) || (n == slice_index xs i)
has_more n i [] h = absurd (omega (arith, h))
has_more n zero (x ∷ xs) h = or_none (n == x)
has_more n (suc i) (x ∷ xs) h = ap (λ b. n == x || b) (has_more n i xs (omega (arith, h)))
    ∙ or_assoc (n == x) (has_name n (take i xs)) (n == slice_index xs i)

pub first_next : (set : List ℕ) (i : ℕ) (names : List ℕ) → AreFirst set i names → i < length names
    → AreFirst (insert_key nat_eq set (slice_index names i)) (i + 1) names
first_next set i names f h =
    let next : suc i ≡ i + 1 = omega arith in
    subst (λ k. AreFirst (insert_key nat_eq set (slice_index names i)) k names) next (record {
      within = h;
      same = λ n. has_inserted n (slice_index names i) set ∙ ap (λ b. b || (n == slice_index names i)) (f.same n)
          ∙ sym (has_more n i names h);
    })

take_all : (i : ℕ) (xs : List ℕ) → length xs ≤ i → take i xs ≡ xs
take_all zero [] h = refl
take_all (suc i) [] h = refl
take_all zero (x ∷ xs) h = absurd (omega (arith, h))
take_all (suc i) (x ∷ xs) h = ap (λ l. x ∷ l) (take_all i xs (omega (arith, h)))

pub first_all : (set : List ℕ) (i : ℕ) (names : List ℕ) → AreFirst set i names → length names ≤ i → (n : ℕ)
    → has_name n set ≡ has_name n names
first_all set i names f h n = f.same n ∙ ap (has_name n) (take_all i names h)

pub kept_push : (names : List ℕ) (g : ℕ) (set : List ℕ) (i k n : ℕ) → IsKept names g set i → g ≤ k → n ≤ k
    → IsKept (names ++ n ∷ []) k set i
kept_push names g set i k n h e f = record {
  bound = at_most_next g k n names h.bound e f;
  first = record {
    within = omega (arith, h.first.within, length-append names (n ∷ []));
    same = λ m. h.first.same m ∙ ap (has_name m) (sym (take-append-le i names (n ∷ []) h.first.within));
  };
}
