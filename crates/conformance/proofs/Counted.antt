-- Lists of names that have each name as often are reorderings of each other.
use Rattle.std.specs.Prelude.{◌≡◌, ℕ, ◌+◌, ◌<◌, ◌==◌, Bool, true, false, cond, List, [], ◌∷◌, ◌++◌, map, flat_map}
use Rattle.std.specs.List.{IsDistinct, AllByRecursion}
use Rattle.std.proofs.Common.{refl, ap, sym, subst, ◌∙◌, inl, inr, arith, eqb-true, eq-eqb}
use Rattle.std.proofs.lemmas.Bool.{ne_eqb, eqb-false}
use Rattle.std.proofs.lemmas.Map.Keys.{IsDistinct-head, IsDistinct-tail}
use Rattle.schema_semantics.specs.Names.{Among}
use Rattle.schema_semantics.proofs.Lists.{from-flat}
use Rattle.conformance.specs.Populations.{Instance}
use Rattle.conformance.specs.RuleLaws.{names}
use Rattle.conformance.specs.Meanings.{instance_data}
use Rattle.conformance.specs.AlikeValues.{IsDataReordering, unchanged, kept, swapped, joined}
use Rattle.express_logic.specs.Data as data_of

abbrev pub weight : Bool → ℕ
weight b = cond b 1 0

-- how often w stands in a list
abbrev pub count : ℕ → List ℕ → ℕ
count w [] = 0
count w (v ∷ vs) = weight (w == v) + count w vs

pub count_append : (w : ℕ) (xs ys : List ℕ) → count w (xs ++ ys) ≡ count w xs + count w ys
count_append w [] ys = omega arith
count_append w (x ∷ xs) ys = let rest = count_append w xs ys in omega (arith, rest)

pub count_absent : (w : ℕ) (xs : List ℕ) → (Among w xs → ⊥) → count w xs ≡ 0
count_absent w [] h = refl
count_absent w (x ∷ xs) h =
    let first : weight (w == x) ≡ 0 = ap weight (ne_eqb w x (λ e. h (inl (sym e)))) in
    let rest : count w xs ≡ 0 = count_absent w xs (λ m. h (inr m)) in
    omega (arith, first, rest)

-- a name that is counted stands there
count_there : (w : ℕ) (xs : List ℕ) → 0 < count w xs → Among w xs
count_there w [] h = absurd (omega (arith, h))
count_there w (x ∷ xs) h = by (w == x) refl h (count_there w xs)
  where
    by : (b : Bool) → (w == x) ≡ b → 0 < weight b + count w xs → (0 < count w xs → Among w xs) → Among w (x ∷ xs)
    by true e k later = inl (sym (eqb-true w x e))
    by false e k later = inr (later (omega (arith, k)))

pub count_map : (h : ℕ → ℕ) (w n : ℕ) (xs : List ℕ) → ((x : ℕ) → Among x xs → (w == h x) ≡ (n == x))
    → count w (map h xs) ≡ count n xs
count_map h w n [] same = refl
count_map h w n (x ∷ xs) same =
    let first : weight (w == h x) ≡ weight (n == x) = ap weight (same x (inl refl)) in
    let rest : count w (map h xs) ≡ count n xs = count_map h w n xs (λ z m. same z (inr m)) in
    omega (arith, first, rest)

-- lists of the names of instances, one for each instance
module _ (f : Instance → List ℕ) (own : (x : Instance) (v : ℕ) → Among v (f x) → x.name ≡ v) where
  pub count_nowhere : (w : ℕ) (is : List Instance) → ((x : Instance) → Among x is → x.name ≡ w → ⊥)
      → count w (flat_map f is) ≡ 0
  count_nowhere w is none = count_absent w (flat_map f is) absent
    where
      absent : Among w (flat_map f is) → ⊥
      absent m = let at = from-flat f w is m in none at.0 at.1 (own at.0 w at.2)

  apart : (n : ℕ) (is : List Instance) → AllByRecursion (λ v. (n == v) ≡ false) (names is) → (x : Instance)
      → Among x is → x.name ≡ n → ⊥
  apart n [] h x m e = elim m [ ]
  apart n (z ∷ is) h x (inl q) e =
      eqb-false n z.name h.0 (sym (ap (λ (i : Instance). i.name) q ∙ e))
  apart n (z ∷ is) h x (inr m) e = apart n is h.1 x m e

  pub count_flat : (x : Instance) (is : List Instance) → IsDistinct (◌==◌) (names is) → Among x is
      → count x.name (flat_map f is) ≡ count x.name (f x)
  count_flat x [] d m = elim m [ ]
  count_flat x (z ∷ is) d (inl q) =
      let all = count_append x.name (f z) (flat_map f is) in
      let named : z.name ≡ x.name = ap (λ (i : Instance). i.name) q in
      let rest : count x.name (flat_map f is) ≡ 0 =
      count_nowhere x.name is (λ u n e. apart z.name is (IsDistinct-head (◌==◌) z.name (names is) d) u n
      (e ∙ sym named)) in
      let first : count x.name (f z) ≡ count x.name (f x) = ap (λ (i : Instance). count x.name (f i)) q in
      omega (arith, all, rest, first)
  count_flat x (z ∷ is) d (inr m) =
      let all = count_append x.name (f z) (flat_map f is) in
      let rest : count x.name (flat_map f is) ≡ count x.name (f x) =
      count_flat x is (IsDistinct-tail (◌==◌) z.name (names is) d) m in
      let first : count x.name (f z) ≡ 0 = count_absent x.name (f z) (λ n.
      apart z.name is (IsDistinct-head (◌==◌) z.name (names is) d) x m (sym (own z x.name n))) in
      omega (arith, all, rest, first)

-- x, and what is left without it
record Pulled (x : ℕ) (ys : List ℕ) : Type 0 where
  rest : List ℕ
  order : IsDataReordering (instance_data (x ∷ rest)) (instance_data ys)
  counts : (w : ℕ) → count w ys ≡ weight (w == x) + count w rest

pull : (x : ℕ) (ys : List ℕ) → Among x ys → Pulled x ys
pull x [] m = elim m [ ]
pull x (y ∷ ys) (inl e) =
    subst (λ z. Pulled z (y ∷ ys)) e
    (record { rest = ys; order = unchanged (instance_data (y ∷ ys)); counts = λ w. refl })
pull x (y ∷ ys) (inr m) =
    let p = pull x ys m in
    record {
      rest = y ∷ p.rest;
      order = joined (swapped (data_of.instance x) (data_of.instance y) (instance_data p.rest))
          (kept (data_of.instance y) p.order);
      counts = λ w. let h = p.counts w in omega (arith, h);
    }

pub reordered : (xs ys : List ℕ) → ((w : ℕ) → count w xs ≡ count w ys) → IsDataReordering (instance_data xs) (instance_data ys)
reordered [] [] h = unchanged data_of.none
reordered [] (y ∷ ys) h =
    let same = h y in let one : weight (y == y) ≡ 1 = ap weight (eq-eqb y y refl) in
    absurd (omega (arith, same, one))
reordered (x ∷ xs) ys h =
    joined (kept (data_of.instance x) (reordered xs p.rest counted)) p.order
  where
    there : Among x ys
    there =
        let same = h x in let one : weight (x == x) ≡ 1 = ap weight (eq-eqb x x refl) in
        count_there x ys (omega (arith, same, one))

    p : Pulled x ys
    p = pull x ys there

    counted : (w : ℕ) → count w xs ≡ count w p.rest
    counted w = let same = h w in let more = p.counts w in omega (arith, same, more)
