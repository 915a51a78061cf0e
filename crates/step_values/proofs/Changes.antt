-- New numbers, told by what changed.
use Rattle.std.proofs.Common.{◌≡◌, ℕ, suc, ◌<◌, ◌≤◌, Bool, true, false, cond, leb, List, [], ◌∷◌, map, refl, sym, ap, ◌∙◌, arith}
use Rattle.std.proofs.lemmas.Bool.Decides.{nat_tests}
use Rattle.step_values.specs.Shapes.{Renumbers, changes, ChangesDecide}

pair_head : (a b : ℕ × ℕ) (xs ys : List (ℕ × ℕ)) → a ∷ xs ≡ b ∷ ys → a ≡ b
pair_head a b xs ys e = cc

pair_tail : (a b : ℕ × ℕ) (xs ys : List (ℕ × ℕ)) → a ∷ xs ≡ b ∷ ys → xs ≡ ys
pair_tail a b xs ys e = cc

head : (a b : ℕ) (xs ys : List ℕ) → a ∷ xs ≡ b ∷ ys → a ≡ b
head a b xs ys e = cc

tail : (a b : ℕ) (xs ys : List ℕ) → a ∷ xs ≡ b ∷ ys → xs ≡ ys
tail a b xs ys e = cc

-- changes behind a place stand behind it
abbrev From : ℕ → List (ℕ × ℕ) → Type 0
From k [] = Unit {0}
From k (c ∷ cs) = (k ≤ c.0) × From k cs

lower : (j k : ℕ) → j ≤ k → (cs : List (ℕ × ℕ)) → From k cs → From j cs
lower j k le [] h = tt
lower j k le (c ∷ cs) h = (omega (arith, le, h.0), lower j k le cs h.1)

stand : (limit : ℕ) (new : ℕ → ℕ) (k : ℕ) (ys : List ℕ) → From k (changes limit new k ys)
stand limit new k [] = tt
stand limit new k (y ∷ ys) = by (leb limit (new y)) (lower k (suc k) (omega arith) (changes limit new (suc k) ys)
    (stand limit new (suc k) ys))
  where
    by : (b : Bool) → From k (changes limit new (suc k) ys) → From k (cond b ((k, new y) ∷ changes limit new (suc k) ys)
        (changes limit new (suc k) ys))
    by true h = (omega arith, h)
    by false h = h

never : (k x : ℕ) (cs ds : List (ℕ × ℕ)) → From (suc k) ds → (k, x) ∷ cs ≡ ds → ⊥
never k x cs [] h e = absurd (cc)
never k x cs (d ∷ ds) h e = let same : k ≡ d.0 = ap (λ (p : ℕ × ℕ). p.0) (pair_head (k, x) d cs ds e) in
    absurd (omega (arith, same, h.0))

module _ (old new : ℕ → ℕ) (limit : ℕ) (r : Renumbers old new limit) where
  -- equal new numbers make equal changes
  told : (k : ℕ) (ys zs : List ℕ) → map new ys ≡ map new zs → changes limit new k ys ≡ changes limit new k zs
  told k [] [] e = refl
  told k [] (z ∷ zs) e = absurd (cc)
  told k (y ∷ ys) [] e = absurd (cc)
  told k (y ∷ ys) (z ∷ zs) e =
      let same = head (new y) (new z) (map new ys) (map new zs) e in
      let rest = told (suc k) ys zs (tail (new y) (new z) (map new ys) (map new zs) e) in
      λ i. cond (leb limit (same i)) ((k, same i) ∷ rest i) (rest i)

  kept : (y : ℕ) → leb limit (new y) ≡ false → new y ≡ old y
  kept y e = r.keeps y (let lt : new y < limit = grind (arith, nat_tests, e) in lt)

  tell : (k : ℕ) (ys zs : List ℕ) → map old ys ≡ map old zs → changes limit new k ys ≡ changes limit new k zs
      → map new ys ≡ map new zs
  tell k [] [] o e = refl
  tell k [] (z ∷ zs) o e = absurd (cc)
  tell k (y ∷ ys) [] o e = absurd (cc)
  tell k (y ∷ ys) (z ∷ zs) o e =
      by (leb limit (new y)) (leb limit (new z)) refl refl (λ c. tell (suc k) ys zs (tail (old y) (old z) (map old ys)
      (map old zs) o) c) e
    where
      cs : List (ℕ × ℕ)
      cs = changes limit new (suc k) ys

      ds : List (ℕ × ℕ)
      ds = changes limit new (suc k) zs

      by : (b c : Bool) → leb limit (new y) ≡ b → leb limit (new z) ≡ c
          → (changes limit new (suc k) ys ≡ changes limit new (suc k) zs → map new ys ≡ map new zs)
          → cond b ((k, new y) ∷ changes limit new (suc k) ys) (changes limit new (suc k) ys)
          ≡ cond c ((k, new z) ∷ changes limit new (suc k) zs) (changes limit new (suc k) zs)
          → new y ∷ map new ys ≡ new z ∷ map new zs
      by true true p q next f =
          let n : new y ≡ new z = ap (λ (x : ℕ × ℕ). x.1) (pair_head (k, new y) (k, new z) (changes limit new (suc k) ys)
          (changes limit new (suc k) zs) f) in
          let t = next (pair_tail (k, new y) (k, new z) (changes limit new (suc k) ys) (changes limit new (suc k) zs) f) in
          λ i. n i ∷ t i
      by true false p q next f = absurd (never k (new y) (changes limit new (suc k) ys) (changes limit new (suc k) zs)
          (stand limit new (suc k) zs) f)
      by false true p q next f = absurd (never k (new z) (changes limit new (suc k) zs) (changes limit new (suc k) ys)
          (stand limit new (suc k) ys) (sym f))
      by false false p q next f =
          let n : new y ≡ new z = kept y p ∙ head (old y) (old z) (map old ys) (map old zs) o ∙ sym (kept z q) in
          let t = next f in λ i. n i ∷ t i

pub changes_decide : ChangesDecide
changes_decide old new limit r ys zs o = (told old new limit r 0 ys zs, tell old new limit r 0 ys zs o)
