-- A finer equivalence has a class more.
use Rattle.std.proofs.Common.{◌≡◌, ℕ, ◌∙◌, Bool, true, false, ◌||◌, List, [], ◌∷◌, ◌⊎◌, inl, inr, refl}
use Rattle.std.specs.Cmp.{IsEquivalence}
use Rattle.std.specs.List.{list_any, IsDistinct, AllByRecursion}
use Rattle.std.proofs.lemmas.Map.Steps.{list_any_congr}

-- E relates all that F relates
abbrev pub IsFiner : (ℕ → ℕ → Bool) → (ℕ → ℕ → Bool) → Type 0
IsFiner F E = (x y : ℕ) → F x y ≡ true → E x y ≡ true

none-all : (p : ℕ → Bool) (xs : List ℕ) → list_any p xs ≡ false → AllByRecursion (λ y. p y ≡ false) xs
none-all p [] h = tt
none-all p (x ∷ xs) h = case (p x) refl (none-all p xs)
  where
    case : (b : Bool) → p x ≡ b → (list_any p xs ≡ false → AllByRecursion (λ y. p y ≡ false) xs)
        → (p x ≡ false) × AllByRecursion (λ y. p y ≡ false) xs
    case true e later = absurd (cc (rw e at h))
    case false e later = (e, later (rw e at h))

all-none : (p : ℕ → Bool) (xs : List ℕ) → AllByRecursion (λ y. p y ≡ false) xs → list_any p xs ≡ false
all-none p [] h = refl
all-none p (x ∷ xs) h = rw h.0 (all-none p xs h.1)

any-finer : (E F : ℕ → ℕ → Bool) → IsFiner F E → (x : ℕ) (ys : List ℕ) → list_any (F x) ys ≡ true
    → list_any (E x) ys ≡ true
any-finer E F finer x [] h = h
any-finer E F finer x (y ∷ ys) h = case (F x y) refl (any-finer E F finer x ys)
  where
    second : (b : Bool) → list_any (E x) ys ≡ true → (b || list_any (E x) ys) ≡ true
    second true h = refl
    second false h = h

    case : (b : Bool) → F x y ≡ b → (list_any (F x) ys ≡ true → list_any (E x) ys ≡ true)
        → (E x y || list_any (E x) ys) ≡ true
    case true e later = rw (finer x y e) refl
    case false e later = second (E x y) (later (rw e at h))

finer-false : (E F : ℕ → ℕ → Bool) → IsFiner F E → (x y : ℕ) → E x y ≡ false → F x y ≡ false
finer-false E F finer x y e = case (F x y) refl
  where
    case : (b : Bool) → F x y ≡ b → F x y ≡ false
    case true f = absurd (let g = finer x y f in cc)
    case false f = f

all-finer : (E F : ℕ → ℕ → Bool) → IsFiner F E → (x : ℕ) (ys : List ℕ) → AllByRecursion (λ y. E x y ≡ false) ys
    → AllByRecursion (λ y. F x y ≡ false) ys
all-finer E F finer x [] h = tt
all-finer E F finer x (y ∷ ys) h = (finer-false E F finer x y h.0, all-finer E F finer x ys h.1)

pub distinct-finer : (E F : ℕ → ℕ → Bool) → IsFiner F E → (xs : List ℕ) → IsDistinct E xs → IsDistinct F xs
unfolding IsDistinct
distinct-finer E F finer [] h = tt
distinct-finer E F finer (x ∷ xs) h = (all-finer E F finer x xs h.0, distinct-finer E F finer xs h.1)

-- what E relates to a and to b, which E relates, isn't apart from itself
crossed : (E F : ℕ → ℕ → Bool) → IsEquivalence E → IsFiner F E → (a b z : ℕ) (zs : List ℕ) → E a b ≡ true
    → F a z ≡ true → AllByRecursion (λ y. E z y ≡ false) zs → list_any (F b) zs ≡ true → ⊥
crossed E F laws finer a b z zs ab az apart inb =
    let related = any-finer E F finer b zs inb in
    let to = list_any_congr laws a b zs ab in
    let from = list_any_congr laws a z zs (finer a z az) in
    let lacks = all-none (E z) zs apart in
    cc

-- of numbers that E tells apart, F can't relate one to a and one to b, where E relates the two and F doesn't
both : (E F : ℕ → ℕ → Bool) → IsEquivalence E → IsEquivalence F → IsFiner F E → (a b : ℕ) → E a b ≡ true
    → F a b ≡ false → (zs : List ℕ) → IsDistinct E zs → list_any (F a) zs ≡ true → list_any (F b) zs ≡ true → ⊥
unfolding IsDistinct
both E F laws more finer a b ab apart [] h ina inb = cc
both E F laws more finer a b ab apart (z ∷ zs) h ina inb =
    case (F a z) refl (F b z) refl (both E F laws more finer a b ab apart zs h.1)
  where
    case : (c : Bool) → F a z ≡ c → (d : Bool) → F b z ≡ d
        → (list_any (F a) zs ≡ true → list_any (F b) zs ≡ true → ⊥) → ⊥
    case true e true f later = let met = more.congr a z b e in let turned = more.symm z b in cc
    case true e false f later = crossed E F laws finer a b z zs ab e h.0 (rw f at inb)
    case false e true f later = crossed E F laws finer b a z zs (laws.symm b a ∙ ab) f h.0 (rw e at ina)
    case false e false f later = later (rw e at ina) (rw f at inb)

-- so one of the two is apart from all of them
pub one-apart : (E F : ℕ → ℕ → Bool) → IsEquivalence E → IsEquivalence F → IsFiner F E → (a b : ℕ) → E a b ≡ true
    → F a b ≡ false → (zs : List ℕ) → IsDistinct E zs → (x : ℕ) × ((x ≡ a) ⊎ (x ≡ b)) × IsDistinct F (x ∷ zs)
unfolding IsDistinct
one-apart E F laws more finer a b ab apart zs h = case (list_any (F a) zs) refl (list_any (F b) zs) refl
  where
    case : (c : Bool) → list_any (F a) zs ≡ c → (d : Bool) → list_any (F b) zs ≡ d
        → (x : ℕ) × ((x ≡ a) ⊎ (x ≡ b)) × IsDistinct F (x ∷ zs)
    case true e true f = absurd (both E F laws more finer a b ab apart zs h e f)
    case true e false f = (b, inr refl, (none-all (F b) zs f, distinct-finer E F finer zs h))
    case false e d f = (a, inl refl, (none-all (F a) zs e, distinct-finer E F finer zs h))
