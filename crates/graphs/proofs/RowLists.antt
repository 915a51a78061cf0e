-- A graph kept as a list of values of which each has the numbers that its edges lead to.
use Rattle.std.proofs.Common.{◌≡◌, ℕ, zero, suc, set, eqb, ◌↔◌, nat_lt, ◌++◌, take, drop, ◌+◌, ◌<◌, ◌≤◌, ◌∙◌, sym, Bool, true, false, ◌||◌, ◌&&◌, List, [], ◌∷◌, get_or, length, map, refl, ap, subst, arith, All, ◌⊎◌, inl, inr}
use Rattle.std.proofs.lemmas.List.{get_or-map, get_or_default, take_all, append-nil}
use Rattle.std.proofs.Math.ListN.{drop_of_length-le}
use Rattle.std.proofs.lemmas.List.{length-map}
use Rattle.std.specs.List.{IsDistinct}
use Rattle.graphs.specs.Graphs.{IsGraph, StaysBelow, has, next, Step, Chain, Reaches}
use Rattle.graphs.specs.Closures.{IsClosure}
use Rattle.graphs.specs.Rounds.{added, IsSearched}
use Rattle.std.proofs.lemmas.Bool.Decides.{nat_tests}
use Rattle.graphs.proofs.Found.{at-member, member-at, has-more, has-added}
use Rattle.graphs.proofs.Searching.{nothing, either, searched-first, searched-next, found-within, found-few}

module _ {X : Type 0} (f : X → List ℕ) where
  pub row-is : (edges : List X) (a : ℕ) (v : X) (row : List ℕ) → a < length edges → v ≡ get_or edges a v → row ≡ f v
      → row ≡ next (map f edges) a
  row-is edges a v row lt at is = is ∙ ap f at ∙ sym (get_or-map f edges a v [] lt)

  pub row-within : (edges : List X) (a : ℕ) (v : X) (row : List ℕ) (n : ℕ) → IsGraph (map f edges) → a < length edges
      → v ≡ get_or edges a v → row ≡ f v → n ≡ length edges → All (λ y. y < n) row
  row-within edges a v row n h lt at is same k d within =
      let same-row = row-is edges a v row lt at is in
      let member : has (next (map f edges) a) (get_or row k d) ≡ true =
      subst (λ (r : List ℕ). has r (get_or row k d) ≡ true) same-row (at-member row k d within) in
      let bound : get_or row k d < length (map f edges) = h a (get_or row k d) member in
      let long : length (map f edges) ≡ length edges = length-map edges f in
      omega arith

  pub row-stays : (edges : List X) (a : ℕ) (v : X) (row : List ℕ) (n m : ℕ) → StaysBelow n (map f edges)
      → a < length edges → v ≡ get_or edges a v → row ≡ f v → n ≡ m → All (λ y. y < m) row
  row-stays edges a v row n m h lt at is same k d within =
      let same-row = row-is edges a v row lt at is in
      let member : has (next (map f edges) a) (get_or row k d) ≡ true =
      subst (λ (r : List ℕ). has r (get_or row k d) ≡ true) same-row (at-member row k d within) in
      let bound = h a (get_or row k d) member in
      omega (arith, bound, same)

  pub begins : (edges : List X) (a : ℕ) (v : X) (row first found : List ℕ) → a < length edges → v ≡ get_or edges a v
      → row ≡ f v → first ≡ [] → found ≡ added first row → IsSearched (map f edges) a found 0
  begins edges a v row first found lt at is none all =
      let same-row = row-is edges a v row lt at is in
      let same : added [] (next (map f edges) a) ≡ found = cc in
      subst (λ (xs : List ℕ). IsSearched (map f edges) a xs 0) same (searched-first (map f edges) a)

  pub goes-on : (edges : List X) (a : ℕ) (v : X) (row old found : List ℕ) (n x : ℕ) → x ≡ get_or old n x
      → n < length old → IsSearched (map f edges) a old n → x < length edges → v ≡ get_or edges x v → row ≡ f v
      → found ≡ added old row → IsSearched (map f edges) a found (n + 1)
  goes-on edges a v row old found n x here lt h within at is all =
      let same-row = row-is edges x v row within at is in
      let other : x ≡ get_or old n 0 = here ∙ get_or_default old n x 0 lt in
      let same : added old (next (map f edges) (get_or old n 0)) ≡ found = cc in
      subst (λ (xs : List ℕ). IsSearched (map f edges) a xs (n + 1)) same (searched-next (map f edges) a old n h lt)

  pub item-within : (edges : List X) (a n k x : ℕ) (found : List ℕ) → IsGraph (map f edges)
      → IsSearched (map f edges) a found n → k < length found → x ≡ get_or found k x → x < length edges
  item-within edges a n k x found h s lt at =
      let bound : get_or found k x < length (map f edges) = found-within (map f edges) a found n k x h s lt in
      let long : length (map f edges) ≡ length edges = length-map edges f in
      omega arith

  pub each-within : (edges : List X) (a n k d : ℕ) (found : List ℕ) → IsGraph (map f edges)
      → IsSearched (map f edges) a found n → k < length found → get_or found k d < length edges
  each-within edges a n k d found h s lt =
      let bound : get_or found k d < length (map f edges) = found-within (map f edges) a found n k d h s lt in
      let long : length (map f edges) ≡ length edges = length-map edges f in
      omega arith

  pub few : (edges : List X) (a n : ℕ) (found : List ℕ) → IsGraph (map f edges) → IsSearched (map f edges) a found n
      → length found ≤ length edges
  few edges a n found h s =
      let bound = found-few (map f edges) a found n h s in
      let long : length (map f edges) ≡ length edges = length-map edges f in
      omega arith

  -- one row more
  pub next-before : (rows : List X) (row : X) (a : ℕ) → a < length rows
      → next (map f rows) a ≡ next (map f (rows ++ row ∷ [])) a
  next-before [] row a lt = absurd (omega arith)
  next-before (r ∷ rows) row zero lt = refl
  next-before (r ∷ rows) row (suc a) lt = next-before rows row a (omega arith)

  pub next-last : (rows : List X) (row : X) → f row ≡ next (map f (rows ++ row ∷ [])) (length rows)
  next-last [] row = refl
  next-last (r ∷ rows) row = next-last rows row

  -- what holds of each row so far, and of the one more, holds of each
  pub rows-more : (P : ℕ → List ℕ → Type 0) (rows new : List X) (row : X) (n : ℕ) → length rows ≡ n → new ≡ rows
      ++ row ∷ [] → ((a : ℕ) → a < n → P a (next (map f rows) a)) → P n (f row) → (a : ℕ) → a < n + 1
      → P a (next (map f new) a)
  rows-more P rows new row n same is h last a lt =
      subst (λ (xs : List X). P a (next (map f xs) a)) (sym is) (split (nat_lt a n) refl)
    where
      split : (c : Bool) → nat_lt a n ≡ c → P a (next (map f (rows ++ row ∷ [])) a)
      split true e = let below : a < n = grind (arith, nat_tests) in
          subst (P a) (next-before rows row a (omega arith)) (h a below)
      split false e =
          let here : a ≡ length rows = grind (arith, nat_tests) in
          let at : n ≡ a = omega arith in
          subst (λ (k : ℕ). P k (next (map f (rows ++ row ∷ [])) k)) (sym here)
          (subst (P (length rows)) (next-last rows row) (subst (λ (k : ℕ). P k (f row)) (sym same) last))

  pub beyond : (rows : List X) (a : ℕ) → length rows ≤ a → next (map f rows) a ≡ []
  beyond [] a h = refl
  beyond (r ∷ rows) zero h = absurd (omega arith)
  beyond (r ∷ rows) (suc a) h = beyond rows a (omega arith)

-- A slice that was lent is written back.
pub written : (new old : List Bool) (n : ℕ) → length new ≡ length old → n ≡ length old
    → take n (new ++ drop (length new) old) ≡ new
written new old n same all =
    let none : drop (length new) old ≡ [] = drop_of_length-le old (omega arith) in
    let here : take n (new ++ drop (length new) old) ≡ take n (new ++ []) =
    ap (λ (r : List Bool). take n (new ++ r)) none in
    let plain : take n (new ++ []) ≡ take n new = ap (take n) (append-nil new) in
    here ∙ plain ∙ take_all n new (omega arith)

module _ {X : Type 0} (f : X → List ℕ) where
  -- rows for all numbers
  pub closes : (edges rows : List X) (n : ℕ) → n ≡ length edges → length rows ≡ n
      → ((a : ℕ) → a < n → (b : ℕ) → Step (map f rows) a b ↔ Reaches (map f edges) a b)
      → ((a : ℕ) → a < n → IsDistinct eqb (next (map f rows) a)) → IsClosure (map f edges) (map f rows)
  closes edges rows n all long h once = record {
    same = length-map rows f ∙ long ∙ all ∙ sym (length-map edges f);
    reached = λ a b. both a b (nat_lt a n) refl;
    once = λ a. each a (nat_lt a n) refl;
  }
    where
      both : (a b : ℕ) (c : Bool) → nat_lt a n ≡ c → Step (map f rows) a b ↔ Reaches (map f edges) a b
      both a b true e = h a (grind (arith, nat_tests)) b
      both a b false e =
          let far : n ≤ a = grind (arith, nat_tests) in
          let none : next (map f edges) a ≡ [] = beyond f edges a (omega arith) in
          let empty : next (map f rows) a ≡ [] = beyond f rows a (omega arith) in (
            (λ s. absurd (false-true (ap (λ (r : List ℕ). has r b) (sym empty) ∙ s))),
            (λ r. absurd (starts a b none r.0 r.1)),
          )
        where
          false-true : false ≡ true → ⊥
          false-true e = cc

          starts : (a b : ℕ) → next (map f edges) a ≡ [] → (ms : List ℕ) → Chain (Step (map f edges)) a ms b → ⊥
          starts a b none [] s = false-true (ap (λ (r : List ℕ). has r b) (sym none) ∙ s)
          starts a b none (m ∷ ms) s = false-true (ap (λ (r : List ℕ). has r m) (sym none) ∙ s.0)

      each : (a : ℕ) (c : Bool) → nat_lt a n ≡ c → IsDistinct eqb (next (map f rows) a)
      each a true e = once a (grind (arith, nat_tests))
      each a false e =
          let far : n ≤ a = grind (arith, nat_tests) in
          let empty : next (map f rows) a ≡ [] = beyond f rows a (omega arith) in
          subst (IsDistinct eqb) (sym empty) nothing

module _ {X : Type 0} (f : X → List ℕ) where
  pub next-written : (rows : List X) (a : ℕ) (row : X) → a < length rows → next (map f (set rows a row)) a ≡ f row
  next-written [] a row lt = absurd (omega arith)
  next-written (r ∷ rows) zero row lt = refl
  next-written (r ∷ rows) (suc a) row lt = next-written rows a row (omega arith)

  pub next-unwritten : (rows : List X) (a : ℕ) (row : X) (b : ℕ) → (b ≡ a → ⊥)
      → next (map f (set rows a row)) b ≡ next (map f rows) b
  next-unwritten [] a row b ne = refl
  next-unwritten (r ∷ rows) zero row zero ne = absurd (ne refl)
  next-unwritten (r ∷ rows) zero row (suc b) ne = refl
  next-unwritten (r ∷ rows) (suc a) row zero ne = refl
  next-unwritten (r ∷ rows) (suc a) row (suc b) ne = next-unwritten rows a row b (λ (e : b ≡ a). ne (ap suc e))

-- one row has one number more
pub spread : (o t r n : Bool) → ((o || (t && n)) || (r && n)) ≡ (o || ((t || r) && n))
spread true t r n = refl
spread false true r true = refl
spread false true true false = refl
spread false true false false = refl
spread false false r n = refl

or-none : (o : Bool) → (o || false) ≡ o
or-none true = refl
or-none false = refl

module _ {X : Type 0} (f : X → List ℕ) where
  pub row-added : (rows new : List X) (row number : ℕ) (v : X) → row < length rows → new ≡ set rows row v
      → f v ≡ next (map f rows) row
      ++ number ∷ [] → (b c : ℕ)
      → has (next (map f new) b) c ≡ (has (next (map f rows) b) c || (eqb b row && eqb c number))
  row-added rows new row number v lt is at b c = ap (λ (xs : List X). has (next (map f xs) b) c) is
      ∙ case (eqb b row) refl
    where
      case : (e : Bool) → eqb b row ≡ e
          → has (next (map f (set rows row v)) b) c ≡ (has (next (map f rows) b) c || (e && eqb c number))
      case true e =
          let same : b ≡ row = grind (arith, nat_tests) in
          subst (λ (x : ℕ). has (next (map f (set rows row v)) x) c ≡ (has (next (map f rows) x) c || eqb c number))
          (sym same) (ap (λ (xs : List ℕ). has xs c) (next-written f rows row v lt ∙ at)
          ∙ has-more (next (map f rows) row) number c)
      case false e =
          ap (λ (xs : List ℕ). has xs c)
          (next-unwritten f rows row v b
          (λ (same : b ≡ row). (let is : eqb b row ≡ true = grind (arith, nat_tests) in absurd (cc))))
          ∙ sym (or-none (has (next (map f rows) b) c))

-- what is added stays below a bound
pub added-within : (found row new : List ℕ) (n m : ℕ) → ((y : ℕ) → has found y ≡ true → y < n) → All (λ y. y < n) row
    → new ≡ added found row → m ≡ n → (y : ℕ) → has new y ≡ true → y < m
added-within found row new n m h all is same y e =
    which (either (has found y) (has row y) (sym (has-added found row y) ∙ ap (λ (ys : List ℕ). has ys y) (sym is) ∙ e))
  where
    which : (has found y ≡ true) ⊎ (has row y ≡ true) → y < m
    which (inl old) = let lt = h y old in omega (arith, lt, same)
    which (inr more) = let at = member-at row y more in let here : get_or row at.0 0 < n = all at.0 0 at.1 in
        let value = at.2 in omega (arith, here, value, same)

pub all-within : (found : List ℕ) (n : ℕ) → ((y : ℕ) → has found y ≡ true → y < n) → All (λ y. y < n) found
all-within found n h k d lt = h (get_or found k d) (at-member found k d lt)
