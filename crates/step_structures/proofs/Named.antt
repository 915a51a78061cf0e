-- The instances of a structure that fits, and their names.
use Rattle.std.specs.Prelude.{◌≡◌, ℕ, ◌==◌, ◌||◌, Bool, true, false, List, [], ◌∷◌, ◌++◌, map}
use Rattle.std.specs.List.{IsDistinct, AllByRecursion}
use Rattle.std.proofs.Common.{refl, sym, ap, ◌∙◌, eqb-true, eq-eqb}
use Rattle.std.proofs.lemmas.Bool.{or_parts}
use Rattle.step_structures.specs.Trees.{ExchangeRow}
use Rattle.step_structures.specs.Fits.{the_rules, FitsRows, has_name}

abbrev names_in : List ExchangeRow → List ℕ
names_in rows = map (λ (r : ExchangeRow). r.name) rows

turned : (a b : ℕ) → (a == b) ≡ false → (b == a) ≡ false
turned a b e = by (b == a) refl
  where
    by : (c : Bool) → (b == a) ≡ c → c ≡ false
    by false f = refl
    by true f = sym (eq-eqb a b (sym (eqb-true b a f))) ∙ e

has_last : (n m : ℕ) (xs : List ℕ) → has_name n (xs ++ m ∷ []) ≡ false → (has_name n xs ≡ false) × ((n == m) ≡ false)
has_last n m [] e = (refl, (or_parts (n == m) false e).0)
has_last n m (x ∷ xs) e =
    let parts = or_parts (n == x) (has_name n (xs ++ m ∷ [])) e in
    let rest = has_last n m xs parts.1 in
    (ap (λ b. b || has_name n xs) parts.0 ∙ rest.0, rest.1)

-- no later name is one of those before
none_before : (before : List ℕ) (rs : List ExchangeRow) (n : ℕ) → ((m : ℕ) → has_name m before ≡ false → (m == n) ≡ false)
    → FitsRows the_rules before rs → AllByRecursion (λ y. (n == y) ≡ false) (names_in rs)
none_before before [] n f h = tt
none_before before (r ∷ rs) n f h = (
  turned r.name n (f r.name h.0),
  none_before (before ++ r.name ∷ []) rs n (λ m e. f m (has_last m r.name before e).0) h.3,
)

-- no name stands twice
pub rows_distinct : (before : List ℕ) (rs : List ExchangeRow) → FitsRows the_rules before rs
    → IsDistinct (◌==◌) (map (λ (r : ExchangeRow). r.name) rs)
unfolding IsDistinct
rows_distinct before [] h = tt
rows_distinct before (r ∷ rs) h = (
  none_before (before ++ r.name ∷ []) rs r.name (λ m e. (has_last m r.name before e).1) h.3,
  rows_distinct (before ++ r.name ∷ []) rs h.3,
)
