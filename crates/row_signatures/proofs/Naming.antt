-- Places and names of rows.
use Rattle.std.proofs.Common.{◌≡◌, ◌≢◌, ◌<◌, ℕ, zero, suc, false, List, [], ◌∷◌, length, Some, refl, sym, ◌∙◌, ap, inl, inr, arith, eq-eqb}
use Rattle.std.specs.Prelude.{◌==◌, slice_get, slice_index}
use Rattle.std.specs.List.{IsDistinct, AllByRecursion}
use Rattle.std.proofs.lemmas.Bool.{false≢true}
use Rattle.std.proofs.lemmas.Option.{get_or_from_slice_get, slice_get_within, slice_get-get_or}
use Rattle.value_equality.specs.Rows.{Row, IsName, names, row_at}
use Rattle.value_equality.proofs.Lookup.{distinct_rest, named, row_cases, row_here, row_under}
use Rattle.value_equality.proofs.Placing.{name_at, named_at, stands_at}

pub once : {A : Type 0} (x y : A) → Some x ≡ Some y → x ≡ y
once x y e = cc

-- the row at a place stands under its name
pub row_stands : (rows : List Row) (i : ℕ) (r : Row) → IsDistinct (◌==◌) (names rows) → slice_get rows i ≡ Some r
    → row_at rows r.name ≡ Some r
row_stands [] i r d at = absurd (cc)
row_stands (s ∷ rows) zero r d at =
    let same : s ≡ r = once s r at in row_here s rows r.name (ap (λ (q : Row). q.name) same) ∙ at
row_stands (s ∷ rows) (suc i) r d at = row_under s rows r.name r d (row_stands rows i r (distinct_rest s rows d) at)

apart_from : (x : ℕ) (rows : List Row) (i : ℕ) (r : Row) → AllByRecursion (λ y. (x == y) ≡ false) (names rows)
    → slice_get rows i ≡ Some r → (x == r.name) ≡ false
apart_from x [] i r d at = absurd (cc)
apart_from x (s ∷ rows) zero r d at = ap (λ (q : Row). x == q.name) (sym (once s r at)) ∙ d.0
apart_from x (s ∷ rows) (suc i) r d at = apart_from x rows i r d.1 at

apart : (s : Row) (rows : List Row) (i : ℕ) (r : Row) → IsDistinct (◌==◌) (names (s ∷ rows))
    → slice_get rows i ≡ Some r → s.name ≢ r.name
unfolding IsDistinct
apart s rows i r d at same = false≢true (sym (apart_from s.name rows i r d.0 at) ∙ eq-eqb s.name r.name same)

-- a name stands at one place
pub one_place : (rows : List Row) (i j : ℕ) (p q : Row) → IsDistinct (◌==◌) (names rows) → slice_get rows i ≡ Some p
    → slice_get rows j ≡ Some q → p.name ≡ q.name → i ≡ j
one_place [] i j p q d a b same = absurd (cc)
one_place (s ∷ rows) zero zero p q d a b same = refl
one_place (s ∷ rows) zero (suc j) p q d a b same =
    absurd (apart s rows j q d b (ap (λ (r : Row). r.name) (once s p a) ∙ same))
one_place (s ∷ rows) (suc i) zero p q d a b same =
    absurd (apart s rows i p d a (ap (λ (r : Row). r.name) (once s q b) ∙ sym same))
one_place (s ∷ rows) (suc i) (suc j) p q d a b same =
    ap suc (one_place rows i j p q (distinct_rest s rows d) a b same)

-- what stands at a place
pub item_at : {A : Type 0} (xs : List A) (i : ℕ) → i < length xs → (x : A) × (slice_get xs i ≡ Some x)
item_at [] i l = absurd (omega (arith, l))
item_at (y ∷ xs) zero l = (y, refl)
item_at (y ∷ xs) (suc i) l = item_at xs i (omega (arith, l))

pub names_long : (rows : List Row) → length (names rows) ≡ length rows
names_long [] = refl
names_long (r ∷ rows) = ap suc (names_long rows)

-- a row at a place, with its name
pub record IsPlaced (rows : List Row) (x : ℕ) : Type 0 where
  pub row : Row
  pub row_is : slice_get rows x ≡ Some row
  pub named : slice_index (names rows) x ≡ row.name

pub placed : (rows : List Row) (x : ℕ) → x < length rows → IsPlaced rows x
placed rows x l =
    let r = stands_at rows x l in record {
      row = r.0;
      row_is = r.1;
      named = get_or_from_slice_get (names rows) x r.0.name 0 (name_at rows x r.0 r.1);
    }

-- the place of a name
pub record StandsAt (rows : List Row) (y : ℕ) : Type 0 where
  pub place : ℕ
  pub within : place < length rows
  pub name_is : slice_get (names rows) place ≡ Some y
  pub index_is : slice_index (names rows) place ≡ y

place_of : (rows : List Row) (y : ℕ) (p : Row) → row_at rows y ≡ Some p → (i : ℕ) × (slice_get (names rows) i ≡ Some y)
place_of [] y p e = absurd (cc)
place_of (r ∷ rows) y p e = elim (row_cases r rows y p e) [
  | inl here ↦ (0, ap Some here.0)
  | inr there ↦ (let rest = place_of rows y p there.1 in (suc rest.0, rest.1))
]

pub stands : (rows : List Row) (y : ℕ) → IsName rows y → StandsAt rows y
stands rows y n =
    let i = place_of rows y n.0 n.1 in
    let l = slice_get_within (names rows) i.0 y i.1 in
    let long = names_long rows in record {
      place = i.0;
      within = omega (arith, l, long);
      name_is = i.1;
      index_is = get_or_from_slice_get (names rows) i.0 y 0 i.1;
    }

-- a row has the name at each place
pub name_there : (rows : List Row) (x : ℕ) → x < length rows → slice_get (names rows) x ≡ Some (slice_index (names rows) x)
name_there rows x l = let long = names_long rows in slice_get-get_or (names rows) x 0 (omega (arith, l, long))

pub is_name : (rows : List Row) (x : ℕ) → x < length rows → IsName rows (slice_index (names rows) x)
is_name rows x l = named_at rows x (slice_index (names rows) x) (name_there rows x l)
