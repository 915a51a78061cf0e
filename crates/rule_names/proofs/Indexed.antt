-- The first declaration of the attribute of a place, by an index of places.
use Rattle.std.specs.Prelude.{◌≡◌, ℕ, suc, zero, ◌==◌, Bool, true, false, cond, List, [], ◌∷◌, Option, None, Some, Vec, map, get_or, slice_get}
use Rattle.std.specs.List.{AllZip, find}
use Rattle.std.specs.Option.{option_map, option_copied}
use Rattle.std.specs.Slice.{IsItemAt}
use Rattle.std.proofs.Common.{refl, ap, sym, subst, ◌∙◌, Bor}
use Rattle.std.proofs.lemmas.Option.{slice_get-get_or, slice_get_past}
use Rattle.population_rows.specs.declared.index.RowIndex.{RowIndex}
use Rattle.population_rows.specs.Index.{found, place_of}
use Rattle.schema_redeclarations.specs.declared.uses.AttributeUse.{AttributeUse}
use Rattle.rule_names.specs.steps.Declaring.{is_of, AreFirst}

-- what stands at a number, where there is one
abbrev pub at_number : List AttributeUse → Option ℕ → Option AttributeUse
at_number us None = None
at_number us (Some k) = slice_get us k

one-behind : (u : AttributeUse) (us : List AttributeUse) (o : Option ℕ)
    → at_number us o ≡ at_number (u ∷ us) (option_map suc o)
one-behind u us None = refl
one-behind u us (Some k) = refl

first-is : (us : List AttributeUse) (q : ℕ)
    → find (is_of q) us ≡ at_number us (place_of (map (λ (u : AttributeUse). u.place) us) q)
first-is [] q = refl
first-is (u ∷ us) q = by (u.place == q) (first-is us q)
  where
    by : (b : Bool) → find (is_of q) us ≡ at_number us (place_of (map (λ (v : AttributeUse). v.place) us) q)
        → cond b (Some u) (find (is_of q) us)
        ≡ at_number (u ∷ us) (cond b (Some 0) (option_map suc (place_of (map (λ (v : AttributeUse). v.place) us) q)))
    by true more = refl
    by false more = more ∙ one-behind u us (place_of (map (λ (v : AttributeUse). v.place) us) q)

pub first-told : (us : List AttributeUse) (t : RowIndex) (q : ℕ) (o : Option ℕ) → AreFirst us t → o ≡ found t q
    → at_number us o ≡ find (is_of q) us
first-told us t q o are e = ap (at_number us) (e ∙ are q) ∙ sym (first-is us q)

-- what a look at a place gives
pub got : {X : Type 0} (xs : List X) (i : ℕ) (r : Option (Bor X)) → IsItemAt xs i r → option_copied r ≡ slice_get xs i
got xs i None h = sym (slice_get_past xs i h.3)
got xs i (Some x) h = ap Some h.1 ∙ sym (slice_get-get_or xs i x.now h.3.0)

-- rows beside indices
module _ {Z : Type 0} where
  pub row-indexed : (rows : List (Vec AttributeUse Z)) (ts : List RowIndex) (i : ℕ) (t : RowIndex)
      → AllZip (λ v t. AreFirst v.items t) rows ts → slice_get ts i ≡ Some t
      → AreFirst (get_or (map (λ v. v.items) rows) i []) t
  row-indexed [] [] i t h at = absurd (cc)
  row-indexed [] (u ∷ ts) i t h at = absurd h
  row-indexed (w ∷ rows) [] i t h at = absurd h
  row-indexed (w ∷ rows) (u ∷ ts) zero t h at = let same : u ≡ t = cc in subst (AreFirst w.items) same h.0
  row-indexed (w ∷ rows) (u ∷ ts) (suc i) t h at = row-indexed rows ts i t h.1 at

  pub none-indexed : (rows : List (Vec AttributeUse Z)) (ts : List RowIndex) (i q : ℕ)
      → AllZip (λ v t. AreFirst v.items t) rows ts → slice_get ts i ≡ None
      → find (is_of q) (get_or (map (λ v. v.items) rows) i []) ≡ None
  none-indexed [] [] i q h none = refl
  none-indexed [] (u ∷ ts) i q h none = absurd h
  none-indexed (w ∷ rows) [] i q h none = absurd h
  none-indexed (w ∷ rows) (u ∷ ts) zero q h none = absurd (cc)
  none-indexed (w ∷ rows) (u ∷ ts) (suc i) q h none = none-indexed rows ts i q h.1 none
