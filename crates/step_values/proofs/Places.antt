-- What is said at a place of a column is what its cell says.
use Rattle.std.proofs.Common.{◌≡◌, ◌≤◌, ℕ, zero, suc, List, [], ◌∷◌, ◌++◌, length, take, drop, Some, refl, sym, ◌∙◌, ap, subst, arith, append_assoc, length-append, slice_get}
use Rattle.std.proofs.lemmas.List.{take-append-drop, length-take-le}
use Rattle.std.proofs.lemmas.Option.{slice_get_within}
use Rattle.parsing.specs.Nodes.{IsColumn}
use Rattle.parsing.proofs.Grown.{place_same, cell_same, pushed_place}
use Rattle.step_values.specs.declared.cell.Cell.{Cell}
use Rattle.step_values.specs.Cells.{reach_of, value_at, value_by, value_nodes}
use Rattle.step_values.proofs.Asking.{asks_inside}

first_of : {A : Type 0} (x : A) (xs : List A) (c : A) → slice_get (x ∷ xs) 0 ≡ Some c → x ≡ c
first_of x xs c e = cc

drop_at_place : {A : Type 0} (xs : List A) (i : ℕ) (c : A) → slice_get xs i ≡ Some c → drop i xs ≡ c ∷ drop (suc i) xs
drop_at_place [] i c e = absurd (cc)
drop_at_place (x ∷ xs) zero c e = ap (λ y. y ∷ xs) (first_of x xs c e)
drop_at_place (x ∷ xs) (suc i) c e = drop_at_place xs i c e

got_front : {A : Type 0} (xs ys : List A) (i : ℕ) (c : A) → slice_get xs i ≡ Some c → slice_get (xs ++ ys) i ≡ Some c
got_front [] ys i c e = absurd (cc)
got_front (x ∷ xs) ys zero c e = e
got_front (x ∷ xs) ys (suc i) c e = got_front xs ys i c e

got_seam : {A : Type 0} (xs : List A) (c : A) (rest : List A) → slice_get (xs ++ c ∷ rest) (length xs) ≡ Some c
got_seam [] c rest = refl
got_seam (x ∷ xs) c rest = got_seam xs c rest

front_column : (xs ys : List Cell) → IsColumn value_nodes (xs ++ ys) → IsColumn value_nodes xs
front_column xs ys h = λ i c e. h i c (got_front xs ys i c e)

seam_said : (xs : List Cell) (c : Cell) (rest : List Cell) → IsColumn value_nodes (xs ++ c ∷ rest)
    → value_at (xs ++ c ∷ rest) (length xs) ≡ value_by (value_at (xs ++ c ∷ rest)) c
seam_said xs c rest h =
    let whole : (xs ++ c ∷ []) ++ rest ≡ xs ++ c ∷ rest = append_assoc xs (c ∷ []) rest in
    let with_it : IsColumn value_nodes (xs ++ c ∷ []) =
    front_column (xs ++ c ∷ []) rest (subst (IsColumn value_nodes) (sym whole) h) in
    let front : IsColumn value_nodes xs = front_column xs (c ∷ rest) h in
    let low : reach_of c ≤ length xs = h (length xs) c (got_seam xs c rest) in
    let longer = length-append xs (c ∷ []) in
    ap (λ l. value_at l (length xs)) (sym whole)
    ∙ place_same value_nodes asks_inside (xs ++ c ∷ []) rest with_it (length xs) (omega (arith, longer))
    ∙ pushed_place value_nodes asks_inside xs c front low
    ∙ sym (cell_same value_nodes asks_inside xs (c ∷ rest) front c low)

pub place_said : (column : List Cell) → IsColumn value_nodes column → (i : ℕ) (c : Cell) → slice_get column i ≡ Some c
    → value_at column i ≡ value_by (value_at column) c
place_said column h i c e =
    let cut : take i column ++ c ∷ drop (suc i) column ≡ column =
    ap (λ l. take i column ++ l) (sym (drop_at_place column i c e)) ∙ take-append-drop i column in
    let within = slice_get_within column i c e in
    let size : length (take i column) ≡ i = length-take-le i column (omega (arith, within)) in
    let there = seam_said (take i column) c (drop (suc i) column) (subst (IsColumn value_nodes) (sym cut) h) in
    subst (λ k. value_at column k ≡ value_by (value_at column) c) size
    (subst (λ l. value_at l (length (take i column)) ≡ value_by (value_at l) c) cut there)
