-- Rows that are noted name by name.
use Rattle.std.specs.Prelude.{◌≡◌, map, ℕ, ◌+◌, ◌-◌, ◌<◌, ◌≤◌, Bool, true, false, cond, nat_lt, nat_eq, List, [], ◌∷◌, ◌++◌, Option, None, Some, length, take, set, get_or, replicate, slice_get}
use Rattle.std.specs.Option.{option_map}
use Rattle.std.proofs.Common.{refl, ap, sym, ◌∙◌, arith, zero, suc, add-one}
use Rattle.std.proofs.Math.Seq.{take-suc}
use Rattle.std.proofs.lemmas.List.{get_or-map, length-take-le, map-set}
use Rattle.std.proofs.lemmas.Grind.{common_steps}
use Rattle.std.proofs.lemmas.Bool.Decides.{nat_tests}
use Rattle.population_rows.specs.Index.{place_of, some_row, dense_at, told}
use Rattle.population_rows.specs.steps.Noting.{earlier}

earlier-or-later : (b c : Bool) (p : Option ℕ) (n : ℕ)
    → cond b (Some 0) (option_map suc (cond c (Some (earlier p n)) p))
    ≡ cond c (Some (earlier (cond b (Some 0) (option_map suc p)) (suc n))) (cond b (Some 0) (option_map suc p))
earlier-or-later true true p n = refl
earlier-or-later true false p n = refl
earlier-or-later false true None n = refl
earlier-or-later false true (Some r) n = refl
earlier-or-later false false p n = refl

-- a name more
pub place-more : (xs : List ℕ) (x y : ℕ)
    → place_of (xs ++ x ∷ []) y ≡ cond (nat_eq x y) (Some (earlier (place_of xs y) (length xs))) (place_of xs y)
place-more [] x y = refl
place-more (z ∷ xs) x y =
    ap (λ p. cond (nat_eq z y) (Some 0) (option_map suc p)) (place-more xs x y)
    ∙ earlier-or-later (nat_eq z y) (nat_eq x y) (place_of xs y) (length xs)

-- What notes the rows of some names notes those of one more.
pub noted-more : (names : List ℕ) (n : ℕ) (old new : ℕ → Option ℕ) → n < length names
    → ((y : ℕ) → old y ≡ place_of (take n names) y)
    → ((y : ℕ) → new y ≡ cond (nat_eq (get_or names n 0) y) (Some (earlier (old y) n)) (old y))
    → (y : ℕ) → new y ≡ place_of (take (n + 1) names) y
noted-more names n old new lt before step y =
    let many : length (take n names) ≡ n = length-take-le n names (omega (arith, lt)) in
    let x = get_or names n 0 in
    let p = place_of (take n names) y in
    step y
    ∙ ap (λ o. cond (nat_eq x y) (Some (earlier o n)) o) (before y)
    ∙ ap (λ m. cond (nat_eq x y) (Some (earlier p m)) p) (sym many)
    ∙ sym (place-more (take n names) x y)
    ∙ ap (λ ns. place_of ns y) (sym (take-suc names n 0 lt) ∙ ap (λ m. take m names) (sym (add-one n)))

-- what stands in a list of rows
or-none : (rows : List (Option ℕ)) (i : ℕ) → some_row (slice_get rows i) ≡ get_or rows i None
or-none [] i = refl
or-none (r ∷ rows) zero = refl
or-none (r ∷ rows) (suc i) = or-none rows i

dense-seen : (least : ℕ) (rows : List (Option ℕ)) (y : ℕ)
    → dense_at least rows y ≡ cond (nat_lt y least) None (get_or rows (y - least) None)
dense-seen least rows y = ap (λ o. cond (nat_lt y least) None o) (or-none rows (y - least))

noted-there : (least : ℕ) (rows : List (Option ℕ)) (n y : ℕ) (o : Option ℕ) → least ≤ n → n - least < length rows
    → cond (nat_lt y least) None (get_or (set rows (n - least) o) (y - least) None)
    ≡ cond (nat_eq n y) o (cond (nat_lt y least) None (get_or rows (y - least) None))
noted-there least rows n y o le lt = grind (arith, nat_tests, common_steps)

old-there : (least : ℕ) (rows : List (Option ℕ)) (n y row : ℕ) → least ≤ n
    → cond (nat_eq n y) (Some (earlier (get_or rows (n - least) None) row))
    (cond (nat_lt y least) None (get_or rows (y - least) None))
    ≡ cond (nat_eq n y) (Some (earlier (cond (nat_lt y least) None (get_or rows (y - least) None)) row))
    (cond (nat_lt y least) None (get_or rows (y - least) None))
old-there least rows n y row le = grind (arith, nat_tests, common_steps)

-- a list of rows after the row of a name is entered
pub dense-more : (least : ℕ) (rows : List (Option ℕ)) (n row y : ℕ) → least ≤ n → n - least < length rows
    → dense_at least (set rows (n - least) (Some (earlier (get_or rows (n - least) None) row))) y
    ≡ cond (nat_eq n y) (Some (earlier (dense_at least rows y) row)) (dense_at least rows y)
dense-more least rows n row y le lt =
    let noted = Some (earlier (get_or rows (n - least) None) row) in
    dense-seen least (set rows (n - least) noted) y
    ∙ noted-there least rows n y noted le lt
    ∙ old-there least rows n y row le
    ∙ ap (λ o. cond (nat_eq n y) (Some (earlier o row)) o) (sym (dense-seen least rows y))

-- entering a row at an index where none is stored
pub told-first : (rows : List ℕ) (place row r : ℕ) → place < length rows → r ≡ get_or rows place r → r ≡ 0
    → map told (set rows place (row + 1))
    ≡ set (map told rows) place (Some (earlier (get_or (map told rows) place None) row))
told-first rows place row r lt here free =
    let none : get_or (map told rows) place None ≡ None =
    get_or-map told rows place r None lt ∙ ap told (sym here ∙ free) in
    map-set told rows place (row + 1)
    ∙ ap (λ n. set (map told rows) place (told n)) (add-one row)
    ∙ ap (λ o. set (map told rows) place (Some (earlier o row))) (sym none)

same-either : {A : Type 0} (b : Bool) (x : A) → cond b x x ≡ x
same-either true x = refl
same-either false x = refl

pub told-none : (width least y : ℕ) → dense_at least (map told (replicate width 0)) y ≡ None
told-none width least y =
    dense-seen least (map told (replicate width 0)) y
    ∙ ap (λ o. cond (nat_lt y least) None o) (nothing width (y - least))
    ∙ same-either (nat_lt y least) None
  where
    nothing : (n i : ℕ) → get_or (map told (replicate n 0)) i None ≡ None
    nothing zero i = refl
    nothing (suc n) zero = refl
    nothing (suc n) (suc i) = nothing n i
