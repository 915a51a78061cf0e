-- Words in the order of their names.
use Rattle.std.specs.Prelude.{◌≡◌, ℕ, ◌+◌, ◌<◌, ◌≤◌, Bool, true, false, ◌||◌, List, [], ◌∷◌, ◌++◌, Vec, map, length, take, get_or, slice_get, Result, Ok, Err, is_ok, bytes_eq, nat_lt}
use Rattle.std.specs.List.{AllZip}
use Rattle.std.specs.List.Sorted.{IsSorted, IsPermutation, IsSearchInRange, IsBinarySearchResult, IsPartitionPoint}
use Rattle.std.specs.Ordering.{nat_cmp, is_eq}
use Rattle.std.specs.declared.cmp.Ordering.TheVariants.{Less, Equal, Greater}
use Rattle.std.specs.Cmp.Lexicographic.{slice_cmp}
use Rattle.std.proofs.Common.{refl, ap, sym, subst, ◌∙◌, arith, zero, suc}
use Rattle.std.proofs.lemmas.Bool.Decides.{nat_tests}
use Rattle.std.proofs.lemmas.Cmp.{nat_list_cmp_total, on_total, tied_itself, tied_back}
use Rattle.std.proofs.lemmas.Map.Text.{is_eq-slice_cmp}
use Rattle.std.proofs.lemmas.List.{take_more}
use Rattle.std.proofs.lemmas.List.Sorted.{searchable_from_sorted, IsPermutation-map, list_any-IsPermutation}
use Rattle.std.proofs.lemmas.Slice.Eq.{bytes_eq-Decides}
use Rattle.step_literals.specs.declared.literal.Word.{Word}
use Rattle.step_literals.specs.Values.{word_value}
use Rattle.express_syntax.specs.declared.tree.Declaration.{Declaration}
use Rattle.express_syntax.specs.ExpressionViews.{capitals}
use Rattle.express_syntax.specs.Views.{names_of, declaration_of}
use Rattle.schema_semantics.specs.Names.{Name}
use Rattle.schema_names.specs.steps.Enumerated.{includes, some_items, by_name, IsItemRow, words_at}

-- an order keeps what is among some
pub includes-shuffled : (ws vs : List Word) → IsPermutation ws vs → (n : Name)
    → includes (names_of vs) n ≡ includes (names_of ws) n
includes-shuffled ws vs same n =
    sym (list_any-IsPermutation (bytes_eq n) (names_of ws) (names_of vs) (IsPermutation-map capitals ws vs same))

-- words that spell one name are equal in order, and no others
equal : (v w : Word) → capitals w ≡ capitals v → by_name v w ≡ Equal
equal v w e =
    ap (λ n. slice_cmp nat_cmp n (capitals w)) (sym e) ∙ tied_itself nat_list_cmp_total (capitals w)

same-name : (v w : Word) → by_name v w ≡ Equal → bytes_eq (capitals w) (capitals v) ≡ true
same-name v w e =
    sym (is_eq-slice_cmp (capitals w) (capitals v))
    ∙ ap is_eq (tied_back nat_list_cmp_total (capitals v) (capitals w) e)

or-right : (a b : Bool) → b ≡ true → (a || b) ≡ true
or-right true b e = refl
or-right false b e = e

among-at : (ws : List Word) (i : ℕ) (d : Word) (n : Name) → i < length ws
    → bytes_eq n (capitals (get_or ws i d)) ≡ true → includes (names_of ws) n ≡ true
among-at [] i d n lt e = absurd (omega (arith, lt))
among-at (w ∷ ws) zero d n lt e = ap (λ b. b || includes (names_of ws) n) e
among-at (w ∷ ws) (suc i) d n lt e =
    or-right (bytes_eq n (capitals w)) (includes (names_of ws) n) (among-at ws i d n (omega (arith, lt)) e)

at-among : (ws : List Word) (d : Word) (n : Name) → includes (names_of ws) n ≡ true
    → (k : ℕ) × (k < length ws) × (n ≡ capitals (get_or ws k d))
at-among [] d n e = absurd (cc)
at-among (w ∷ ws) d n e = by (bytes_eq n (capitals w)) refl e (at-among ws d n)
  where
    by : (b : Bool) → bytes_eq n (capitals w) ≡ b → (b || includes (names_of ws) n) ≡ true
        → (includes (names_of ws) n ≡ true → (k : ℕ) × (k < length ws) × (n ≡ capitals (get_or ws k d)))
        → (k : ℕ) × (k < length (w ∷ ws)) × (n ≡ capitals (get_or (w ∷ ws) k d))
    by true here h more = (0, omega arith, (bytes_eq-Decides n (capitals w)).0 here)
    by false here h more = let (k, lt, is) = more h in (suc k, omega (arith, lt), is)

-- what a search finds in words that are in order
pub found-is : (ws : List Word) (w : Word) → IsSorted by_name ws → (r : Result ℕ ℕ) → IsSearchInRange r (length ws)
    → IsBinarySearchResult (λ v. by_name v w) ws r → is_ok r ≡ includes (names_of ws) (capitals w)
found-is ws w sorted (Ok i) lt at =
    sym (among-at ws i w (capitals w) lt (same-name (get_or ws i w) w (at w)))
found-is ws w sorted (Err i) le parted = none (includes (names_of ws) (capitals w)) refl
  where
    none : (b : Bool) → includes (names_of ws) (capitals w) ≡ b → false ≡ b
    none false e = refl
    none true e =
        let (k, lt, is) = at-among ws w (capitals w) e in
        absurd (by k lt (equal (get_or ws k w) w is) (nat_lt k i) refl)
      where
        parts : IsPartitionPoint (λ v. by_name v w ≡ Less) (λ v. by_name v w ≡ Greater) ws i
        parts = parted (searchable_from_sorted (on_total word_value nat_list_cmp_total) (λ v. v) ws w sorted)

        by : (k : ℕ) → k < length ws → by_name (get_or ws k w) w ≡ Equal → (b : Bool) → nat_lt k i ≡ b → ⊥
        by k lt same true e =
            let under : k < i = grind (arith, nat_tests) in
            let less : Less ≡ Equal = sym (parts.0 k w (omega arith) under) ∙ same in cc
        by k lt same false e =
            let over : i ≤ k = grind (arith, nat_tests) in
            let greater : Greater ≡ Equal = sym (parts.1 k w over lt) ∙ same in cc

-- one declaration more
pub rows-more : {A B : Type 0} (R : A → B → Type 0) (xs : List A) (k : ℕ) (x : A) (old new : List B) (y : B)
    → k < length xs → x ≡ get_or xs k x → AllZip R (take k xs) old → R x y → new ≡ old ++ y ∷ []
    → AllZip R (take (k + 1) xs) new
rows-more {A} {B} R xs k x old new y lt at h one is =
    subst (λ row. AllZip R row new) (ap (λ z. take k xs ++ z ∷ []) at ∙ sym (take_more xs k x lt))
    (subst (AllZip R (take k xs ++ x ∷ [])) (sym is) (joined (take k xs) old h))
  where
    joined : (ys : List A) (zs : List B) → AllZip R ys zs → AllZip R (ys ++ x ∷ []) (zs ++ y ∷ [])
    joined [] [] h = (one, tt)
    joined [] (z ∷ zs) h = absurd h
    joined (w ∷ ys) [] h = absurd h
    joined (w ∷ ys) (z ∷ zs) h = (h.0, joined ys zs h.1)

-- the rows by number
nothing-sorted : IsSorted by_name []
nothing-sorted k d low lt = absurd (omega (arith, lt))

module _ {Z : Type 0} where
  pub rows-sorted : (ds : List Declaration) (rows : List (Vec Word Z))
      → AllZip (λ d v. IsItemRow (declaration_of d) v.items) ds rows → (i : ℕ) → IsSorted by_name (words_at rows i)
  rows-sorted [] [] h i = nothing-sorted
  rows-sorted [] (v ∷ rows) h i = absurd h
  rows-sorted (d ∷ ds) [] h i = absurd h
  rows-sorted (d ∷ ds) (v ∷ rows) h zero = h.0.sorted
  rows-sorted (d ∷ ds) (v ∷ rows) h (suc i) = rows-sorted ds rows h.1 i

  pub rows-told : (ds : List Declaration) (rows : List (Vec Word Z))
      → AllZip (λ d v. IsItemRow (declaration_of d) v.items) ds rows → (i : ℕ) (n : Name)
      → includes (names_of (words_at rows i)) n ≡ includes (some_items (slice_get (map declaration_of ds) i)) n
  rows-told [] [] h i n = refl
  rows-told [] (v ∷ rows) h i n = absurd h
  rows-told (d ∷ ds) [] h i n = absurd h
  rows-told (d ∷ ds) (v ∷ rows) h zero n = h.0.same n
  rows-told (d ∷ ds) (v ∷ rows) h (suc i) n = rows-told ds rows h.1 i n

  -- the row that is lent
  pub row-there : (rows : List (Vec Word Z)) (i : ℕ) (v : Vec Word Z) → i < length rows → v ≡ get_or rows i v
      → v.items ≡ words_at rows i
  row-there [] i v lt e = absurd (omega (arith, lt))
  row-there (u ∷ rows) zero v lt e = ap (λ x. x.items) e
  row-there (u ∷ rows) (suc i) v lt e = row-there rows i v (omega (arith, lt)) e

  pub no-row : (rows : List (Vec Word Z)) (i : ℕ) → length rows ≤ i → words_at rows i ≡ []
  no-row [] i far = refl
  no-row (u ∷ rows) zero far = absurd (omega (arith, far))
  no-row (u ∷ rows) (suc i) far = no-row rows i (omega (arith, far))
