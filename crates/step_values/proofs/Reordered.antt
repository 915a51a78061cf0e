-- The values of a row in another order.
use Rattle.std.proofs.Common.{◌≡◌, ◌<◌, ◌≤◌, ◌+◌, ◌-◌, ℕ, zero, suc, true, false, leb, List, [], ◌∷◌, ◌++◌, Option, Some, None, length, map, take, drop, set, slice_get, get_or, option_map, unwrap_or, append_assoc, drop-drop, append-nil, drop_of_length-le, length-drop, take_all, take-suc, IsPermutation, refl, sym, ◌∙◌, ap, subst, subst₂, arith, ◌⊎◌, inl, inr}
use Rattle.std.specs.List.{All, AllPairs, range_with_len, sum_by}
use Rattle.std.proofs.lemmas.Bool.Decides.{leb_tells}
use Rattle.std.proofs.lemmas.List.{get_or_default, length-map, length-take-le, map-append}
use Rattle.std.proofs.lemmas.List.Elements.{All-tail}
use Rattle.std.proofs.lemmas.List.FromFn.{get_or-range_with_len, length-range_with_len}
use Rattle.std.proofs.lemmas.List.Sorted.{All-permutation, Contains-permutation, IsPermutation-map, IsPermutation-put_mid, length_permutation, sum_by-IsPermutation}
use Rattle.std.proofs.lemmas.List.Sums.{sum_by-cons, sum_by-set}
use Rattle.std.proofs.lemmas.Option.{get_or_from_slice_get, slice_get-get_or, same_Some, slice_get-map, slice_get_within}
use Rattle.std.proofs.lemmas.Simd.{pick_l_whole}
use borrow.Rule.Slice.PartMut.{mid_of, post_of, put_mid}
use Rattle.parsing.specs.Nodes.{run, said_or, said_within, IsColumn}
use Rattle.parsing.specs.declared.column.Run.{Run}
use Rattle.step_values.specs.declared.cell.Cell.{Cell}
use Rattle.step_values.specs.declared.cell.Cell.TheVariants as cells
use Rattle.step_values.specs.steps.Building.{AreReached, AreWithin, EndsBefore, Holds, IsOutside, rows_by}
use Rattle.step_values.specs.Cells.{reach_of, IsIn, IsInside, value_at, value_by, value_nodes, values_of_run}
use Rattle.step_values.specs.AgreementTests.{value_count}
use Rattle.step_values.specs.Leaves.{unset}
use Rattle.step_values.specs.steps.NodeCounts.{nodes_of, nodes_in}
use Rattle.step_values.specs.steps.Ordering.{at_positions, cells_at, cells_of, positions_of, row_at, written_over}
use Rattle.step_values.specs.steps.Slots.{nth}
use Rattle.step_values.specs.steps.Targets.{target_of, targets_of, LeadTo}
use Rattle.step_values.specs.Values.{Value, leaf, Values, none, more}
use Rattle.step_values.specs.Views.{all_of}
use Rattle.step_values.proofs.Asking.{asks_places, run_alike}
use Rattle.step_values.proofs.Counting.{join}
use Rattle.step_values.proofs.Leading.{cell_leads}
use Rattle.step_values.proofs.Places.{place_said}
use Rattle.step_values.proofs.Reading.{nth_run, run_size, within_at}

-- What stands in lists.
module _ {A : Type 0} where
  got : (xs : List A) (i : ℕ) → i < length xs → (x : A) × (slice_get xs i ≡ Some x)
  got [] i l = absurd (omega (arith, l))
  got (x ∷ xs) zero l = (x, refl)
  got (x ∷ xs) (suc i) l = got xs i (omega (arith, l))

  got_front : (xs ys : List A) (i : ℕ) → i < length xs → slice_get (xs ++ ys) i ≡ slice_get xs i
  got_front [] ys i l = absurd (omega (arith, l))
  got_front (x ∷ xs) ys zero l = refl
  got_front (x ∷ xs) ys (suc i) l = got_front xs ys i (omega (arith, l))

  got_behind : (xs ys : List A) (i k : ℕ) → k ≡ length xs + i → slice_get (xs ++ ys) k ≡ slice_get ys i
  got_behind [] ys i k e = let same : k ≡ i = omega (arith, e) in ap (slice_get ys) same
  got_behind (x ∷ xs) ys i zero e = absurd (omega (arith, e))
  got_behind (x ∷ xs) ys i (suc k) e = got_behind xs ys i k (omega (arith, e))

  got_taken : (n : ℕ) (xs : List A) (i : ℕ) → i < n → slice_get (take n xs) i ≡ slice_get xs i
  got_taken zero xs i l = absurd (omega (arith, l))
  got_taken (suc n) [] i l = refl
  got_taken (suc n) (x ∷ xs) zero l = refl
  got_taken (suc n) (x ∷ xs) (suc i) l = got_taken n xs i (omega (arith, l))

  got_dropped : (n : ℕ) (xs : List A) (i k : ℕ) → k ≡ n + i → slice_get (drop n xs) i ≡ slice_get xs k
  got_dropped zero xs i k e = let same : i ≡ k = omega (arith, e) in ap (slice_get xs) same
  got_dropped (suc n) [] i k e = refl
  got_dropped (suc n) (x ∷ xs) i zero e = absurd (omega (arith, e))
  got_dropped (suc n) (x ∷ xs) i (suc k) e = got_dropped n xs i k (omega (arith, e))

  all_at : (P : A → Type 0) (xs : List A) (i : ℕ) (x : A) → slice_get xs i ≡ Some x → All P xs → P x
  all_at P xs i x e h = subst P (get_or_from_slice_get xs i x x e) (h i x (slice_get_within xs i x e))

  pair_at : (R : A → A → Type 0) (xs : List A) (i j : ℕ) (x y : A) → slice_get xs i ≡ Some x → slice_get xs j ≡ Some y
      → i < j → AllPairs R xs → R x y
  pair_at R xs i j x y e f l h =
      subst₂ R (get_or_from_slice_get xs i x x e) (get_or_from_slice_get xs j y x f)
      (h i j x l (slice_get_within xs j y f))

  -- a part of a list is written over
  module _ (a n : ℕ) (xs ys : List A) (fits : a + n ≤ length xs) (long : length ys ≡ n) where
    front_size : length (take a xs) ≡ a
    front_size = length-take-le a xs (omega (arith, fits))

    put_there : (j : ℕ) → j < n → slice_get (put_mid a n xs ys) (a + j) ≡ slice_get ys j
    put_there j l =
        let value_count = front_size in
        got_behind (take a xs) (ys ++ post_of a n xs) j (a + j) (omega (arith, value_count))
        ∙ got_front ys (post_of a n xs) j (omega (arith, l, long))

    others_stay : (k : ℕ) → ((a ≤ k) × (k < a + n) → ⊥) → slice_get (put_mid a n xs ys) k ≡ slice_get xs k
    others_stay k out = go (leb_tells a k) (leb_tells (a + n) k)
      where
        go : ((leb a k ≡ true) × (a ≤ k)) ⊎ ((leb a k ≡ false) × (k < a))
            → ((leb (a + n) k ≡ true) × (a + n ≤ k)) ⊎ ((leb (a + n) k ≡ false) × (k < a + n))
            → slice_get (put_mid a n xs ys) k ≡ slice_get xs k
        go (inr h) past =
            let value_count = front_size in
            let l = h.1 in
            got_front (take a xs) (ys ++ post_of a n xs) k (omega (arith, l, value_count)) ∙ got_taken a xs k l
        go (inl h) (inr past) = absurd (out (h.1, past.1))
        go (inl h) (inl past) =
            let value_count = front_size in
            let l = past.1 in
            let m = k - (a + n) in
            got_behind (take a xs) (ys ++ post_of a n xs) (n + m) k (omega (arith, value_count, l))
            ∙ got_behind ys (post_of a n xs) m (n + m) (omega (arith, long))
            ∙ got_dropped n (drop a xs) m (n + m) refl
            ∙ got_dropped a xs (n + m) k (omega (arith, l))

-- one item of a list is mapped in another way
module _ {A B : Type 0} (f g : A → B) where
  map_alike : (xs : List A) → ((j : ℕ) (y : A) → slice_get xs j ≡ Some y → g y ≡ f y) → map g xs ≡ map f xs
  map_alike [] e = refl
  map_alike (x ∷ xs) e = λ i. e 0 x refl i ∷ map_alike xs (λ j y a. e (suc j) y a) i

  map_one : (xs : List A) (i : ℕ) (x : A) → slice_get xs i ≡ Some x
      → ((j : ℕ) (y : A) → slice_get xs j ≡ Some y → (j ≡ i → ⊥) → g y ≡ f y) → map g xs ≡ set (map f xs) i (g x)
  map_one [] i x at e = absurd (cc)
  map_one (y ∷ xs) zero x at e =
      let same : y ≡ x = cc in
      λ d. g (same d) ∷ map_alike xs (λ j z a. e (suc j) z a (λ n. omega (arith, n))) d
  map_one (y ∷ xs) (suc i) x at e =
      λ d. e 0 y refl (λ n. omega (arith, n)) d
      ∷ map_one xs i x at (λ j z a other. e (suc j) z a (λ n. other (omega (arith, n)))) d

-- Values at positions.
one_on : (v : Value) (vs : Values) (a n : ℕ)
    → at_positions (more v vs) (range_with_len (suc a) n) ≡ at_positions vs (range_with_len a n)
one_on v vs a zero = refl
one_on v vs a (suc n) =
    let e : suc a + 1 ≡ suc (a + 1) = omega arith in
    λ i. more (unwrap_or (nth vs a) (leaf unset))
    ((ap (λ k. at_positions (more v vs) (range_with_len k n)) e ∙ one_on v vs (a + 1) n) i)

pub at_all : (vs : Values) → at_positions vs (positions_of vs) ≡ vs
at_all none = refl
at_all (more v vs) = λ i. more v ((one_on v vs 0 (value_count vs) ∙ at_all vs) i)

nodes_at : (vs : Values) (ks : List ℕ)
    → nodes_in (at_positions vs ks) ≡ sum_by (λ k. nodes_of (unwrap_or (nth vs k) (leaf unset))) ks
nodes_at vs [] = refl
nodes_at vs (k ∷ ks) =
    ap (λ n. nodes_of (unwrap_or (nth vs k) (leaf unset)) + n) (nodes_at vs ks)
    ∙ sym (sum_by-cons (λ k. nodes_of (unwrap_or (nth vs k) (leaf unset))) k ks)

nodes_stay : (vs : Values) (ks : List ℕ) → IsPermutation (positions_of vs) ks
    → nodes_in (at_positions vs ks) ≡ nodes_in vs
nodes_stay vs ks p =
    let count : ℕ → ℕ = λ k. nodes_of (unwrap_or (nth vs k) (leaf unset)) in
    nodes_at vs ks ∙ sum_by-IsPermutation count (positions_of vs) ks p ∙ sym (nodes_at vs (positions_of vs))
    ∙ ap nodes_in (at_all vs)

run_at : (g : ℕ → Value) (vs : Values) (first : ℕ) (ks : List ℕ)
    → ((j p : ℕ) → slice_get ks j ≡ Some p → nth vs p ≡ Some (g (first + j)))
    → all_of (run g first (length ks)) ≡ at_positions vs ks
run_at g vs first [] e = refl
run_at g vs first (k ∷ ks) e =
    let same : first ≡ first + 0 = omega arith in
    let here : g first ≡ unwrap_or (nth vs k) (leaf unset) =
    ap g same ∙ sym (ap (λ o. unwrap_or o (leaf unset)) (e 0 k refl)) in
    let next : (j : ℕ) → first + suc j ≡ suc first + j = λ j. omega arith in
    λ i. more (here i) (run_at g vs (suc first) ks (λ j p a. e (suc j) p a ∙ ap (λ n. Some (g n)) (next j)) i)

-- The cells of a run stand in another order: at each of its places, counted from the first, what stood at the position that
-- is given for it.
pub record Reorders (old : List Cell) (r : Run) (ks : List ℕ) (new : List Cell) : Type 0 where
  pub order : IsPermutation (range_with_len 0 r.count) ks
  pub all : IsPermutation old new
  pub others : (k : ℕ) → (IsIn r k → ⊥) → slice_get new k ≡ slice_get old k
  pub moved : (j p : ℕ) → slice_get ks j ≡ Some p → slice_get new (r.first + j) ≡ slice_get old (r.first + p)

low_order : (n : ℕ) (ks : List ℕ) → IsPermutation (range_with_len 0 n) ks → All (λ k. k < n) ks
low_order n ks p =
    let value_count = length-range_with_len 0 n in
    All-permutation (λ k. k < n) (range_with_len 0 n) ks p
    (λ i d l. let at = get_or-range_with_len 0 n i d (omega (arith, l, value_count)) in omega (arith, at, l, value_count))

-- a run is written over with its own cells at these positions
put_reorders : (old : List Cell) (r : Run) (ks : List ℕ) → r.first + r.count ≤ length old
    → IsPermutation (range_with_len 0 r.count) ks
    → Reorders old r ks (put_mid r.first r.count old (cells_at (mid_of r.first r.count old) ks))
put_reorders old r ks fits p =
    let inner = mid_of r.first r.count old in
    let cell : ℕ → Cell = λ k. get_or inner k cells.Unset in
    let left = length-drop r.first old in
    let value_count : length inner ≡ r.count = length-take-le r.count (drop r.first old) (omega (arith, left, fits)) in
    let long : length (cells_at inner ks) ≡ r.count = length-map ks cell
    ∙ length_permutation (range_with_len 0 r.count) ks p ∙ length-range_with_len 0 r.count in
    record {
      order = p;
      all = IsPermutation-put_mid r.first r.count old (cells_at inner ks)
          (subst (λ l. IsPermutation l (cells_at inner ks)) (pick_l_whole cells.Unset inner r.count value_count)
          (IsPermutation-map cell (range_with_len 0 r.count) ks p));
      others = others_stay r.first r.count old (cells_at inner ks) fits long;
      moved = λ j q at.
          let low = all_at (λ k. k < r.count) ks j q at (low_order r.count ks p) in
          let within = slice_get_within ks j q at in
          put_there r.first r.count old (cells_at inner ks) fits long j (omega (arith, within, long, length-map ks cell))
          ∙ slice_get-map cell ks j
          ∙ ap (option_map cell) at
          ∙ sym (slice_get-get_or inner q cells.Unset (omega (arith, low, value_count)))
          ∙ got_taken r.count (drop r.first old) q low
          ∙ got_dropped r.first old q (r.first + q) refl;
    }

written : (old : List Cell) (r : Run) (ks : List ℕ) → r.first + r.count ≤ length old
    → IsPermutation (range_with_len 0 r.count) ks → (cs : List Cell) → cs ≡ cells_at (cells_of old r) ks
    → Reorders old r ks (written_over old r cs)
written old r ks fits p cs is =
    let ys = cells_at (cells_of old r) ks in
    let same : put_mid r.first r.count old ys ≡ written_over old r ys =
    ap (λ l. take r.first old ++ (ys ++ l)) (drop-drop r.count r.first old)
    ∙ sym (append_assoc (take r.first old) ys (drop (r.first + r.count) old)) in
    subst (Reorders old r ks) (same ∙ ap (written_over old r) (sym is)) (put_reorders old r ks fits p)

-- one more cell is picked
pub picked_next : (column : List Cell) (ks : List ℕ) (i p : ℕ) (c : Cell) (old new : List Cell) → i < length ks
    → p ≡ get_or ks i p → p < length column → c ≡ get_or column p c → old ≡ cells_at column (take i ks)
    → new ≡ old ++ c ∷ [] → new ≡ cells_at column (take (i + 1) ks)
picked_next column ks i p c old new lt at within cell before is =
    let next : i + 1 ≡ suc i = omega arith in
    let more : take (i + 1) ks ≡ take i ks ++ p ∷ [] =
    ap (λ k. take k ks) next ∙ take-suc ks i p lt ∙ ap (λ k. take i ks ++ k ∷ []) (sym at) in
    let here : c ≡ get_or column p cells.Unset = cell ∙ get_or_default column p c cells.Unset within in
    is ∙ (λ d. before d ++ here d ∷ [])
    ∙ sym (map-append (λ k. get_or column k cells.Unset) (take i ks) (p ∷ []))
    ∙ ap (cells_at column) (sym more)

run_there : (column : List Cell) (runs : List Run) (rows : List Values) → rows_by column runs ≡ rows → (i : ℕ)
    → i < length rows → (r : Run) → r ≡ get_or runs i r → slice_get runs i ≡ Some r
run_there column runs rows are i lt r e =
    let seen = ap length are in
    let counted = length-map runs (values_of_run column) in
    slice_get-get_or runs i r (omega (arith, lt, seen, counted)) ∙ ap Some (sym e)

-- the values of the row that a run is
module _ (column : List Cell) (runs : List Run) (i : ℕ) (r : Run) (at : slice_get runs i ≡ Some r) (rows : List Values)
    (are : rows_by column runs ≡ rows) where
  row_is : row_at rows i ≡ values_of_run column r
  row_is =
      ap (λ l. row_at l i) (sym are)
      ∙ get_or_from_slice_get (rows_by column runs) i (values_of_run column r) none
      (slice_get-map (values_of_run column) runs i ∙ ap (option_map (values_of_run column)) at)

  run_order : (ks : List ℕ) → IsPermutation (positions_of (row_at rows i)) ks
      → IsPermutation (range_with_len 0 r.count) ks
  run_order ks = subst (λ n. IsPermutation (range_with_len 0 n) ks) (ap value_count row_is ∙ run_size (value_at column) r)

leads_all : (names : List ℕ) (cs : List Cell) → All (λ c. LeadTo names (target_of c)) cs
    → LeadTo names (targets_of cs)
leads_all names [] each = tt
leads_all names (c ∷ cs) each =
    join names (target_of c) (targets_of cs) (all_at (λ x. LeadTo names (target_of x)) (c ∷ cs) 0 c refl each)
    (leads_all names cs (All-tail (λ x. LeadTo names (target_of x)) c cs each))

module _ (old : List Cell) (runs : List Run) (h : Holds old runs) (i : ℕ) (r : Run) (at : slice_get runs i ≡ Some r)
    (ks : List ℕ) (new : List Cell) (m : Reorders old r ks new) where
  end : r.first + r.count ≤ length old
  end = within_at (length old) runs i r h.within at

  long : length ks ≡ r.count
  long = length_permutation (range_with_len 0 r.count) ks m.order ∙ length-range_with_len 0 r.count

  low : (j p : ℕ) → slice_get ks j ≡ Some p → p < r.count
  low j p e = all_at (λ k. k < r.count) ks j p e (low_order r.count ks m.order)

  in_or_out : (k : ℕ) → IsIn r k ⊎ (IsIn r k → ⊥)
  in_or_out k = go (leb_tells r.first k) (leb_tells (r.first + r.count) k)
    where
      go : ((leb r.first k ≡ true) × (r.first ≤ k)) ⊎ ((leb r.first k ≡ false) × (k < r.first))
          → ((leb (r.first + r.count) k ≡ true) × (r.first + r.count ≤ k))
          ⊎ ((leb (r.first + r.count) k ≡ false) × (k < r.first + r.count))
          → IsIn r k ⊎ (IsIn r k → ⊥)
      go (inr b) past = inr (λ place. let from = place.0 in let l = b.1 in omega (arith, from, l))
      go (inl b) (inl past) = inr (λ place. let to = place.1 in let l = past.1 in omega (arith, to, l))
      go (inl b) (inr past) = inl (b.1, past.1)

  -- no place is in another row
  same_index : (j : ℕ) (q : Run) → slice_get runs j ≡ Some q → (k : ℕ) → IsIn q k → IsIn r k → j ≡ i
  same_index j q e k there here = go (leb_tells (suc i) j) (leb_tells (suc j) i)
    where
      go : ((leb (suc i) j ≡ true) × (suc i ≤ j)) ⊎ ((leb (suc i) j ≡ false) × (j < suc i))
          → ((leb (suc j) i ≡ true) × (suc j ≤ i)) ⊎ ((leb (suc j) i ≡ false) × (i < suc j)) → j ≡ i
      go (inl a) behind =
          let l = a.1 in
          let turn : EndsBefore r q = pair_at EndsBefore runs i j r q at e (omega (arith, l)) h.apart.turn in
          let from = there.0 in
          let to = here.1 in
          absurd (omega (arith, turn, from, to))
      go (inr a) (inl b) =
          let l = b.1 in
          let turn : EndsBefore q r = pair_at EndsBefore runs j i q r e at (omega (arith, l)) h.apart.turn in
          let from = here.0 in
          let to = there.1 in
          absurd (omega (arith, turn, from, to))
      go (inr a) (inr b) = let l = a.1 in let k = b.1 in omega (arith, l, k)

  same_run : (j : ℕ) (q : Run) → slice_get runs j ≡ Some q → j ≡ i → r ≡ q
  same_run j q e s =
      same_Some r q (sym at ∙ subst (λ k. slice_get runs k ≡ Some q) s e)

  -- no cell has a place of the row right inside it
  avoids : (k : ℕ) (c : Cell) → slice_get old k ≡ Some c → (q : ℕ) → IsInside c q → IsIn r q → ⊥
  avoids k c e q inside =
      all_at (λ x. IsIn x q → ⊥) runs i r at (all_at (IsOutside runs) old k c e h.apart.outside q inside)

  or_stays : (f g : ℕ → Value) (k : ℕ) → ((q : ℕ) → (IsIn r q → ⊥) → f q ≡ g q) → (o : Option Cell)
      → slice_get old k ≡ o → said_or value_nodes f o ≡ said_or value_nodes g o
  or_stays f g k same None e = refl
  or_stays f g k same (Some c) e = asks_places f g c (λ q inside. same q (avoids k c e q inside))

  stays : (depth k : ℕ) → (IsIn r k → ⊥)
      → said_within value_nodes depth new k ≡ said_within value_nodes depth old k
  stays zero k out = refl
  stays (suc depth) k out =
      ap (said_or value_nodes (said_within value_nodes depth new)) (m.others k out)
      ∙ or_stays (said_within value_nodes depth new) (said_within value_nodes depth old) k (stays depth)
      (slice_get old k) refl

  value_stays : (k : ℕ) → (IsIn r k → ⊥) → value_at new k ≡ value_at old k
  value_stays k out = stays (suc k) k out

  says_same : (k : ℕ) (c : Cell) → slice_get old k ≡ Some c
      → value_by (value_at new) c ≡ value_by (value_at old) c
  says_same k c e =
      asks_places (value_at new) (value_at old) c (λ q inside. value_stays q (avoids k c e q inside))

  came_from : (k : ℕ) (c : Cell) → IsIn r k → slice_get new k ≡ Some c
      → (q : ℕ) × IsIn r q × (slice_get old q ≡ Some c)
  came_from k c place e =
      let from = place.0 in
      let to = place.1 in
      let j = k - r.first in
      let position = got ks j (omega (arith, from, to, long)) in
      let less = low j position.0 position.1 in
      let back : r.first + j ≡ k = omega (arith, from) in (
        r.first + position.0,
        (omega arith, omega (arith, less)),
        sym (m.moved j position.0 position.1) ∙ ap (slice_get new) back ∙ e,
      )

  low_row : (k : ℕ) (c : Cell) → IsIn r k → slice_get new k ≡ Some c → reach_of c ≤ r.first
  low_row k c place e =
      let source = came_from k c place e in
      h.apart.before i r at source.0 c source.1 source.2

  column_new : IsColumn value_nodes new
  column_new k c e = go (in_or_out k)
    where
      go : IsIn r k ⊎ (IsIn r k → ⊥) → reach_of c ≤ k
      go (inl place) = let l = low_row k c place e in let from = place.0 in omega (arith, l, from)
      go (inr out) = h.column_is k c (sym (m.others k out) ∙ e)

  value_moved : (j p : ℕ) → slice_get ks j ≡ Some p → value_at new (r.first + j) ≡ value_at old (r.first + p)
  value_moved j p e =
      let less = low j p e in
      let cell = got old (r.first + p) (omega (arith, less, end)) in
      place_said new column_new (r.first + j) cell.0 (m.moved j p e ∙ cell.1)
      ∙ says_same (r.first + p) cell.0 cell.1
      ∙ sym (place_said old h.column_is (r.first + p) cell.0 cell.1)

  row_moved : values_of_run new r ≡ at_positions (values_of_run old r) ks
  row_moved =
      ap (λ n. all_of (run (value_at new) r.first n)) (sym long)
      ∙ run_at (value_at new) (values_of_run old r) r.first ks
      (λ j p e. nth_run (value_at old) r.first r.count p (low j p e) ∙ ap Some (sym (value_moved j p e)))

  row_stays : (j : ℕ) (q : Run) → slice_get runs j ≡ Some q → (j ≡ i → ⊥)
      → values_of_run new q ≡ values_of_run old q
  row_stays j q e other =
      ap all_of (run_alike (value_at new) (value_at old) q.first q.count
      (λ k from to. value_stays k (λ place. other (same_index j q e k (from, to) place))))

  rows_moved : rows_by new runs ≡ set (rows_by old runs) i (at_positions (values_of_run old r) ks)
  rows_moved =
      map_one (values_of_run old) (values_of_run new) runs i r at row_stays
      ∙ ap (set (rows_by old runs) i) row_moved

  rows_reordered : (rows : List Values) → rows_by old runs ≡ rows
      → rows_by new runs ≡ set rows i (at_positions (row_at rows i) ks)
  rows_reordered rows are =
      rows_moved ∙ (λ d. set (are d) i (at_positions (sym (row_is old runs i r at rows are) d) ks))

  before_new : (j : ℕ) (q : Run) → slice_get runs j ≡ Some q → (k : ℕ) (c : Cell) → IsIn q k
      → slice_get new k ≡ Some c → reach_of c ≤ q.first
  before_new j q e k c place a = go (in_or_out k)
    where
      go : IsIn r k ⊎ (IsIn r k → ⊥) → reach_of c ≤ q.first
      go (inl here) =
          subst (λ (x : Run). reach_of c ≤ x.first) (same_run j q e (same_index j q e k place here))
          (low_row k c here a)
      go (inr out) = h.apart.before j q e k c place (sym (m.others k out) ∙ a)

  same_size : length new ≡ length old
  same_size = length_permutation old new m.all

  nodes_same : sum_by nodes_in (rows_by new runs) ≡ sum_by nodes_in (rows_by old runs)
  nodes_same =
      let vs = values_of_run old r in
      let counted : value_count vs ≡ r.count = run_size (value_at old) r in
      let order : IsPermutation (positions_of vs) ks =
      subst (λ n. IsPermutation (range_with_len 0 n) ks) (sym counted) m.order in
      let nodes = nodes_stay vs ks order in
      let within : i < length (rows_by old runs) =
      subst (λ n. i < n) (sym (length-map runs (values_of_run old))) (slice_get_within runs i r at) in
      let there : slice_get (rows_by old runs) i ≡ Some vs =
      slice_get-map (values_of_run old) runs i ∙ ap (option_map (values_of_run old)) at in
      let had : nodes_in (get_or (rows_by old runs) i vs) ≡ nodes_in vs =
      ap nodes_in (get_or_from_slice_get (rows_by old runs) i vs vs there) in
      let all = sum_by-set nodes_in (rows_by old runs) i (at_positions vs ks) vs within in
      let moved = ap (sum_by nodes_in) rows_moved in
      omega (arith, nodes, had, all, moved)

  reached_new : AreReached (length new) runs new
  reached_new k l = elim (h.reached k (let value_count = same_size in omega (arith, l, value_count))) [
    | inl there ↦ inl there
    | inr there ↦ inr (there.0, Contains-permutation old new there.0 m.all there.1, there.2)
  ]

  holds_moved : Holds new runs
  holds_moved =
      let count = h.count in
      let value_count = same_size in
      let nodes = nodes_same in
      record {
        column_is = column_new;
        within = subst (λ n. AreWithin n runs) (sym same_size) h.within;
        apart = record {
          turn = h.apart.turn;
          before = before_new;
          outside = All-permutation (IsOutside runs) old new m.all h.apart.outside;
        };
        reached = reached_new;
        count = omega (arith, count, value_count, nodes);
      }

  leads_moved : (names : List ℕ) → LeadTo names (targets_of old) → LeadTo names (targets_of new)
  leads_moved names leads =
      leads_all names new
      (All-permutation (λ c. LeadTo names (target_of c)) old new m.all
      (λ k d l. cell_leads names old leads k (get_or old k d) (slice_get-get_or old k d l)))

-- a vector whose items were written over
back_whole : (n : ℕ) (column new : List Cell) → n ≡ length column → length new ≡ length column
    → take n (new ++ drop (length new) column) ≡ new
back_whole n column new e f =
    ap (λ l. take n (new ++ l)) (drop_of_length-le column (omega (arith, f))) ∙ ap (take n) (append-nil new)
    ∙ take_all n new (omega (arith, e, f))

-- the values of a row are put into another order
module _ (column : List Cell) (runs : List Run) (h : Holds column runs) (rows : List Values)
    (are : rows_by column runs ≡ rows) (i : ℕ) (lt : i < length rows) (r : Run) (is : r ≡ get_or runs i r)
    (ks : List ℕ) (order : IsPermutation (positions_of (row_at rows i)) ks) where
  here : slice_get runs i ≡ Some r
  here = run_there column runs rows are i lt r is

  pub run_fits : (l : List Cell) → l ≡ column → r.first + r.count ≤ length l
  run_fits l e =
      subst (λ x. r.first + r.count ≤ length x) (sym e) (within_at (length column) runs i r h.within here)

  permuted : IsPermutation (range_with_len 0 r.count) ks
  permuted = run_order column runs i r here rows are ks order

  module _ (l inner : List Cell) (same : l ≡ column) (cut : inner ≡ cells_of l r) where
    inner_is : inner ≡ cells_of column r
    inner_is = cut ∙ ap (λ x. cells_of x r) same

    pub positions_within : All (λ k. k < length inner) ks
    positions_within =
        let fits = run_fits column refl in
        let left = length-drop r.first column in
        let long : length inner ≡ r.count =
        ap length inner_is ∙ length-take-le r.count (drop r.first column) (omega (arith, left, fits)) in
        subst (λ n. All (λ k. k < n) ks) (sym long) (low_order r.count ks permuted)

    module _ (cs : List Cell) (picked : cs ≡ cells_at inner ks) where
      pub picked_size : length cs ≡ r.count
      picked_size =
          ap length picked ∙ length-map ks (λ k. get_or inner k cells.Unset)
          ∙ length_permutation (range_with_len 0 r.count) ks permuted
          ∙ length-range_with_len 0 r.count

      moved_here : Reorders column r ks (written_over column r cs)
      moved_here =
          written column r ks (run_fits column refl) permuted cs (picked ∙ ap (λ x. cells_at x ks) inner_is)

      module _ (n : ℕ) (slice new : List Cell) (whole : n ≡ length column) (all : slice ≡ column)
          (over : new ≡ written_over slice r cs) where
        back : take n (new ++ drop (length new) column) ≡ written_over column r cs
        back =
            let made : new ≡ written_over column r cs = over ∙ ap (λ x. written_over x r cs) all in
            back_whole n column new whole
            (ap length made ∙ length_permutation column (written_over column r cs) moved_here.all)
            ∙ made

        pub holds_back : Holds (take n (new ++ drop (length new) column)) runs
        holds_back =
            subst (λ x. Holds x runs) (sym back)
            (holds_moved column runs h i r here ks (written_over column r cs) moved_here)

        pub rows_back : rows_by (take n (new ++ drop (length new) column)) runs
            ≡ set rows i (at_positions (row_at rows i) ks)
        rows_back =
            ap (λ x. rows_by x runs) back
            ∙ rows_reordered column runs h i r here ks (written_over column r cs) moved_here rows are

        pub leads_back : (ts : List (ℕ × ℕ)) → targets_of column ≡ ts → (names : List ℕ) → LeadTo names ts
            → LeadTo names (targets_of (take n (new ++ drop (length new) column)))
        leads_back ts e names leads =
            subst (λ x. LeadTo names (targets_of x)) (sym back)
            (leads_moved column runs h i r here ks (written_over column r cs) moved_here names
            (subst (LeadTo names) (sym e) leads))
