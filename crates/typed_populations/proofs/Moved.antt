-- Values that are moved into their order.
use Rattle.std.specs.Prelude.{◌≡◌, ℕ, suc, ◌+◌, ◌<◌, ◌≤◌, Bool, true, false, List, [], ◌∷◌, ◌++◌, length, map, take, drop, set, get_or, Option, None, Some, IfSome, IsPermutation, slice_get, Vec, ◌⊎◌, Result, Ok, Err, MatchResult, OnOk}
use Rattle.std.specs.Bool.{OnTrue}
use Rattle.std.specs.List.{range_with_len}
use Rattle.std.specs.Option.{unwrap_or}
use Rattle.std.proofs.Common.{Global, refl, inl, inr, sym, ap, subst, subst₂, ◌∙◌, arith, append_assoc, append-nil, map-id, take_all, take-suc-set, drop-drop, drop-set-lt, drop_of_length-le, eq-or-lt_of_le}
use Rattle.std.proofs.lemmas.List.{get_or-drop, get_or_default, set-get_or}
use Rattle.std.proofs.lemmas.List.FromFn.{length-range_with_len, map-range_with_len_more}
use Rattle.std.proofs.lemmas.List.Sorted.{IsPermutation-sym, length_permutation}
use Rattle.std.proofs.lemmas.Option.{get_or_from_slice_get, slice_get-get_or, slice_get_within}
use Rattle.express_syntax.specs.Schemas.{Schema}
use Rattle.express_syntax.specs.Profile.{Every}
use Rattle.schema_names.proofs.Rows.{take-more, map-joined}
use Rattle.population_rows.specs.declared.form.Form.{Form}
use Rattle.step_values.specs.AgreementTests.{value_count}
use Rattle.step_values.specs.Leaves.{unset}
use Rattle.step_values.specs.steps.Ordering.{at_positions, positions_of, row_at}
use Rattle.step_values.specs.References.{EachReference, EachReferenceOf}
use Rattle.step_values.specs.steps.Slots.{nth}
use Rattle.step_values.specs.steps.Targets.{ReferTo}
use Rattle.step_values.specs.Values.{Value, leaf, Values, none, more}
use Rattle.step_values.proofs.Reordered.{at_all}
use Rattle.conformance.specs.PlainRows.{or_unset}
use Rattle.typed_populations.specs.declared.value_order.Moves.{Moves}
use Rattle.typed_populations.specs.declared.value_order.Moves.TheVariants as moves
use Rattle.typed_populations.specs.declared.value_order.Order.{Order}
use Rattle.typed_populations.specs.ValueOrder.{AreMoves, HasMoves, FitMoves, CanMove, AreOrders, picked_at, picked, order_among, row_picked, rows_picked}
use Rattle.typed_populations.proofs.Copied.{refers_at, row_next}
use Rattle.typed_populations.proofs.Found.{every-at}
use Rattle.typed_populations.proofs.Turns.{drop-got}

-- Positions that rise from 0.
range-more : (n : ℕ) → range_with_len 0 (n + 1) ≡ range_with_len 0 n ++ n ∷ []
range-more n =
    sym (map-id (range_with_len 0 (n + 1))) ∙ map-range_with_len_more (λ x. x) 0 n n (omega arith)
    ∙ ap (λ l. l ++ n ∷ []) (map-id (range_with_len 0 n))

pub rises-next : (xs : List ℕ) (i : ℕ) → slice_get xs i ≡ Some i → take i xs ≡ range_with_len 0 i
    → take (i + 1) xs ≡ range_with_len 0 (i + 1)
rises-next xs i at before =
    take-more xs i i (slice_get_within xs i i at) (sym (get_or_from_slice_get xs i i i at))
    ∙ ap (λ l. l ++ i ∷ []) before ∙ sym (range-more i)

pub rises-all : (xs : List ℕ) (i : ℕ) → length xs ≤ i → take i xs ≡ range_with_len 0 i
    → xs ≡ range_with_len 0 (length xs)
rises-all xs i le before =
    let all : take i xs ≡ xs = take_all i xs le in
    let long : length xs ≡ i = ap length (sym all ∙ before) ∙ length-range_with_len 0 i in
    sym all ∙ before ∙ ap (range_with_len 0) (sym long)

-- positions that rise from 0 once they are sorted are a permutation
pub once : (b : Bool) (xs copy sorted : List ℕ) → copy ≡ xs → IsPermutation copy sorted
    → OnTrue b (sorted ≡ range_with_len 0 (length sorted)) → OnTrue b (IsPermutation (range_with_len 0 (length xs)) xs)
once true xs copy sorted same p rises =
    let long : length sorted ≡ length xs = length_permutation copy sorted p ∙ ap length same in
    subst (λ l. IsPermutation l xs) (rises ∙ ap (range_with_len 0) long)
    (subst (IsPermutation sorted) same (IsPermutation-sym copy sorted p))
once false xs copy sorted same p rises = tt

pub told-next : (xs : List (Option ℕ)) (i p : ℕ) (o : Option ℕ) (old new : List ℕ) → i < length xs → o ≡ get_or xs i o
    → o ≡ Some p → map Some old ≡ take i xs → new ≡ old ++ p ∷ [] → map Some new ≡ take (i + 1) xs
told-next xs i p o old new lt at some before is =
    ap (map Some) is ∙ map-joined Some old (p ∷ []) ∙ (λ d. before d ++ sym some d ∷ [])
    ∙ sym (take-more xs i o lt at)

pub kept-moves : (os : List (Option ℕ)) (ks copy : List ℕ) (n : ℕ) → map Some ks ≡ os → copy ≡ ks
    → copy ≡ range_with_len 0 (length copy) → n ≡ length ks → os ≡ map Some (range_with_len 0 n)
kept-moves os ks copy n told same rises count =
    sym told ∙ ap (map Some) (sym same ∙ rises ∙ ap (range_with_len 0) (ap length same ∙ sym count))

pub moved-moves : (os : List (Option ℕ)) (ks : Vec ℕ Global) (copy : List ℕ) → map Some ks.items ≡ os → copy ≡ ks.items
    → IsPermutation (range_with_len 0 (length copy)) copy → AreMoves os (moves.Moved ks)
moved-moves os ks copy told same p =
    (sym told, subst (λ l. IsPermutation (range_with_len 0 (length l)) l) same p)

-- One row.
plain-value : (o : Option Value) → or_unset o ≡ unwrap_or o (leaf unset)
plain-value None = refl
plain-value (Some v) = refl

pub picked-places : (vs : Values) (ks : List ℕ) → picked vs (map Some ks) ≡ at_positions vs ks
picked-places vs [] = refl
picked-places vs (k ∷ ks) = λ i. more (plain-value (nth vs k) i) (picked-places vs ks i)

no-values : (vs : Values) → value_count vs ≡ 0 → vs ≡ none
no-values none e = refl
no-values (more v vs) e = absurd (omega (arith, e))

-- values that stand in an order already
stays-picked : (vs : Values) (os : List (Option ℕ)) (m : Moves) → ((v : Vec ℕ Global) → m ≡ moves.Moved v → ⊥)
    → AreMoves os m → FitMoves vs m → picked vs os ≡ vs
stays-picked vs os (moves.Kept n) other are fit =
    ap (picked vs) (are ∙ ap (λ k. map Some (range_with_len 0 k)) (sym fit)) ∙ picked-places vs (positions_of vs)
    ∙ at_all vs
stays-picked vs os (moves.Moved v) other are fit = absurd (other v refl)
stays-picked vs os moves.Copied other are fit = absurd fit

same-row : (rows : List Values) (i : ℕ) (vs : Values) → vs ≡ row_at rows i → rows ≡ set rows i vs
same-row rows i vs e = sym (set-get_or rows i none) ∙ ap (set rows i) (sym e)

pub row-stays : (rows : List Values) (i : ℕ) (o : Order) → ((v : Vec ℕ Global) → o.moves ≡ moves.Moved v → ⊥)
    → HasMoves o → CanMove (Some o) (row_at rows i) → rows ≡ set rows i (row_picked (Some o) (row_at rows i))
row-stays rows i o other are fit =
    same-row rows i (picked (row_at rows i) o.positions.items)
    (stays-picked (row_at rows i) o.positions.items o.moves other are fit)

pub no-row-stays : (rows : List Values) (i : ℕ) → CanMove None (row_at rows i)
    → rows ≡ set rows i (row_picked None (row_at rows i))
no-row-stays rows i fit = same-row rows i none (sym (no-values (row_at rows i) fit))

pub row-order : (vs : Values) (os : List (Option ℕ)) (v : Vec ℕ Global) → AreMoves os (moves.Moved v)
    → FitMoves vs (moves.Moved v) → IsPermutation (positions_of vs) v.items
row-order vs os v are fit = subst (λ n. IsPermutation (range_with_len 0 n) v.items) (sym fit) are.1

pub row-picked-is : (vs : Values) (o : Order) (v : Vec ℕ Global) → AreMoves o.positions.items (moves.Moved v)
    → at_positions vs v.items ≡ row_picked (Some o) vs
row-picked-is vs o v are = sym (ap (picked vs) are.0 ∙ picked-places vs v.items)

-- a property of what moved, if memory didn't run out
pub once-moved : {A E : Type 0} (P Q R : Type 0) (r : Result A E) → MatchResult r (λ _. P) (λ _. R) → (P → Q) → OnOk r Q
once-moved P Q R (Ok x) h f = f h
once-moved P Q R (Err e) h f = tt

-- All rows.
same-item : {A : Type 0} (x y : A) → Some x ≡ Some y → x ≡ y
same-item x y e = cc

pub can-next : (orders : List Order) (ns : List (Option ℕ)) (rows : List Values) (i : ℕ) (n : Option ℕ) (vs : Values)
    → slice_get ns i ≡ Some n → slice_get rows i ≡ Some vs → CanMove (order_among orders n) vs
    → ((k : ℕ) (m : Option ℕ) (us : Values) → k < i → slice_get ns k ≡ Some m → slice_get rows k ≡ Some us
    → CanMove (order_among orders m) us)
    → (k : ℕ) (m : Option ℕ) (us : Values) → k < i + 1 → slice_get ns k ≡ Some m → slice_get rows k ≡ Some us
    → CanMove (order_among orders m) us
can-next orders ns rows i n vs a b here before k m us lt c d = go (eq-or-lt_of_le (omega (arith, lt)))
  where
    go : (k ≡ i) ⊎ (k < i) → CanMove (order_among orders m) us
    go (inl e) =
        subst₂ (λ x y. CanMove (order_among orders x) y)
        (same-item n m (sym a ∙ subst (λ j. slice_get ns j ≡ Some m) e c))
        (same-item vs us (sym b ∙ subst (λ j. slice_get rows j ≡ Some us) e d)) here
    go (inr l) = before k m us l c d

pub order-moves : (orders : List Order) (n : Option ℕ) → Every HasMoves orders → IfSome (order_among orders n) HasMoves
order-moves orders None h = tt
order-moves orders (Some k) h = go (slice_get orders k) refl
  where
    go : (o : Option Order) → slice_get orders k ≡ o → IfSome o HasMoves
    go None e = tt
    go (Some x) e = every-at HasMoves orders k x h e

pub moves-each : (s : Schema) (forms : List Form) (orders : List Order) → AreOrders s forms orders → Every HasMoves orders
moves-each s [] [] h = tt
moves-each s [] (o ∷ orders) h = absurd h
moves-each s (x ∷ forms) [] h = absurd h
moves-each s (x ∷ forms) (o ∷ orders) h = (h.0.moves, moves-each s forms orders h.1)

-- a row more
module _ (orders : List Order) (ns : List (Option ℕ)) (old mid new all : List Values) (i : ℕ) (n : Option ℕ)
    (lt : i < length ns) (each : length ns ≡ length old) (long : length mid ≡ length old) (number : n ≡ get_or ns i n)
    (left : drop i mid ≡ drop i old) where
  row-same : row_at mid i ≡ row_at old i
  row-same =
      let at : i ≡ i + 0 = omega arith in
      ap (λ k. get_or mid k none) at ∙ sym (get_or-drop i mid 0 none) ∙ ap (λ l. get_or l 0 none) left
      ∙ get_or-drop i old 0 none
      ∙ ap (λ k. get_or old k none) (sym at)

  pub row-here : slice_get old i ≡ Some (row_at mid i)
  row-here = slice_get-get_or old i none (omega (arith, lt, each)) ∙ ap Some (sym row-same)

  pub number-here : slice_get ns i ≡ Some n
  number-here = slice_get-get_or ns i n lt ∙ ap Some (sym number)

  module _ (is : new ≡ set mid i (row_picked (order_among orders n) (row_at mid i))) where
    pub left-next : drop (i + 1) new ≡ drop (i + 1) old
    left-next =
        ap (drop (i + 1)) is
        ∙ drop-set-lt (i + 1) mid i (row_picked (order_among orders n) (row_at mid i)) (omega arith)
        ∙ sym (drop-drop 1 i mid) ∙ ap (drop 1) left ∙ drop-drop 1 i old

    pub rows-next : take i mid ++ rows_picked orders (drop i ns) (drop i old) ≡ all
        → take (i + 1) new ++ rows_picked orders (drop (i + 1) ns) (drop (i + 1) old) ≡ all
    rows-next before =
        let vs = row_at mid i in
        let x = row_picked (order_among orders n) vs in
        let rest = rows_picked orders (drop (i + 1) ns) (drop (i + 1) old) in
        let next : i + 1 ≡ suc i = omega arith in
        let front : take (i + 1) new ≡ take i mid ++ x ∷ [] =
        ap (take (i + 1)) is ∙ ap (λ k. take k (set mid i x)) next
        ∙ take-suc-set mid i x (omega (arith, lt, each, long)) in
        let cut : rows_picked orders (drop i ns) (drop i old) ≡ x ∷ rest =
        row_next orders ns old i n vs (drop-got ns i n lt number)
        (drop-got old i vs (omega (arith, lt, each)) (row-same ∙ get_or_default old i none vs (omega (arith, lt, each)))) in
        ap (λ l. l ++ rest) front ∙ append_assoc (take i mid) (x ∷ []) rest ∙ ap (λ l. take i mid ++ l) (sym cut)
        ∙ before

pub rows-end : (orders : List Order) (ns : List (Option ℕ)) (old new all : List Values) (i : ℕ) → length ns ≤ i
    → length new ≤ i → take i new ++ rows_picked orders (drop i ns) (drop i old) ≡ all → new ≡ all
rows-end orders ns old new all i le long h =
    sym (append-nil new) ∙ ap (λ l. l ++ []) (sym (take_all i new long))
    ∙ ap (λ l. take i new ++ rows_picked orders l (drop i old)) (sym (drop_of_length-le ns le)) ∙ h

-- References of values in another order.
picked-refers : (P : ℕ → Type 0) (vs : Values) → EachReferenceOf P vs → (os : List (Option ℕ))
    → EachReferenceOf P (picked vs os)
picked-refers P vs h [] = tt
picked-refers P vs h (o ∷ os) = (go (picked_at vs o) refl, picked-refers P vs h os)
  where
    found : (p : Option ℕ) (v : Value) → picked_at vs p ≡ Some v → EachReference P v
    found None v e = absurd (cc)
    found (Some k) v e = refers_at P vs k v e h

    go : (u : Option Value) → picked_at vs o ≡ u → EachReference P (or_unset u)
    go None e = tt
    go (Some v) e = found o v e

row-refers : (P : ℕ → Type 0) (o : Option Order) (vs : Values) → EachReferenceOf P vs
    → EachReferenceOf P (row_picked o vs)
row-refers P None vs h = tt
row-refers P (Some o) vs h = picked-refers P vs h o.positions.items

pub rows-refer : (names : List ℕ) (orders : List Order) (ns : List (Option ℕ)) (rows : List Values)
    → ReferTo names rows → ReferTo names (rows_picked orders ns rows)
rows-refer names orders [] rows h = tt
rows-refer names orders (n ∷ ns) [] h = tt
rows-refer names orders (n ∷ ns) (vs ∷ rows) h = (
  row-refers (λ y. (i : ℕ) × (slice_get names i ≡ Some y)) (order_among orders n) vs h.0,
  rows-refer names orders ns rows h.1,
)
