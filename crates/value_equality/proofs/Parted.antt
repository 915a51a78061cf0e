-- Rows in parts: heads, and values for each.
use Rattle.std.proofs.Common.{◌≡◌, ℕ, zero, suc, List, [], ◌∷◌, ◌++◌, length, take, get_or, append_assoc, Some, refl, sym, ◌∙◌, ap, subst, nat_eq, inl, inr, arith}
use Rattle.std.specs.Prelude.{◌==◌, ◌+◌, ◌<◌, map, slice_get}
use Rattle.std.specs.List.{IsDistinct, sum_by}
use Rattle.std.proofs.lemmas.List.{length-map, length-append, length-take-le, take_more}
use Rattle.std.proofs.lemmas.List.Sums.{sum_by-cons}
use Rattle.step_values.specs.steps.NodeCounts.{nodes_in}
use Rattle.step_values.specs.References.{EachReferenceOf}
use Rattle.step_values.specs.steps.Targets.{ReferTo}
use Rattle.step_values.specs.Values.{Values}
use Rattle.step_values.specs.Views.{word_of}
use Rattle.step_values.proofs.References.{each_weaker_of}
use Rattle.value_equality.specs.declared.row.PlainRow.{PlainRow}
use Rattle.value_equality.specs.declared.row.RowHead.{RowHead}
use Rattle.value_equality.specs.steps.ComputedHeads.{type_lists_within, numbered_heads}
use Rattle.value_equality.specs.Rows.{Row, row_kind, names, row_at, IsName, IsPopulation}
use Rattle.value_equality.specs.Views.{Head, head_names, head_of, head_seen, heads_seen, or_none, row_from, rows_from, rows_of, types_at, values_within}
use Rattle.value_equality.proofs.Lookup.{row_cases}
use Rattle.value_equality.proofs.Placing.{named_at}

-- the rows that are parted into heads and values
pub rows_parted : (rows : List PlainRow) → rows_from (map head_of rows) (map values_within rows) ≡ rows_of rows
rows_parted [] = refl
rows_parted (r ∷ rows) = ap (λ rs. row_from (head_of r) (values_within r) ∷ rs) (rows_parted rows)

pub names_numbered : (n : ℕ) (rows : List PlainRow) → head_names (numbered_heads n rows) ≡ names (rows_of rows)
names_numbered n [] = refl
names_numbered n (r ∷ rows) = ap (λ ns. r.name ∷ ns) (names_numbered (suc n) rows)

pub length_numbered : (n : ℕ) (rows : List PlainRow) → length (numbered_heads n rows) ≡ length rows
length_numbered n [] = refl
length_numbered n (r ∷ rows) = ap suc (length_numbered (suc n) rows)

-- one row more
pub numbered_more : (n : ℕ) (rows : List PlainRow) (r : PlainRow) → numbered_heads n (rows ++ r ∷ []) ≡ numbered_heads n
    rows ++ record { name = r.name; section = r.section; type_list = n + length rows } ∷ []
numbered_more n [] r =
    let same : n ≡ n + 0 = omega arith in λ i. record { name = r.name; section = r.section; type_list = same i } ∷ []
numbered_more n (q ∷ rows) r =
    let same : suc n + length rows ≡ n + suc (length rows) = omega arith in
    ap (λ hs. record { name = q.name; section = q.section; type_list = n } ∷ hs) (numbered_more (suc n) rows r
    ∙ ap (λ k. numbered_heads (suc n) rows ++ record { name = r.name; section = r.section; type_list = k } ∷ []) same)

pub numbered_next : (rows : List PlainRow) (old : List RowHead) (i : ℕ) (r : PlainRow) → i < length rows
    → r ≡ get_or rows i r → old ≡ numbered_heads 0 (take i rows) → (new : List RowHead)
    → new ≡ old ++ record { name = r.name; section = r.section; type_list = i } ∷ []
    → new ≡ numbered_heads 0 (take (i + 1) rows)
numbered_next rows old i r within at done new made =
    let taken : take (i + 1) rows ≡ take i rows ++ r ∷ [] =
    take_more rows i r within ∙ ap (λ q. take i rows ++ q ∷ []) (sym at) in
    let long : i ≡ 0 + length (take i rows) = omega (arith, length-take-le i rows (omega (arith, within))) in
    made ∙ (λ j. done j ++ record { name = r.name; section = r.section; type_list = long j } ∷ [])
    ∙ sym (numbered_more 0 (take i rows) r) ∙ ap (numbered_heads 0) (sym taken)

stands_behind : {A : Type 0} (xs : List A) (y : A) (ys : List A) → slice_get (xs ++ y ∷ ys) (length xs) ≡ Some y
stands_behind [] y ys = refl
stands_behind (x ∷ xs) y ys = stands_behind xs y ys

-- each row of a kind of its own has its types
numbered_seen : (front : List (List (List ℕ))) (rows : List PlainRow)
    → heads_seen (front ++ type_lists_within rows) (numbered_heads (length front) rows) ≡ map head_of rows
numbered_seen front [] = refl
numbered_seen front (r ∷ rows) =
    let t = map word_of r.types.items in
    let here : types_at (front ++ t ∷ type_lists_within rows) (length front) ≡ t =
    ap or_none (stands_behind front t (type_lists_within rows)) in
    let long : suc (length front) ≡ length (front ++ t ∷ []) =
    omega (arith, length-append front (t ∷ [])) in
    let same : front ++ t ∷ type_lists_within rows ≡ (front ++ t ∷ []) ++ type_lists_within rows =
    sym (append_assoc front (t ∷ []) (type_lists_within rows)) in
    let rest : heads_seen (front ++ t ∷ type_lists_within rows) (numbered_heads (suc (length front)) rows) ≡ map head_of rows =
    (λ i. heads_seen (same i) (numbered_heads (long i) rows)) ∙ numbered_seen (front ++ t ∷ []) rows in
    λ i. record { name = r.name; section = r.section; types = here i } ∷ rest i

pub heads_numbered : (rows : List PlainRow) → heads_seen (type_lists_within rows) (numbered_heads 0 rows) ≡ map head_of rows
heads_numbered rows = numbered_seen [] rows

pub names_seen : (lists : List (List (List ℕ))) (hs : List RowHead) → map (λ (h : Head). h.name) (heads_seen lists hs)
    ≡ head_names hs
names_seen lists [] = refl
names_seen lists (h ∷ hs) = ap (λ ns. h.name ∷ ns) (names_seen lists hs)

pub length_seen : (lists : List (List (List ℕ))) (hs : List RowHead) → length (heads_seen lists hs) ≡ length hs
length_seen lists hs = length-map hs (head_seen lists)

pub length_from : (hs : List Head) (rows : List Values) → length hs ≡ length rows → length (rows_from hs rows)
    ≡ length hs
length_from [] rows e = refl
length_from (h ∷ hs) [] e = absurd (omega (arith, e))
length_from (h ∷ hs) (vs ∷ rows) e = ap suc (length_from hs rows (omega (arith, e)))

pub names_from : (hs : List Head) (rows : List Values) → length hs ≡ length rows → names (rows_from hs rows)
    ≡ map (λ (h : Head). h.name) hs
names_from [] rows e = refl
names_from (h ∷ hs) [] e = absurd (omega (arith, e))
names_from (h ∷ hs) (vs ∷ rows) e = ap (λ ns. h.name ∷ ns) (names_from hs rows (omega (arith, e)))

pub row_there : (hs : List Head) (rows : List Values) (i : ℕ) (h : Head) (vs : Values) → slice_get hs i ≡ Some h
    → slice_get rows i ≡ Some vs → slice_get (rows_from hs rows) i ≡ Some (row_from h vs)
row_there [] rows i h vs e f = absurd (cc)
row_there (g ∷ hs) [] i h vs e f = absurd (cc)
row_there (g ∷ hs) (ws ∷ rows) zero h vs e f =
    let first : g ≡ h = cc in let second : ws ≡ vs = cc in ap (λ k. Some (row_from k ws)) first
    ∙ ap (λ us. Some (row_from h us)) second
row_there (g ∷ hs) (ws ∷ rows) (suc i) h vs e f = row_there hs rows i h vs e f

pub nodes_from : (hs : List Head) (rows : List Values) → length hs ≡ length rows
    → sum_by nodes_in rows ≡ sum_by (λ r. nodes_in r.values) (rows_from hs rows)
nodes_from [] [] e = refl
nodes_from [] (vs ∷ rows) e = absurd (omega (arith, e))
nodes_from (h ∷ hs) [] e = absurd (omega (arith, e))
nodes_from (h ∷ hs) (vs ∷ rows) e =
    sum_by-cons nodes_in vs rows ∙ ap (λ n. nodes_in vs + n) (nodes_from hs rows (omega (arith, e)))
    ∙ sym (sum_by-cons (λ r. nodes_in r.values) (row_from h vs) (rows_from hs rows))

pub values_from : (hs : List Head) (rows : List Values) → length hs ≡ length rows → map (λ r. r.values) (rows_from hs rows)
    ≡ rows
values_from [] [] e = refl
values_from [] (vs ∷ rows) e = absurd (omega (arith, e))
values_from (h ∷ hs) [] e = absurd (omega (arith, e))
values_from (h ∷ hs) (vs ∷ rows) e = ap (λ rest. vs ∷ rest) (values_from hs rows (omega (arith, e)))

-- the names of heads that have lists of types
pub names_kept : (lists : List (List (List ℕ))) (hs : List RowHead) (rows : List Values) → length hs ≡ length rows
    → names (rows_from (heads_seen lists hs) rows) ≡ head_names hs
names_kept lists hs rows e =
    names_from (heads_seen lists hs) rows (length_seen lists hs ∙ e) ∙ names_seen lists hs

-- the references of a row are names
row_refers : (ns : List ℕ) (hs : List Head) (rows : List Values) → ReferTo ns rows → (x : ℕ) (p : Row)
    → row_at (rows_from hs rows) x ≡ Some p → EachReferenceOf (λ y. (i : ℕ) × (slice_get ns i ≡ Some y)) p.values
row_refers ns [] rows refer x p e = absurd (cc)
row_refers ns (h ∷ hs) [] refer x p e = absurd (cc)
row_refers ns (h ∷ hs) (vs ∷ rows) refer x p e =
    elim (row_cases (row_from h vs) (rows_from hs rows) x p e) [
      | inl here ↦ subst (λ (r : Row). EachReferenceOf (λ y. (i : ℕ) × (slice_get ns i ≡ Some y)) r.values) here.1
          refer.0
      | inr there ↦ row_refers ns hs rows refer.1 x p there.1
    ]

-- heads and values that refer to their names are a population, where no name stands twice
pub population_from : (hs : List Head) (rows : List Values) → length hs ≡ length rows → (ns : List ℕ)
    → ns ≡ map (λ (h : Head). h.name) hs → IsDistinct nat_eq ns → ReferTo ns rows → IsPopulation (rows_from hs rows)
population_from hs rows each ns same distinct refer =
    let named : ns ≡ names (rows_from hs rows) = same ∙ sym (names_from hs rows each) in
    record {
      distinct = subst (IsDistinct (◌==◌)) named distinct;
      closed = λ x p e.
          each_weaker_of (λ y. (i : ℕ) × (slice_get ns i ≡ Some y)) (IsName (rows_from hs rows))
          (λ y at. named_at (rows_from hs rows) at.0 y (ap (λ ms. slice_get ms at.0) (sym named) ∙ at.1)) p.values
          (row_refers ns hs rows refer x p e);
    }

-- the kind of a row is that of its head
pub kind_there : (lists : List (List (List ℕ))) (hs : List RowHead) (rows : List Values) (i : ℕ) (r : Row)
    → slice_get (rows_from (heads_seen lists hs) rows) i ≡ Some r
    → (h : RowHead) × (slice_get hs i ≡ Some h) × (row_kind r ≡ (h.section, types_at lists h.type_list))
kind_there lists [] rows i r e = absurd (cc)
kind_there lists (h ∷ hs) [] i r e = absurd (cc)
kind_there lists (h ∷ hs) (vs ∷ rows) zero r e =
    let same : row_from (head_seen lists h) vs ≡ r = cc in (h, refl, ap row_kind (sym same))
kind_there lists (h ∷ hs) (vs ∷ rows) (suc i) r e = kind_there lists hs rows i r e

-- two rows whose heads have one section and one list of types are of one kind
pub kinds_shared : (lists : List (List (List ℕ))) (hs : List RowHead) (rows : List Values) (i j : ℕ)
    → ((h k : RowHead) → slice_get hs i ≡ Some h → slice_get hs j ≡ Some k
    → (h.section ≡ k.section) × (h.type_list ≡ k.type_list)) → (r s : Row)
    → slice_get (rows_from (heads_seen lists hs) rows) i ≡ Some r
    → slice_get (rows_from (heads_seen lists hs) rows) j ≡ Some s → row_kind r ≡ row_kind s
kinds_shared lists hs rows i j shared r s at there =
    let (h, here, kind) = kind_there lists hs rows i r at in
    let (k, behind, other) = kind_there lists hs rows j s there in
    let same = shared h k here behind in
    kind ∙ (λ x. (same.0 x, types_at lists (same.1 x))) ∙ sym other
