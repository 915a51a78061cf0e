-- The prints of a normal text.
use Rattle.std.proofs.Common.{◌≡◌, ℕ, zero, suc, ◌+◌, ◌<◌, ◌≤◌, Bool, List, [], ◌∷◌, ◌++◌, Option, Some, None, length, map, take, drop, get_or, slice_get, refl, sym, ap, ◌∙◌, append_assoc, append-nil, add-one, arith}
use Rattle.std.proofs.Math.Seq.{take-suc}
use Rattle.std.specs.Char.{to_ascii_uppercase}
use Rattle.step_records.specs.Cells.{all_of}
use Rattle.step_records.proofs.Weights.{weight, weights, lighter}
use Rattle.devices.specs.steps.Prints.{Printing, Prints}
use Rattle.step_structures.specs.Trees.{Tree}
use Rattle.step_exchange.specs.Views.{record_in, form_in, rows_with}
use Rattle.step_literals.specs.Words.{upper}
use Rattle.step_structures.specs.Normal.{plain_tree, plain_more, plain_record, plain_partial_records, plain_row, plain_rows}
use Rattle.devices.proofs.Printing.{then_print, prints_as}

-- in a loop over a list: what the first elements come to is printed, and then what one more comes to
pub prints_next : {A S : Type 0} {held : S → Option (List ℕ)} {failed : S → Bool} {a b c : S} {p q r : Printing}
    (f : List A → List ℕ) (g : A → List ℕ) → ((xs : List A) (y : A) → f (xs ++ y ∷ []) ≡ f xs ++ g y)
    → (xs : List A) (i : ℕ) (x d : A) → i < length xs → x ≡ get_or xs i d → Prints held failed a b p q (f (take i xs))
    → Prints held failed b c q r (g x) → Prints held failed a c p r (f (take (i + 1) xs))
prints_next f g push xs i x d h e done next =
    let t : take (i + 1) xs ≡ take i xs ++ x ∷ [] = rw add-one (take-suc xs i d h ∙ ap (λ y. take i xs ++ y ∷ [])
    (sym e)) in
    prints_as (sym (ap f t ∙ push (take i xs) x)) (then_print done next)

pub upper_push : (xs : List ℕ) (y : ℕ) → upper (xs ++ y ∷ []) ≡ upper xs ++ to_ascii_uppercase y ∷ []
upper_push [] y = refl
upper_push (x ∷ xs) y = ap (λ l. to_ascii_uppercase x ∷ l) (upper_push xs y)

pub more_push : (xs : List Tree) (y : Tree) → plain_more (all_of (xs ++ y ∷ [])) ≡ plain_more (all_of xs)
    ++ (44 ∷ plain_tree y)
more_push [] y = append-nil (44 ∷ plain_tree y)
more_push (x ∷ xs) y = ap (λ l. (44 ∷ plain_tree x) ++ l) (more_push xs y)
    ∙ sym (append_assoc (44 ∷ plain_tree x) (plain_more (all_of xs)) (44 ∷ plain_tree y))

pub partial_records_push : (xs : List Tree) (y : Tree)
    → plain_partial_records (map record_in (xs ++ y ∷ [])) ≡ plain_partial_records (map record_in xs)
    ++ plain_record (record_in y)
partial_records_push [] y = append-nil (plain_record (record_in y))
partial_records_push (x ∷ xs) y = ap (λ l. plain_record (record_in x) ++ l) (partial_records_push xs y)
    ∙ sym (append_assoc (plain_record (record_in x)) (plain_partial_records (map record_in xs))
    (plain_record (record_in y)))

-- the first so many elements, and one more
pub take_next : {A : Type 0} → (xs : List A) (i : ℕ) (x : A) → slice_get xs i ≡ Some x → take (suc i) xs
    ≡ take i xs ++ x ∷ []
take_next [] i x e = absurd (cc)
take_next (y ∷ xs) zero x e = let same : y ≡ x = cc in ap (λ z. z ∷ []) same
take_next (y ∷ xs) (suc i) x e = ap (λ l. y ∷ l) (take_next xs i x e)

-- in a loop over a list: what the first elements come to is printed, and then what one more comes to
pub prints_at : {A S : Type 0} {held : S → Option (List ℕ)} {failed : S → Bool} {a b c : S} {p q r : Printing}
    (f : List A → List ℕ) (g : A → List ℕ) → ((xs : List A) (y : A) → f (xs ++ y ∷ []) ≡ f xs ++ g y)
    → (xs : List A) (i : ℕ) (x : A) → slice_get xs i ≡ Some x → Prints held failed a b p q (f (take i xs))
    → Prints held failed b c q r (g x) → Prints held failed a c p r (f (take (i + 1) xs))
prints_at f g push xs i x e done next =
    let t : take (i + 1) xs ≡ take i xs ++ x ∷ [] = rw add-one (take_next xs i x e) in
    prints_as (sym (ap f t ∙ push (take i xs) x)) (then_print done next)

-- those behind the first weigh less as well
pub lighter_behind : (xs further : List Tree) (i : ℕ) (x : Tree) → further ≡ drop 1 xs → slice_get further i ≡ Some x
    → suc (weight x) < weights xs
lighter_behind [] further i x f e = none_at i (ap (λ l. slice_get l i) (sym f) ∙ e)
  where
    none_at : (i : ℕ) → (let l : List Tree = [] in slice_get l i) ≡ Some x → suc (weight x) < weights []
    none_at i h = absurd (cc)
lighter_behind (y ∷ ys) further i x f e = lighter (y ∷ ys) (suc i) x (ap (λ l. slice_get l i) (sym f) ∙ e)

-- instances with so many names
pub rows_push : (ns : List ℕ) (xs : List Tree) (i n : ℕ) (x : Tree) → slice_get ns i ≡ Some n → slice_get xs i ≡ Some x
    → plain_rows (rows_with (take (suc i) ns) (take (suc i) xs)) ≡ plain_rows (rows_with (take i ns) (take i xs))
    ++ plain_row (record { name = n; form = form_in x })
rows_push [] xs i n x e f = absurd (cc)
rows_push (m ∷ ns) [] i n x e f = absurd (cc)
rows_push (m ∷ ns) (y ∷ xs) zero n x e f =
    let k : m ≡ n = cc in
    let l : y ≡ x = cc in
    append-nil (plain_row (record { name = m; form = form_in y }))
    ∙ (λ j. plain_row (record { name = k j; form = form_in (l j) }))
rows_push (m ∷ ns) (y ∷ xs) (suc i) n x e f =
    let r = plain_row (record { name = m; form = form_in y }) in
    ap (λ l. r ++ l) (rows_push ns xs i n x e f)
    ∙ sym (append_assoc r (plain_rows (rows_with (take i ns) (take i xs))) (plain_row (record {
      name = n;
      form = form_in x;
    })))

-- all of them, where no name or no tree is left
pub rows_all : (ns : List ℕ) (xs : List Tree) (i : ℕ) → length ns ≤ i → rows_with (take i ns) (take i xs)
    ≡ rows_with ns xs
rows_all [] xs zero h = refl
rows_all [] xs (suc i) h = refl
rows_all (n ∷ ns) xs zero h = absurd (omega (arith, h))
rows_all (n ∷ ns) [] (suc i) h = refl
rows_all (n ∷ ns) (x ∷ xs) (suc i) h = ap (λ l. record { name = n; form = form_in x } ∷ l)
    (rows_all ns xs i (omega (arith, h)))

pub rows_short : (ns : List ℕ) (xs : List Tree) (i : ℕ) → slice_get xs i ≡ None → rows_with (take i ns) (take i xs)
    ≡ rows_with ns xs
rows_short [] xs zero h = refl
rows_short [] xs (suc i) h = refl
rows_short (n ∷ ns) [] zero h = refl
rows_short (n ∷ ns) (x ∷ xs) zero h = absurd (cc)
rows_short (n ∷ ns) [] (suc i) h = refl
rows_short (n ∷ ns) (x ∷ xs) (suc i) h = ap (λ l. record { name = n; form = form_in x } ∷ l) (rows_short ns xs i h)
