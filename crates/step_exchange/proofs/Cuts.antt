-- Instances cut into data sections.
use Rattle.std.proofs.Common.{◌≡◌, ℕ, ◌+◌, ◌-◌, ◌<◌, zero, suc, add-one, get_or, List, [], ◌∷◌, ◌++◌, length, take, drop, refl, sym, ap, ◌∙◌, subst, append_assoc, append-nil, length-append, arith}
use Rattle.step_exchange.specs.declared.section.Section as code
use Rattle.step_structures.specs.Trees.{Tree, ExchangeRow, Section, rows_of}
use Rattle.step_exchange.specs.Views.{form_in, rows_with}
use Rattle.step_exchange.specs.Sections.{CountsTo, heading_of, sections_of}

-- behind so many instances these sections say where those are cut
abbrev pub Cut : ℕ → List code.Section → List Section → Type 0
Cut from [] [] = Unit {0}
Cut from (s ∷ ss) (x ∷ xs) = (heading_of s.heading ≡ x.heading) × (s.past ≡ from + length x.rows) × Cut s.past ss xs
Cut from _ _ = ⊥

taken : (a b : List ExchangeRow) → take (length a) (a ++ b) ≡ a
taken [] b = refl
taken (x ∷ a) b = ap (λ l. x ∷ l) (taken a b)

dropped : (a b : List ExchangeRow) → drop (length a) (a ++ b) ≡ b
dropped [] b = refl
dropped (x ∷ a) b = dropped a b

-- sections that are cut where these say are these sections
pub cut_is : (from : ℕ) (ss : List code.Section) (xs : List Section) → Cut from ss xs
    → sections_of from ss (rows_of xs) ≡ xs
cut_is from [] [] h = refl
cut_is from [] (x ∷ xs) h = absurd h
cut_is from (s ∷ ss) [] h = absurd h
cut_is from (s ∷ ss) (x ∷ xs) h =
    let n : s.past - from ≡ length x.rows = omega (arith, h.1) in
    let front : take (s.past - from) (x.rows ++ rows_of xs) ≡ x.rows = ap (λ k. take k (x.rows ++ rows_of xs)) n
    ∙ taken x.rows (rows_of xs) in
    let back : drop (s.past - from) (x.rows ++ rows_of xs) ≡ rows_of xs = ap (λ k. drop k (x.rows ++ rows_of xs)) n
    ∙ dropped x.rows (rows_of xs) in
    let more = ap (λ l. sections_of s.past ss l) back ∙ cut_is s.past ss xs h.2 in
    λ i. record { heading = h.0 i; rows = front i } ∷ more i

-- sections that are cut where these say count to the number of their instances
pub cut_counts : (from : ℕ) (ss : List code.Section) (xs : List Section) → Cut from ss xs
    → CountsTo from ss (from + length (rows_of xs))
cut_counts from [] [] h = omega arith
cut_counts from [] (x ∷ xs) h = absurd h
cut_counts from (s ∷ ss) [] h = absurd h
cut_counts from (s ∷ ss) (x ∷ xs) h =
    let all : s.past + length (rows_of xs) ≡ from + length (x.rows ++ rows_of xs) = omega (
      arith,
      h.1,
      length-append
          x.rows (rows_of xs),
    ) in
    (omega (arith, h.1), subst (CountsTo s.past ss) all (cut_counts s.past ss xs h.2))

-- one more section
pub cut_push : (from : ℕ) (ss : List code.Section) (xs : List Section) (s : code.Section) (x : Section) → Cut from ss xs
    → heading_of s.heading ≡ x.heading → s.past ≡ from + length (rows_of xs) + length x.rows
    → Cut from (ss ++ s ∷ []) (xs ++ x ∷ [])
cut_push from [] [] s x h e f = (e, omega (arith, f), tt)
cut_push from [] (y ∷ xs) s x h e f = absurd h
cut_push from (r ∷ ss) [] s x h e f = absurd h
cut_push from (r ∷ ss) (y ∷ xs) s x h e f = (
  h.0,
  h.1,
  cut_push r.past ss xs s x h.2 e (omega (arith, f, h.1, length-append y.rows (rows_of xs))),
)

pub rows_more : (xs : List Section) (x : Section) → rows_of (xs ++ x ∷ []) ≡ rows_of xs ++ x.rows
rows_more [] x = append-nil x.rows
rows_more (y ∷ xs) x = ap (λ l. y.rows ++ l) (rows_more xs x) ∙ sym (append_assoc y.rows (rows_of xs) x.rows)

-- so many of the instances are of so many names and trees
pub rows_taken : (k : ℕ) (ns : List ℕ) (xs : List Tree) → take k (rows_with ns xs) ≡ rows_with (take k ns) (take k xs)
rows_taken zero ns xs = none_of ns xs
  where
    none_of : (ns : List ℕ) (xs : List Tree) → take 0 (rows_with ns xs) ≡ []
    none_of ns xs = refl
rows_taken (suc k) [] xs = refl
rows_taken (suc k) (n ∷ ns) [] = refl
rows_taken (suc k) (n ∷ ns) (x ∷ xs) = ap (λ l. record { name = n; form = form_in x } ∷ l) (rows_taken k ns xs)

no_rows : (ns : List ℕ) → rows_with ns [] ≡ []
no_rows [] = refl
no_rows (n ∷ ns) = refl

pub rows_dropped : (k : ℕ) (ns : List ℕ) (xs : List Tree) → drop k (rows_with ns xs) ≡ rows_with (drop k ns) (drop k xs)
rows_dropped zero ns xs = refl
rows_dropped (suc k) [] xs = refl
rows_dropped (suc k) (n ∷ ns) [] = sym (no_rows (drop k ns))
rows_dropped (suc k) (n ∷ ns) (x ∷ xs) = rows_dropped k ns xs

-- what is left of a list from one of its elements on
drop_at : {A : Type 0} → (xs : List A) (i : ℕ) (x d : A) → i < length xs → x ≡ get_or xs i d
    → drop i xs ≡ x ∷ drop (suc i) xs
drop_at [] i x d h e = absurd (let n : ⊥ = omega (arith, h) in n)
drop_at (y ∷ xs) zero x d h e = λ i. sym e i ∷ xs
drop_at (y ∷ xs) (suc i) x d h e = drop_at xs i x d (omega (arith, h)) e

pub drop_next : {A : Type 0} → (xs : List A) (i : ℕ) (x d : A) → i < length xs → x ≡ get_or xs i d
    → drop i xs ≡ x ∷ drop (i + 1) xs
drop_next xs i x d h e = rw add-one (drop_at xs i x d h e)
