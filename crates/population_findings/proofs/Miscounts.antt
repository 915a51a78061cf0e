-- Numbers of parameters, record by record.
use Rattle.std.specs.Prelude.{◌≡◌, ℕ, zero, suc, ◌+◌, ◌<◌, cond, List, [], ◌∷◌, length, map, drop, Some, slice_get, get_or, ◌==◌}
use Rattle.std.proofs.Common.{refl, sym, ap, ◌∙◌, arith, add-one}
use Rattle.step_structures.specs.Trees.{Tree, Record}
use Rattle.std.proofs.lemmas.Option.{slice_get-get_or}
use Rattle.std.proofs.lemmas.Bool.{eq-eqb, ne_eqb}
use Rattle.step_records.specs.Cells.{all_of}
use Rattle.step_exchange.specs.Views.{record_in, record_of}
use Rattle.step_exchange.proofs.SchemaNames.{values_behind}
use Rattle.conformance.specs.ParameterFits.{count}
use Rattle.population_findings.specs.steps.Counting.{has_as_many, miscounts}

pub miscounts-next : (ns : List ℕ) (xs : List Tree) (i : ℕ) (x : Tree) → slice_get xs i ≡ Some x
    → miscounts (drop i ns) (map record_in (drop i xs))
    ≡ cond (has_as_many (record_in x) (slice_get ns i)) 0 1
    + miscounts (drop (suc i) ns) (map record_in (drop (suc i) xs))
miscounts-next ns [] i x at = absurd (cc)
miscounts-next [] (y ∷ xs) zero x at = refl
miscounts-next (n ∷ ns) (y ∷ xs) zero x at =
    let same : y ≡ x = cc in
    ap (λ z. cond (has_as_many (record_in z) (Some n)) 0 1 + miscounts ns (map record_in xs)) same
miscounts-next [] (y ∷ xs) (suc i) x at = on i (miscounts-next [] xs i x at)
  where
    on : (i : ℕ) → miscounts (drop i []) (map record_in (drop i xs))
        ≡ cond (has_as_many (record_in x) (slice_get [] i)) 0 1
        + miscounts (drop (suc i) []) (map record_in (drop (suc i) xs))
        → miscounts (drop (suc i) []) (map record_in (drop i xs))
        ≡ cond (has_as_many (record_in x) (slice_get [] (suc i))) 0 1
        + miscounts (drop (suc (suc i)) []) (map record_in (drop (suc i) xs))
    on zero h = h
    on (suc i) h = h
miscounts-next (n ∷ ns) (y ∷ xs) (suc i) x at = miscounts-next ns xs i x at

pub miscounts-more : (ns : List ℕ) (xs : List Tree) (i : ℕ) (x : Tree) → slice_get xs i ≡ Some x
    → miscounts (drop i ns) (map record_in (drop i xs))
    ≡ cond (has_as_many (record_in x) (slice_get ns i)) 0 1
    + miscounts (drop (i + 1) ns) (map record_in (drop (i + 1) xs))
miscounts-more ns xs i x at = rw add-one (miscounts-next ns xs i x at)

pub miscounts-one : (ns : List ℕ) (r : Record) → cond (has_as_many r (slice_get ns 0)) 0 1 ≡ miscounts ns (r ∷ [])
miscounts-one [] r = refl
miscounts-one (n ∷ ns) r = omega arith

counted-all : (xs : List Tree) → count (all_of xs) ≡ length xs
counted-all [] = refl
counted-all (x ∷ xs) = let more = counted-all xs in omega (arith, more)

module _ (parts values : List Tree) (ns : List ℕ) (i : ℕ) (own : values ≡ drop 1 parts) (within : i < length ns) where
  has-is : has_as_many (record_of parts) (slice_get ns i) ≡ (length values == get_or ns i 0)
  has-is =
      ap (has_as_many (record_of parts)) (slice_get-get_or ns i 0 within)
      ∙ ap (λ k. k == get_or ns i 0)
      (ap count (values_behind parts) ∙ ap (λ l. count (all_of l)) (sym own) ∙ counted-all values)

  pub count-right : length values ≡ get_or ns i 0
      → ◌≡◌ {A = ℕ} 0 (cond (has_as_many (record_of parts) (slice_get ns i)) 0 1)
  count-right e = sym (ap (λ b. cond b 0 1) (has-is ∙ eq-eqb (length values) (get_or ns i 0) e))

  pub count-wrong : (length values ≡ get_or ns i 0 → ⊥)
      → ◌≡◌ {A = ℕ} 1 (cond (has_as_many (record_of parts) (slice_get ns i)) 0 1)
  count-wrong f = sym (ap (λ b. cond b 0 1) (has-is ∙ ne_eqb (length values) (get_or ns i 0) f))
