-- The instances of a file, by row.
use Rattle.std.specs.Prelude.{◌≡◌, ℕ, zero, suc, ◌+◌, ◌-◌, ◌≤◌, List, [], ◌∷◌, ◌++◌, length, drop, Option, None, Some, slice_get}
use Rattle.std.proofs.Common.{refl, sym, subst, ◌∙◌, arith, add-one}
use Rattle.step_structures.specs.Trees.{Tree, ExchangeRow}
use Rattle.step_exchange.specs.declared.structure.Exchange.{Exchange}
use Rattle.step_exchange.specs.Views.{form_in, rows_with}
use Rattle.step_exchange.proofs.Named.{as-many, rows-are}
use Rattle.express_syntax.specs.Schemas.{Schema}
use Rattle.conformance.specs.Entities.{Entities}
use Rattle.population_findings.specs.steps.Rows.{rows_in, HasFormAmong, HaveForms}
use Rattle.population_findings.specs.steps.Making.{HaveFormsAmong}
use Rattle.population_rows.specs.declared.rows.Rows.{Rows}

-- the forms of trees are those of their rows
forms-of-rows : (s : Schema) (en : Entities) (t : Rows) (ns : List ℕ) (xs : List Tree) (os : List (Option ℕ))
    → length xs ≡ length ns → HaveFormsAmong s en t.forms.items xs os → HaveForms s en t (rows_with ns xs) os
forms-of-rows s en t [] [] [] h k = tt
forms-of-rows s en t [] [] (o ∷ os) h k = absurd k
forms-of-rows s en t [] (x ∷ xs) os h k = absurd (omega (arith, h))
forms-of-rows s en t (n ∷ ns) [] os h k = absurd (omega (arith, h))
forms-of-rows s en t (n ∷ ns) (x ∷ xs) [] h k = absurd k
forms-of-rows s en t (n ∷ ns) (x ∷ xs) (o ∷ os) h k =
    (k.0, forms-of-rows s en t ns xs os (omega (arith, h)) k.1)

pub have-forms : (s : Schema) (en : Entities) (t : Rows) (x : Exchange)
    → HaveFormsAmong s en t.forms.items (drop x.header_len x.trees) t.form_of.items
    → HaveForms s en t (rows_in x) t.form_of.items
have-forms s en t x h =
    subst (λ rs. HaveForms s en t rs t.form_of.items) (sym (rows-are x))
    (forms-of-rows s en t x.names (drop x.header_len x.trees) t.form_of.items (as-many x) h)

-- in a loop over rows
pub row-next : (ns : List ℕ) (xs : List Tree) (i n : ℕ) (x : Tree) → slice_get ns i ≡ Some n → slice_get xs i ≡ Some x
    → (slice_get (rows_with ns xs) i ≡ Some (record { name = n; form = form_in x }))
    × (drop i (rows_with ns xs) ≡ record { name = n; form = form_in x } ∷ drop (i + 1) (rows_with ns xs))
row-next [] xs i n x e f = absurd (cc)
row-next (m ∷ ns) [] i n x e f = absurd (cc)
row-next (m ∷ ns) (y ∷ xs) zero n x e f =
    let k : m ≡ n = cc in
    let l : y ≡ x = cc in (
      λ j. Some (record { name = k j; form = form_in (l j) }),
      (λ j. record { name = k j; form = form_in (l j) } ∷ rows_with ns xs),
    )
row-next (m ∷ ns) (y ∷ xs) (suc i) n x e f =
    let more = row-next ns xs i n x e f in
    (more.0, rw add-one (rw add-one at more.1))

pub rows-end : (ns : List ℕ) (xs : List Tree) (i : ℕ) → length ns ≤ i → drop i (rows_with ns xs) ≡ []
rows-end [] xs zero h = refl
rows-end [] xs (suc i) h = refl
rows-end (n ∷ ns) [] zero h = refl
rows-end (n ∷ ns) [] (suc i) h = refl
rows-end (n ∷ ns) (x ∷ xs) zero h = absurd (omega (arith, h))
rows-end (n ∷ ns) (x ∷ xs) (suc i) h = rows-end ns xs i (omega (arith, h))

pub rows-short : (ns : List ℕ) (xs : List Tree) (i : ℕ) → slice_get xs i ≡ None → drop i (rows_with ns xs) ≡ []
rows-short [] xs zero h = refl
rows-short [] xs (suc i) h = refl
rows-short (n ∷ ns) [] zero h = refl
rows-short (n ∷ ns) [] (suc i) h = refl
rows-short (n ∷ ns) (x ∷ xs) zero h = absurd (cc)
rows-short (n ∷ ns) (x ∷ xs) (suc i) h = rows-short ns xs i h

pub form-of-row : (s : Schema) (en : Entities) (t : Rows) (rs : List ExchangeRow) (os : List (Option ℕ)) (i : ℕ) (r : ExchangeRow)
    → HaveForms s en t rs os → slice_get rs i ≡ Some r
    → (o : Option ℕ) × (slice_get os i ≡ Some o) × HasFormAmong s en t.forms.items r.form o
form-of-row s en t [] os i r h e = absurd (cc)
form-of-row s en t (q ∷ rs) [] i r h e = absurd h
form-of-row s en t (q ∷ rs) (o ∷ os) zero r h e =
    let same : q ≡ r = cc in
    (o, refl, subst (λ (z : ExchangeRow). HasFormAmong s en t.forms.items z.form o) same h.0)
form-of-row s en t (q ∷ rs) (o ∷ os) (suc i) r h e = form-of-row s en t rs os i r h.1 e
