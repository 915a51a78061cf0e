-- What is above some numbers is above all types.
use Rattle.std.specs.Prelude.{◌≡◌, ℕ, Bool, true, false, ◌||◌, List, [], ◌∷◌, eqb, ◌⊎◌}
use Rattle.std.specs.List.{list_any}
use Rattle.std.proofs.Common.{refl, inl, inr, sym, subst, ◌∙◌}
use Rattle.graphs.specs.Graphs.{Graph, has, next, Step}
use Rattle.express_syntax.specs.Schemas.{Schema}
use Rattle.schema_semantics.proofs.Bools.{or-left, or-right}
use Rattle.schema_semantics.proofs.Lists.{leads-joined}
use Rattle.schema_explicit_attributes.specs.Supertypes.{AreAbove}
use Rattle.population_forms.specs.steps.Marked.{AreSorted, is_above, is_kind}
use Rattle.population_forms.proofs.Naming.{same-test, same-number, equals-itself}
use Rattle.population_forms.proofs.Kindred.{either}

or-false : (b : Bool) → (b || false) ≡ b
or-false true = refl
or-false false = refl

any-found : (f : ℕ → Bool) (xs : List ℕ) → list_any f xs ≡ true → (k : ℕ) × (has xs k ≡ true) × (f k ≡ true)
any-found f [] e = absurd (cc)
any-found f (x ∷ xs) e = by (either (f x) (list_any f xs) e) (any-found f xs)
  where
    by : (f x ≡ true) ⊎ (list_any f xs ≡ true)
        → (list_any f xs ≡ true → (k : ℕ) × (has xs k ≡ true) × (f k ≡ true))
        → (k : ℕ) × (has (x ∷ xs) k ≡ true) × (f k ≡ true)
    by (inl here) more = (x, or-left (eqb x x) (has xs x) (equals-itself x), here)
    by (inr there) more =
        let (k, among, holds) = more there in (k, or-right (eqb k x) (has xs k) among, holds)

any-holds : (f : ℕ → Bool) (xs : List ℕ) (k : ℕ) → has xs k ≡ true → f k ≡ true → list_any f xs ≡ true
any-holds f [] k among holds = absurd (cc)
any-holds f (x ∷ xs) k among holds = by (either (eqb k x) (has xs k) among) (any-holds f xs k)
  where
    by : (eqb k x ≡ true) ⊎ (has xs k ≡ true) → (has xs k ≡ true → f k ≡ true → list_any f xs ≡ true)
        → list_any f (x ∷ xs) ≡ true
    by (inl here) more =
        or-left (f x) (list_any f xs) (subst (λ y. f y ≡ true) (same-number k x here) holds)
    by (inr there) more = or-right (f x) (list_any f xs) (more there holds)

-- above an entity is what is above its kinds
pub above-kinds : (s : Schema) (rows : Graph) → AreAbove s rows → (i : ℕ) (types : List ℕ)
    → AreSorted (is_kind rows i) types → (j : ℕ) → is_above rows (i ∷ []) j ≡ is_above rows types j
above-kinds s rows h i types on j =
    same-test (is_above rows (i ∷ []) j) (is_above rows types j) forth back
  where
    forth : (has (next rows i) j || false) ≡ true → is_above rows types j ≡ true
    forth e =
        any-holds (λ k. has (next rows k) j) types i
        (on.told i ∙ or-left (eqb i i) (has (next rows i) i) (equals-itself i)) (sym (or-false (has (next rows i) j)) ∙ e)

    through : (k : ℕ) → (eqb i k ≡ true) ⊎ (has (next rows i) k ≡ true) → has (next rows k) j ≡ true
        → has (next rows i) j ≡ true
    through k (inl same) e = subst (λ x. has (next rows x) j ≡ true) (sym (same-number i k same)) e
    through k (inr up) e =
        (h.closed.reached i j).1
        (leads-joined (Step h.graph) i k j ((h.closed.reached i k).0 up) ((h.closed.reached k j).0 e))

    back : is_above rows types j ≡ true → (has (next rows i) j || false) ≡ true
    back e =
        let (k, among, up) = any-found (λ x. has (next rows x) j) types e in
        or-left (has (next rows i) j) false
        (through k (either (eqb i k) (has (next rows i) k) (sym (on.told k) ∙ among)) up)

-- what is above some numbers is what is above them in rising order
pub above-listed : (rows : Graph) (row types : List ℕ) → AreSorted (has row) types → (j : ℕ)
    → is_above rows row j ≡ is_above rows types j
above-listed rows row types on j =
    same-test (is_above rows row j) (is_above rows types j)
    (λ e. (let (k, among, up) = any-found (λ x. has (next rows x) j) row e in
    any-holds (λ x. has (next rows x) j) types k (on.told k ∙ among) up))
    (λ e. (let (k, among, up) = any-found (λ x. has (next rows x) j) types e in
    any-holds (λ x. has (next rows x) j) row k (sym (on.told k) ∙ among) up))
