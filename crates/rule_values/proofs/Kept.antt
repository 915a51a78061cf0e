-- A query keeps the elements that pass.
use Rattle.std.proofs.Common.{◌≡◌, ◌<◌, ◌≤◌, ◌+◌, ℕ, zero, suc, Bool, true, false, List, [], ◌∷◌, ◌++◌, refl, ap, sym, ◌∙◌, arith}
use Rattle.std.specs.Prelude.{if◌then◌else◌}
use Rattle.express_syntax.specs.declared.expression.Logical.{Logical}
use Rattle.express_logic.specs.Data.{Datum, Data, none, more}
use Rattle.express_logic.specs.Holdings.{size_of, element_at}
use Rattle.conformance.specs.Operations.{filtered, is_true}
use Rattle.rule_values.specs.Parts.{picked, or_indeterminate}

-- the elements behind the first n
abbrev pub behind : ℕ → Data → Data
behind n none = none
behind zero (more d ds) = more d ds
behind (suc n) (more d ds) = behind n ds

pub behind_zero : (ds : Data) → behind 0 ds ≡ ds
behind_zero none = refl
behind_zero (more d ds) = refl

behind_all : (ds : Data) → behind (size_of ds) ds ≡ none
behind_all none = refl
behind_all (more d ds) = behind_all ds

abbrev pub glue : Data → Data → Data
glue none es = es
glue (more d ds) es = more d (glue ds es)

glue_none : (ds : Data) → glue ds none ≡ ds
glue_none none = refl
glue_none (more d ds) = ap (more d) (glue_none ds)

glue_one : (is : List ℕ) (k : ℕ) (base es : Data)
    → glue (picked (is ++ k ∷ []) base) es ≡ glue (picked is base) (more (or_indeterminate (element_at k base)) es)
glue_one [] k base es = refl
glue_one (i ∷ is) k base es = ap (more (or_indeterminate (element_at i base))) (glue_one is k base es)

behind_there : (i : ℕ) (ds : Data) → i < size_of ds
    → behind i ds ≡ more (or_indeterminate (element_at i ds)) (behind (suc i) ds)
behind_there i none l = absurd (omega (arith, l))
behind_there zero (more d ds) l = ap (more d) (sym (behind_zero ds))
behind_there (suc i) (more d ds) l = behind_there i ds (omega (arith, l))

module _ (p : Datum → Logical) where
  -- what is kept and what is left are all that passes
  abbrev pub Keeps : Data → Data → List ℕ → ℕ → Type 0
  Keeps base es is i = glue (picked is base) (filtered p (behind i es)) ≡ filtered p es

  pub keeps_none : (base es : Data) (is : List ℕ) → is ≡ [] → Keeps base es is 0
  keeps_none base es is e = ap (λ xs. glue (picked xs base) (filtered p (behind 0 es))) e ∙ ap (filtered p) (behind_zero es)

  filtered_if : (d : Datum) (ds : Data) (b : Bool) → b ≡ is_true (p d)
      → filtered p (more d ds) ≡ (if b then more d (filtered p ds) else filtered p ds)
  filtered_if d ds b h = ap (λ c. if c then more d (filtered p ds) else filtered p ds) (sym h)

  pub keeps_next : (base es : Data) (is ks : List ℕ) (k i : ℕ) (b : Bool) → i < size_of es
      → b ≡ is_true (p (or_indeterminate (element_at i es)))
      → or_indeterminate (element_at k base) ≡ or_indeterminate (element_at i es)
      → ks ≡ (if b then is ++ k ∷ [] else is) → Keeps base es is i → Keeps base es ks (suc i)
  keeps_next base es is ks k i true l h e g before =
      ap (λ xs. glue (picked xs base) (filtered p (behind (suc i) es))) g
      ∙ glue_one is k base (filtered p (behind (suc i) es))
      ∙ ap (λ d. glue (picked is base) (more d (filtered p (behind (suc i) es)))) e
      ∙ ap (glue (picked is base)) (sym (ap (filtered p) (behind_there i es l)
      ∙ filtered_if (or_indeterminate (element_at i es)) (behind (suc i) es) true h)) ∙ before
  keeps_next base es is ks k i false l h e g before =
      ap (λ xs. glue (picked xs base) (filtered p (behind (suc i) es))) g
      ∙ ap (glue (picked is base)) (sym (ap (filtered p) (behind_there i es l)
      ∙ filtered_if (or_indeterminate (element_at i es)) (behind (suc i) es) false h)) ∙ before

  pub keeps_all : (base es : Data) (is : List ℕ) (i : ℕ) → i ≡ size_of es → Keeps base es is i
      → picked is base ≡ filtered p es
  keeps_all base es is i e before =
      sym (glue_none (picked is base))
      ∙ ap (λ ds. glue (picked is base) (filtered p ds)) (sym (ap (λ n. behind n es) e ∙ behind_all es)) ∙ before

  -- what is counted and what is left to count are all that pass
  abbrev pub Counts : Data → ℕ → ℕ → Type 0
  Counts es n i = n + size_of (filtered p (behind i es)) ≡ size_of (filtered p es)

  pub counts_none : (es : Data) → Counts es 0 0
  counts_none es = let all = ap (λ ds. size_of (filtered p ds)) (behind_zero es) in omega (arith, all)

  pub counts_next : (es : Data) (n k i : ℕ) (b : Bool) → i < size_of es
      → b ≡ is_true (p (or_indeterminate (element_at i es))) → k ≡ (if b then suc n else n) → Counts es n i
      → Counts es k (suc i)
  counts_next es n k i true l h g before =
      let one : size_of (filtered p (behind i es)) ≡ suc (size_of (filtered p (behind (suc i) es))) =
      ap (λ ds. size_of (filtered p ds)) (behind_there i es l)
      ∙ ap size_of (filtered_if (or_indeterminate (element_at i es)) (behind (suc i) es) true h) in
      omega (arith, one, g, before)
  counts_next es n k i false l h g before =
      let same : size_of (filtered p (behind i es)) ≡ size_of (filtered p (behind (suc i) es)) =
      ap (λ ds. size_of (filtered p ds)) (behind_there i es l)
      ∙ ap size_of (filtered_if (or_indeterminate (element_at i es)) (behind (suc i) es) false h) in
      omega (arith, same, g, before)

  pub counts_all : (es : Data) (n i : ℕ) → i ≡ size_of es → Counts es n i → n ≡ size_of (filtered p es)
  counts_all es n i e before =
      let none : size_of (filtered p (behind i es)) ≡ 0 =
      ap (λ ds. size_of (filtered p ds)) (ap (λ k. behind k es) e ∙ behind_all es) in
      omega (arith, none, before)

-- a count is no greater than what is counted
pub counts_within : (n k i : ℕ) (b : Bool) → k ≡ (if b then suc n else n) → n ≤ i → k ≤ i + 1
counts_within n k i true g l = omega (arith, g, l)
counts_within n k i false g l = omega (arith, g, l)
