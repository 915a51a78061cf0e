-- Walks through the elements of an aggregate.
use Rattle.std.proofs.Common.{◌≡◌, ℕ, zero, suc, refl, ap, sym, ◌∙◌}
use Rattle.express_syntax.specs.declared.expression.Logical.{Logical}
use Rattle.express_syntax.specs.declared.expression.Logical.TheVariants.{False, Unknown, True}
use Rattle.express_logic.specs.Logic.{either}
use Rattle.express_logic.specs.Data.{Datum, Data, none, more}
use Rattle.express_logic.specs.Comparison.{Scalar, scalar, equal_scalars, among}
use Rattle.express_logic.specs.Holdings.{size_of, element_at}
use Rattle.express_logic.specs.steps.Steps.{equal_in, among_scalars}

-- the elements behind the first n
abbrev pub behind : ℕ → Data → Data
behind n none = none
behind zero (more d ds) = more d ds
behind (suc n) (more d ds) = behind n ds

behind_zero : (ds : Data) → behind 0 ds ≡ ds
behind_zero none = refl
behind_zero (more d ds) = refl

behind_all : (ds : Data) → behind (size_of ds) ds ≡ none
behind_all none = refl
behind_all (more d ds) = behind_all ds

either_false : (p : Logical) → either False p ≡ p
either_false False = refl
either_false Unknown = refl
either_false True = refl

either_none : (p : Logical) → either p False ≡ p
either_none False = refl
either_none Unknown = refl
either_none True = refl

either_true : (p : Logical) → either p True ≡ True
either_true False = refl
either_true Unknown = refl
either_true True = refl

either_groups : (p q r : Logical) → either (either p q) r ≡ either p (either q r)
either_groups True q r = refl
either_groups False q r = ap (λ p. either p r) (either_false q) ∙ sym (either_false (either q r))
either_groups Unknown False False = refl
either_groups Unknown False Unknown = refl
either_groups Unknown False True = refl
either_groups Unknown Unknown False = refl
either_groups Unknown Unknown Unknown = refl
either_groups Unknown Unknown True = refl
either_groups Unknown True r = refl

-- what was found so far and what is left decide
abbrev pub So : Scalar → Data → ℕ → Logical → Logical
So s es n p = either p (among_scalars s (behind n es))

pub starts : (s : Scalar) (es : Data) → So s es 0 False ≡ among_scalars s es
starts s es = either_false (among_scalars s (behind 0 es)) ∙ ap (among_scalars s) (behind_zero es)

-- one element more
pub goes_on : (s : Scalar) (es : Data) (n : ℕ) (p : Logical)
    → So s es (suc n) (either p (equal_in s (element_at n es))) ≡ So s es n p
goes_on s none n p = either_groups p False False
goes_on s (more e es) zero p =
    either_groups p (equal_scalars s (scalar e)) (among_scalars s (behind 0 es))
    ∙ ap (λ ds. either p (either (equal_scalars s (scalar e)) (among_scalars s ds))) (behind_zero es)
goes_on s (more e es) (suc n) p = goes_on s es n p

-- an equal element
pub found : (s : Scalar) (es : Data) (n : ℕ) (p : Logical) → equal_in s (element_at n es) ≡ True → So s es n p ≡ True
found s es n p h =
    sym (goes_on s es n p) ∙ ap (λ q. So s es (suc n) (either p q)) h
    ∙ ap (λ q. So s es (suc n) q) (either_true p)

pub ends : (s : Scalar) (es : Data) (n : ℕ) (p : Logical) → n ≡ size_of es → So s es n p ≡ p
ends s es n p e = ap (λ k. So s es k p) e ∙ ap (λ ds. either p (among_scalars s ds)) (behind_all es) ∙ either_none p

-- an element by what it is compared by
pub among_is : (d : Datum) (es : Data) → among_scalars (scalar d) es ≡ among d es
among_is d none = refl
among_is d (more e es) = ap (either (equal_scalars (scalar d) (scalar e))) (among_is d es)
