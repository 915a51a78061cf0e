-- A limit of ranks, raised formula by formula.
use Rattle.std.specs.Prelude.{◌≡◌, ℕ, ◌≤◌, max, List, [], ◌∷◌, ◌++◌, Option}
use Rattle.std.proofs.Common.{sym, subst, arith}
use Rattle.std.proofs.lemmas.Bool.Decides.{nat_tests}
use Rattle.express_syntax.proofs.Lists.{every_push}
use Rattle.schema_derived_attributes.specs.declared.formula.Formula.{Formula}
use Rattle.rule_plans.specs.Limits.{above_rank, AreRanksBelow}

limit-weaker : (fs : List (Option Formula)) (m n : ℕ) → m ≤ n → AreRanksBelow fs m → AreRanksBelow fs n
limit-weaker [] m n l h = tt
limit-weaker (f ∷ fs) m n l h = (omega (arith, l, h.0), limit-weaker fs m n l h.1)

left-most : (m a : ℕ) → m ≤ max m a
left-most m a = grind (arith, nat_tests)

right-most : (m a : ℕ) → a ≤ max m a
right-most m a = grind (arith, nat_tests)

-- one formula more
pub limit-next : (fs gs : List (Option Formula)) (o : Option Formula) (m n : ℕ) → gs ≡ fs ++ o ∷ []
    → n ≡ max m (above_rank o) → AreRanksBelow fs m → AreRanksBelow gs n
limit-next fs gs o m n e h l =
    subst (λ k. AreRanksBelow gs k) (sym h)
    (subst (λ xs. AreRanksBelow xs (max m (above_rank o))) (sym e)
    (every_push (λ p. above_rank p ≤ max m (above_rank o)) fs o
    (limit-weaker fs m (max m (above_rank o)) (left-most m (above_rank o)) l) (right-most m (above_rank o))))
