-- A derived attribute below the limit weighs more than what is below it.
use Rattle.std.proofs.Common.{◌≡◌, ◌<◌, ◌≤◌, ◌+◌, ℕ, zero, suc, Bool, true, false, List, [], ◌∷◌, nat_lt, refl, ap, sym, ◌∙◌, arith}
use Rattle.std.specs.Prelude.{if◌then◌else◌, Option, Some, None, slice_get}
use Rattle.std.proofs.lemmas.Bool.Decides.{nat_tests}
use Rattle.express_syntax.specs.declared.expression.Expr.{size-Expr}
use Rattle.std.specs.Option.{option_flatten}
use Rattle.schema_derived_attributes.specs.declared.formula.Formula.{Formula}
use Rattle.rule_evaluation.specs.steps.Weights.{weight_at, weight}

grows : (b c : Bool) (n : ℕ) → (b ≡ true → c ≡ true) → (if b then n else 0) ≤ (if c then n else 0)
grows true true n h = omega arith
grows false true n h = omega arith
grows false false n h = omega arith
grows true false n h = absurd (let k : false ≡ true = h refl in cc)

later : (a r s : ℕ) → r < s → nat_lt a r ≡ true → nat_lt a s ≡ true
later a r s l h = grind (arith, nat_tests, l, h)

at_grows : (o : Option Formula) (r s : ℕ) → r < s → weight_at o r ≤ weight_at o s
at_grows None r s l = omega arith
at_grows (Some f) r s l =
    grows (nat_lt f.rank r) (nat_lt f.rank s) (suc (size-Expr f.expression.now)) (later f.rank r s l)

weight_grows : (fs : List (Option Formula)) (r s : ℕ) → r < s → weight fs r ≤ weight fs s
weight_grows [] r s l = omega arith
weight_grows (f ∷ fs) r s l = omega (arith, at_grows f r s l, weight_grows fs r s l)

not_itself : (a : ℕ) → nat_lt a a ≡ false
not_itself a = grind (arith, nat_tests)

is_below : (a r : ℕ) → a < r → nat_lt a r ≡ true
is_below a r l = grind (arith, nat_tests, l)

at_itself : (o : Option Formula) (f : Formula) (r : ℕ) → o ≡ Some f → f.rank < r
    → suc (size-Expr f.expression.now) + weight_at o f.rank ≡ weight_at o r
at_itself o f r e h =
    ap (λ x. suc (size-Expr f.expression.now) + weight_at x f.rank) e
    ∙ ap (λ b. suc (size-Expr f.expression.now) + (if b then suc (size-Expr f.expression.now) else 0)) (not_itself f.rank)
    ∙ same ∙ ap (λ b. if b then suc (size-Expr f.expression.now) else 0) (sym (is_below f.rank r h))
    ∙ ap (λ x. weight_at x r) (sym e)
  where
    same : suc (size-Expr f.expression.now) + 0 ≡ suc (size-Expr f.expression.now)
    same = omega arith

pub weighs_more : (fs : List (Option Formula)) (i : ℕ) (f : Formula) (r : ℕ) → option_flatten (slice_get fs i) ≡ Some f → f.rank < r
    → size-Expr f.expression.now + weight fs f.rank < weight fs r
weighs_more [] i f r e h = absurd (let k : None ≡ Some f = e in cc)
weighs_more (o ∷ fs) zero f r e h = omega (arith, at_itself o f r e h, weight_grows fs f.rank r h)
weighs_more (o ∷ fs) (suc i) f r e h = omega (arith, at_grows o f.rank r h, weighs_more fs i f r e h)
