-- The numbers of the rules that are tried at instances of a form.
use Rattle.std.specs.Prelude.{◌≡◌, ℕ, zero, suc, ◌+◌, ◌<◌, Bool, true, false, cond, List, [], ◌∷◌, map, length, Option, None, Some}
use Rattle.std.proofs.Common.{sym, ap, ◌∙◌, drop, get_or, add-one, arith}
use Rattle.express_syntax.specs.Profile.{Every}
use Rattle.population_rows.specs.declared.form.Form.{Form}
use Rattle.typed_populations.proofs.Turns.{drop-got}
use Rattle.population_inverses.specs.steps.Inverses.{row_by}
use Rattle.schema_domain_rules.specs.declared.rule.DomainRule.{DomainRule}
use Rattle.rule_plans.specs.steps.Applying.{may_apply, numbers_by}

-- the numbers are within the list
pub numbers-within : (rules : List DomainRule) (n m : ℕ) (x : Form) → n + length rules ≡ m
    → Every (λ k. k < m) (numbers_by rules n x)
numbers-within [] n m x e = tt
numbers-within (r ∷ rules) n m x e =
    by (may_apply x r) (numbers-within rules (suc n) m x (omega (arith, e)))
  where
    by : (b : Bool) → Every (λ k. k < m) (numbers_by rules (suc n) x)
        → Every (λ k. k < m) (cond b (n ∷ numbers_by rules (suc n) x) (numbers_by rules (suc n) x))
    by true h = (omega (arith, e), h)
    by false h = h

pub row-within : (rules : List DomainRule) (forms : List Form) (n : Option ℕ)
    → Every (λ k. k < length rules) (row_by (map (numbers_by rules 0) forms) n)
row-within rules forms None = tt
row-within rules [] (Some n) = tt
row-within rules (x ∷ forms) (Some zero) = numbers-within rules 0 (length rules) x (omega arith)
row-within rules (x ∷ forms) (Some (suc n)) = row-within rules forms (Some n)

-- one number more
pub next-number : (rules : List DomainRule) (n : ℕ) (r : DomainRule) (x : Form) → n < length rules
    → r ≡ get_or rules n r
    → numbers_by (drop n rules) n x
    ≡ cond (may_apply x r) (n ∷ numbers_by (drop (n + 1) rules) (n + 1) x) (numbers_by (drop (n + 1) rules) (n + 1) x)
next-number rules n r x lt at =
    ap (λ l. numbers_by l n x) (drop-got rules n r lt at)
    ∙ ap (λ m. cond (may_apply x r) (n ∷ numbers_by (drop (n + 1) rules) m x) (numbers_by (drop (n + 1) rules) m x))
    (sym (add-one n))
