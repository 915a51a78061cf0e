-- Rules of a plan, and the values of SELF that are left to be tried.
use Rattle.std.specs.Prelude.{◌≡◌, ℕ, zero, suc, Bool, true, false, cond, List, [], ◌∷◌, ◌++◌, map, Some, slice_get}
use Rattle.std.proofs.Common.{inl, inr, ap, sym, ◌∙◌, append-nil}
use Rattle.std.proofs.lemmas.List.{map-append}
use Rattle.express_syntax.specs.declared.expression.Logical.{Logical}
use Rattle.express_logic.specs.Data.{Datum}
use Rattle.express_logic.specs.Logic.{both}
use Rattle.schema_semantics.specs.Names.{Among}
use Rattle.schema_domain_rules.specs.declared.rule.RuleHolder.TheVariants as holders
use Rattle.schema_domain_rules.specs.declared.rule.DomainRule.{DomainRule}
use Rattle.rule_values.specs.Parts.{element_datum}
use Rattle.rule_plans.specs.declared.found_values.Typed.{Typed}
use Rattle.rule_plans.specs.steps.Seeking.{those, told_in}
use Rattle.rule_plans.specs.steps.Wanted.{States}
use Rattle.rule_plans.proofs.Sifting.{those-joined}
use Rattle.rule_outcomes.proofs.Least.{least_with, with-last, map-last}

-- a rule of a plan is stated by its holder
pub states-of : (rules : List DomainRule) (r : DomainRule) (t : ℕ) → r.holder ≡ holders.Type t → Among r rules
    → States rules t
states-of [] r t is m = elim m [ ]
states-of (q ∷ rules) r t is (inl e) = inl (ap (λ (u : DomainRule). u.holder) e ∙ is)
states-of (q ∷ rules) r t is (inr m) = inr (states-of rules r t is m)

pub at-among : (rules : List DomainRule) (n : ℕ) (r : DomainRule) → slice_get rules n ≡ Some r → Among r rules
at-among [] n r at = absurd (cc)
at-among (q ∷ rules) zero r at = inl (let same : q ≡ r = cc in same)
at-among (q ∷ rules) (suc n) r at = inr (at-among rules n r at)

-- what is said of the values of types that pass a test, the last one first
module _ (p : ℕ → Bool) (said : Datum → Logical) where
  abbrev pub said_of_those : List Typed → List Logical
  said_of_those vs = map said (those p (map told_in vs))

  last-of : (left : List Typed) (v : Typed)
      → said_of_those (left ++ v ∷ [])
      ≡ said_of_those left ++ map said (cond (p v.number) (element_datum v.element ∷ []) [])
  last-of left v =
      ap (λ ts. map said (those p ts)) (map-last told_in left v)
      ∙ ap (map said) (those-joined p (map told_in left) (told_in v ∷ []))
      ∙ map-append said (those p (map told_in left)) (cond (p v.number) (element_datum v.element ∷ []) [])

  pub those-with : (left vs : List Typed) (v : Typed) (q : Logical) → vs ≡ left ++ v ∷ []
      → least_with (said_of_those left) (cond (p v.number) (both (said (element_datum v.element)) q) q)
      ≡ least_with (said_of_those vs) q
  those-with left vs v q is =
      by (p v.number) ∙ ap (λ ps. least_with ps q) (sym (last-of left v))
      ∙ ap (λ l. least_with (said_of_those l) q) (sym is)
    where
      last : Bool → List Logical
      last b = map said (cond b (element_datum v.element ∷ []) [])

      by : (b : Bool)
          → least_with (said_of_those left) (cond b (both (said (element_datum v.element)) q) q)
          ≡ least_with (said_of_those left ++ last b) q
      by true = sym (with-last (said_of_those left) (said (element_datum v.element)) q)
      by false = ap (λ ps. least_with ps q) (sym (append-nil (said_of_those left)))
