-- What is told of the rules of a form's numbers is what is told of all.
use Rattle.std.specs.Prelude.{◌≡◌, ℕ, zero, suc, ◌+◌, Bool, true, false, cond, List, [], ◌∷◌, ◌++◌, map, filter, flat_map, Option, None, Some, slice_get}
use Rattle.std.proofs.Common.{refl, sym, ap, subst, ◌∙◌, arith}
use Rattle.std.proofs.lemmas.List.Concat.{flat_map-cons}
use Rattle.express_syntax.specs.declared.expression.Logical.TheVariants.{True}
use Rattle.express_syntax.specs.Schemas.{Schema}
use Rattle.express_syntax.specs.Profile.{Every}
use Rattle.schema_underlying_types.specs.BaseViews.{name_at}
use Rattle.conformance.specs.Populations.{Instance}
use Rattle.step_values.specs.Values.{Values}
use Rattle.population_rows.specs.declared.form.Form.{Form}
use Rattle.population_forms.proofs.Naming.{among-is}
use Rattle.conformance.specs.RuleFindings.{Breach}
use Rattle.typed_populations.specs.Rows.{instance_seen}
use Rattle.typed_populations.specs.PopulationTables.{form_among, AreNumbered}
use Rattle.population_inverses.specs.steps.Inverses.{row_by}
use Rattle.express_logic.specs.Data.{Datum, instance}
use Rattle.conformance.specs.DomainRules as meanings
use Rattle.conformance.specs.DomainRules.{holder_name}
use Rattle.conformance.specs.DomainFindings.{least, is_false, is_unknown, selves, outcome, breaches_at}
use Rattle.schema_domain_rules.specs.declared.rule.RuleHolder.{RuleHolder}
use Rattle.schema_domain_rules.specs.declared.rule.RuleHolder.TheVariants as holders
use Rattle.schema_domain_rules.specs.declared.rule.DomainRule.{DomainRule}
use Rattle.schema_domain_rules.specs.RuleViews.{holder_seen, rule_seen, IsNumberedRule, IsNumberedHolder}
use Rattle.rule_settings.specs.declared.setting.Setting.{Setting}
use Rattle.rule_settings.specs.Settings.{Meant, schema_in, population_in}
use Rattle.rule_plans.specs.steps.Applying.{may_hold, may_apply, numbers_by}
use Rattle.rule_outcomes.specs.Outcomes.{said_of, outcome_in}
use Rattle.rule_outcomes.specs.ReportCounts.{holder_number, broken_by, open_by, broken_of, open_of, of_one, of_number, broken_at, open_at}

module _ {A : Type 0} (s : Schema) (f : DomainRule → List A) where
  -- nothing is told of a rule that can't apply
  abbrev pub Quiet : Form → Type 0
  Quiet x = (r : DomainRule) → IsNumberedRule s r → may_apply x r ≡ false → f r ≡ []

  flat-one : (r : DomainRule) (rules : List DomainRule) → f r ≡ [] → flat_map f rules ≡ flat_map f (r ∷ rules)
  flat-one r rules h = sym (flat_map-cons f r rules ∙ ap (λ l. l ++ flat_map f rules) h)

  told-by : (x : Form) → Quiet x → (all rules : List DomainRule) (n : ℕ)
      → ((k : ℕ) → slice_get all (n + k) ≡ slice_get rules k) → Every (IsNumberedRule s) rules
      → flat_map (of_number f all) (numbers_by rules n x) ≡ flat_map f rules
  told-by x quiet all [] n at h = refl
  told-by x quiet all (r ∷ rules) n at h =
      by (may_apply x r) refl (told-by x quiet all rules (suc n) (λ k. ap (slice_get all) (omega arith) ∙ at (suc k)) h.1)
    where
      rest : List ℕ
      rest = numbers_by rules (suc n) x

      at-n : slice_get all n ≡ Some r
      at-n = ap (slice_get all) (omega arith) ∙ at 0

      one : of_number f all n ≡ f r
      one = ap (of_one f) at-n

      by : (b : Bool) → may_apply x r ≡ b → flat_map (of_number f all) rest ≡ flat_map f rules
          → flat_map (of_number f all) (cond b (n ∷ rest) rest) ≡ flat_map f (r ∷ rules)
      by true e more =
          flat_map-cons (of_number f all) n rest
          ∙ ap (λ l. l ++ flat_map (of_number f all) rest) one
          ∙ ap (λ l. f r ++ l) more ∙ sym (flat_map-cons f r rules)
      by false e more = more ∙ flat-one r rules (quiet r h.0 e)

  none-told : ((r : DomainRule) → f r ≡ []) → (rules : List DomainRule) → flat_map f rules ≡ []
  none-told quiet [] = refl
  none-told quiet (r ∷ rules) = sym (flat-one r rules (quiet r)) ∙ none-told quiet rules

  -- what is told by the number of a form; nothing is told without one
  pub told-of : (forms : List Form) (n : Option ℕ) (rules : List DomainRule) → Every (IsNumberedRule s) rules
      → (form_among forms n ≡ None → (r : DomainRule) → f r ≡ [])
      → ((x : Form) → form_among forms n ≡ Some x → Quiet x)
      → flat_map (of_number f rules) (row_by (map (numbers_by rules 0) forms) n) ≡ flat_map f rules
  told-of forms None rules each none some = sym (none-told (none refl) rules)
  told-of [] (Some n) rules each none some = sym (none-told (none refl) rules)
  told-of (x ∷ forms) (Some zero) rules each none some =
      told-by x (some x refl) rules rules 0 (λ k. ap (slice_get rules) (omega arith)) each
  told-of (x ∷ forms) (Some (suc n)) rules each none some = told-of forms (Some n) rules each none some

module _ (S : Setting) (m : Meant S) (y section : ℕ) (vs : Values) where
  abbrev Seen : Option Form → Instance
  Seen o = instance_seen (schema_in S) y section o vs

  abbrev values : Instance → RuleHolder → List Datum
  values x h = selves (schema_in S) m.said.domain m.said.entities m.said.attributes x (holder_seen (schema_in S) h)

  -- a rule without a value of SELF is TRUE
  no-values : (x : Instance) (r : DomainRule) → values x r.holder ≡ [] → outcome_in S m x r ≡ True
  no-values x r e = ap (λ l. least (map (λ self. said_of S m r self) l)) e

  without : (h : RuleHolder) → values (Seen None) h ≡ []
  without (holders.Entity i) = refl
  without (holders.Type i) = refl

  not-applying : (x : Form) → AreNumbered (schema_in S) x → (h : RuleHolder) → IsNumberedHolder (schema_in S) h
      → may_hold x h ≡ false → values (Seen (Some x)) h ≡ []
  not-applying x numbers (holders.Entity i) k e =
      ap (λ b. cond b (instance y ∷ []) [])
      (among-is (schema_in S) (name_at (schema_in S) i) i k x.types.items numbers ∙ e)
  not-applying x numbers (holders.Type i) k e = absurd (cc)

  module _ (o : Option Form) where
    broken-true : (r : DomainRule) → outcome_in S m (Seen o) r ≡ True → broken_of S m (Seen o) r ≡ []
    broken-true r e = ap (broken_by (schema_in S) (Seen o).name r) e

    open-true : (r : DomainRule) → outcome_in S m (Seen o) r ≡ True → open_of S m (Seen o) r ≡ []
    open-true r e = ap (open_by (schema_in S) r) e

  module _ (forms : List Form) (numbered : Every (AreNumbered (schema_in S)) forms) where
    numbers-of : (fs : List Form) (n : Option ℕ) (x : Form) → Every (AreNumbered (schema_in S)) fs
        → form_among fs n ≡ Some x → AreNumbered (schema_in S) x
    numbers-of fs None x h e = absurd (let k : None ≡ Some x = e in cc)
    numbers-of [] (Some n) x h e = absurd (let k : None ≡ Some x = e in cc)
    numbers-of (f ∷ fs) (Some zero) x h e =
        let same : f ≡ x = cc in
        subst (AreNumbered (schema_in S)) same h.0
    numbers-of (f ∷ fs) (Some (suc n)) x h e = numbers-of fs (Some n) x h.1 e

    pub outcome-true : (n : Option ℕ) (x : Form) (r : DomainRule) → form_among forms n ≡ Some x → IsNumberedRule (schema_in S) r
        → may_apply x r ≡ false → outcome_in S m (Seen (form_among forms n)) r ≡ True
    outcome-true n x r e k h =
        no-values (Seen (form_among forms n)) r
        (ap (λ o. values (Seen o) r.holder) e ∙ not-applying x (numbers-of forms n x numbered e) r.holder k h)

    outcome-without : (n : Option ℕ) (r : DomainRule) → form_among forms n ≡ None
        → outcome_in S m (Seen (form_among forms n)) r ≡ True
    outcome-without n r e =
        no-values (Seen (form_among forms n)) r (ap (λ o. values (Seen o) r.holder) e ∙ without r.holder)

    pub broken-told : (n : Option ℕ) (rules : List DomainRule) → Every (IsNumberedRule (schema_in S)) rules
        → broken_at S m (Seen (form_among forms n)) rules (row_by (map (numbers_by rules 0) forms) n)
        ≡ flat_map (broken_of S m (Seen (form_among forms n))) rules
    broken-told n rules each =
        told-of (schema_in S) (broken_of S m (Seen (form_among forms n))) forms n rules each
        (λ e r. broken-true (form_among forms n) r (outcome-without n r e))
        (λ x e r k h. broken-true (form_among forms n) r (outcome-true n x r e k h))

    pub open-told : (n : Option ℕ) (rules : List DomainRule) → Every (IsNumberedRule (schema_in S)) rules
        → open_at S m (Seen (form_among forms n)) rules (row_by (map (numbers_by rules 0) forms) n)
        ≡ flat_map (open_of S m (Seen (form_among forms n))) rules
    open-told n rules each =
        told-of (schema_in S) (open_of S m (Seen (form_among forms n))) forms n rules each
        (λ e r. open-true (form_among forms n) r (outcome-without n r e))
        (λ x e r k h. open-true (form_among forms n) r (outcome-true n x r e k h))

-- the name of an instance, whatever its form
pub seen-name : (s : Schema) (y section : ℕ) (o : Option Form) (vs : Values) → y ≡ (instance_seen s y section o vs).name
seen-name s y section None vs = refl
seen-name s y section (Some x) vs = refl

-- all of them are what the definitions say
module _ (S : Setting) (m : Meant S) (x : Instance) where
  abbrev breach : meanings.DomainRule → Breach
  breach r = record { instance = x.name; holder = holder_name r.holder; label = r.label }

  named : (r : DomainRule) → holder_name (holder_seen (schema_in S) r.holder) ≡ name_at (schema_in S) (holder_number r.holder)
  named r = by r.holder
    where
      by : (h : RuleHolder) → holder_name (holder_seen (schema_in S) h) ≡ name_at (schema_in S) (holder_number h)
      by (holders.Entity i) = refl
      by (holders.Type i) = refl

  pub broken-are : (rules : List DomainRule)
      → flat_map (broken_of S m x) rules
      ≡ breaches_at (schema_in S) m.said.domain m.said.entities m.said.attributes (population_in S) (map (rule_seen (schema_in S)) rules) x
  broken-are [] = refl
  broken-are (r ∷ rules) =
      flat_map-cons (broken_of S m x) r rules ∙ by (is_false (outcome_in S m x r)) (broken-are rules)
    where
      seen : meanings.DomainRule
      seen = rule_seen (schema_in S) r

      rest : List meanings.DomainRule
      rest = filter (λ (q : meanings.DomainRule). is_false (outcome (schema_in S) m.said.domain m.said.entities m.said.attributes (population_in S) x q))
          (map (rule_seen (schema_in S)) rules)

      one : Breach
      one = record { instance = x.name; holder = name_at (schema_in S) (holder_number r.holder); label = seen.label }

      by : (b : Bool) → flat_map (broken_of S m x) rules ≡ map breach rest
          → cond b (one ∷ []) [] ++ flat_map (broken_of S m x) rules ≡ map breach (cond b (seen ∷ rest) rest)
      by true h =
          ap (λ l. one ∷ l) h
          ∙ ap (λ h. record { instance = x.name; holder = h; label = seen.label } ∷ map breach rest) (sym (named r))
      by false h = h

  pub open-are : (rules : List DomainRule)
      → flat_map (open_of S m x) rules
      ≡ filter (λ (q : meanings.DomainRule). is_unknown (outcome (schema_in S) m.said.domain m.said.entities m.said.attributes (population_in S) x q))
      (map (rule_seen (schema_in S)) rules)
  open-are [] = refl
  open-are (r ∷ rules) =
      flat_map-cons (open_of S m x) r rules ∙ by (is_unknown (outcome_in S m x r)) (open-are rules)
    where
      seen : meanings.DomainRule
      seen = rule_seen (schema_in S) r

      rest : List meanings.DomainRule
      rest = filter (λ (q : meanings.DomainRule). is_unknown (outcome (schema_in S) m.said.domain m.said.entities m.said.attributes (population_in S) x q))
          (map (rule_seen (schema_in S)) rules)

      by : (b : Bool) → flat_map (open_of S m x) rules ≡ rest
          → cond b (seen ∷ []) [] ++ flat_map (open_of S m x) rules ≡ cond b (seen ∷ rest) rest
      by true h = ap (λ l. seen ∷ l) h
      by false h = h
