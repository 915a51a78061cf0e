-- Keys are met one by one.
use Rattle.std.specs.Prelude.{◌≡◌, Bool, true, false, cond, not, ◌||◌, List, [], ◌∷◌, Option, Some, None}
use Rattle.std.specs.List.{list_any}
use Rattle.std.proofs.Common.{refl, sym, ◌∙◌, ap}
use Rattle.indexmap.specs.IndexSet.{IndexSet, contains, Updates}
use Rattle.step_values.specs.NormalForms.{AreNormal}
use Rattle.step_values.specs.Values.{Values}
use Rattle.parameter_fits.specs.steps.Named.{each_by_name}
use Rattle.conformance.specs.RuleFindings.{same_keys}
use Rattle.population_uniqueness.specs.declared.key_lookup.Key.{Key}
use Rattle.population_uniqueness.specs.steps.Keys.{IsKey, same_parts, AreMet, Meets}
use Rattle.population_uniqueness.proofs.Agreeing.{forms_agree, forms_turned}

not_not : (b : Bool) → not (not b) ≡ b
not_not true = refl
not_not false = refl

cond_or : (b c : Bool) → cond b true c ≡ (b || c)
cond_or true c = refl
cond_or false c = refl

none_same : (before : List (Option Values)) → list_any (same_keys None) before ≡ false
none_same [] = refl
none_same (k ∷ before) = none_same before

module _ {S : Type 0} where
  pub none_met : (met : IndexSet Key S) → met.keys ≡ [] → AreMet [] met
  none_met met e vs v n = ap (list_any (same_parts v)) e

  -- what has no key
  pub meets_none : (met : IndexSet Key S) → Meets None false met met
  meets_none met before h = (sym (none_same before), λ vs v n. h vs v n)

  pub meets_no_key : (k : Option Values) (met : IndexSet Key S) → IsKey k None → Meets k false met met
  meets_no_key None met h = meets_none met
  meets_no_key (Some vs) met h = absurd h

  meets_values : (ws : Values) (w : Key) (old new : IndexSet Key S) (is_new : Bool)
      → AreNormal (each_by_name ws) w.parts.items → is_new ≡ not (contains same_parts old w)
      → Updates same_parts old new w true → Meets (Some ws) (not is_new) old new
  meets_values ws w old new is_new n e updates before h = (
    ap not e ∙ not_not (contains same_parts old w) ∙ h ws w n,
    λ vs v m. updates.0 v ∙ ap (cond (same_parts w v) true) (h vs v m)
        ∙ cond_or (same_parts w v) (list_any (same_keys (Some vs)) before)
        ∙ ap (λ b. b || list_any (same_keys (Some vs)) before)
        (forms_turned w.parts.items v.parts.items ∙ forms_agree vs ws v.parts.items w.parts.items m n),
  )

  -- one key more
  pub meets_key : (k : Option Values) (w : Key) (old new : IndexSet Key S) (is_new : Bool)
      → IsKey k (Some w.parts.items) → is_new ≡ not (contains same_parts old w) → Updates same_parts old new w true
      → Meets k (not is_new) old new
  meets_key None w old new is_new h e updates = absurd h
  meets_key (Some ws) w old new is_new h e updates = meets_values ws w old new is_new h e updates
