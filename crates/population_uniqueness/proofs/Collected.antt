-- The parts of a key, one by one.
use Rattle.std.specs.Prelude.{◌≡◌, ℕ, ◌+◌, ◌<◌, ◌≤◌, List, [], ◌∷◌, ◌++◌, length, Option, Some, None}
use Rattle.std.proofs.Common.{sym, ◌∙◌, ap, subst, get_or, drop}
use Rattle.std.proofs.lemmas.List.{append-nil}
use Rattle.step_values.specs.declared.normal.Normal.{Normal}
use Rattle.step_values.specs.NormalForms.{IsNormal}
use Rattle.step_values.specs.steps.Slots.{nth}
use Rattle.step_values.specs.Values.{Value, Values}
use Rattle.parameter_fits.specs.steps.Named.{by_name}
use Rattle.conformance.specs.RuleFindings.{given, with_part}
use Rattle.population_uniqueness.specs.steps.Parts.{parts_at}
use Rattle.population_uniqueness.specs.steps.Keys.{IsKey}
use Rattle.population_uniqueness.proofs.Behind.{drop_at, drop_all, behind, in_front, behind_more}

-- the normal forms of parts in front, and of those at the positions that are left, are those of a key
abbrev pub Collects : Values → List ℕ → ℕ → List Normal → Type 0
Collects vs ps i ns =
    (o : Option (List Normal)) → IsKey (parts_at vs (drop i ps)) o → IsKey (parts_at vs ps) (behind ns o)

module _ (vs : Values) (ps : List ℕ) where
  module _ (i : ℕ) (d : ℕ) where
    left_at : i < length ps
        → parts_at vs (drop i ps) ≡ with_part (given (nth vs (get_or ps i d))) (parts_at vs (drop (i + 1) ps))
    left_at lt = ap (parts_at vs) (drop_at ps i d lt)

    key_in_front : (v : Value) (n : Normal) → IsNormal (by_name v) n → (k : Option Values) (o : Option (List Normal))
        → IsKey k o → IsKey (with_part (Some v) k) (in_front n o)
    key_in_front v n p None None h = tt
    key_in_front v n p None (Some ns) h = absurd h
    key_in_front v n p (Some ws) None h = absurd h
    key_in_front v n p (Some ws) (Some ns) h = (p, h)

    pub collects_more : (ns : List Normal) (v : Value) (n : Normal) → i < length ps
        → Some v ≡ given (nth vs (get_or ps i d)) → IsNormal (by_name v) n → Collects vs ps i ns
        → Collects vs ps (i + 1) (ns ++ n ∷ [])
    collects_more ns v n lt e p h o k =
        subst (IsKey (parts_at vs ps)) (sym (behind_more ns n o))
        (h (in_front n o) (subst (λ m. IsKey m (in_front n o))
        (sym (left_at lt ∙ ap (λ w. with_part w (parts_at vs (drop (i + 1) ps))) (sym e)))
        (key_in_front v n p (parts_at vs (drop (i + 1) ps)) o k)))

    pub part_missing : (ns : List Normal) → i < length ps → None ≡ given (nth vs (get_or ps i d)) → Collects vs ps i ns
        → IsKey (parts_at vs ps) None
    part_missing ns lt e h =
        h None (subst (λ m. IsKey m None)
        (sym (left_at lt ∙ ap (λ w. with_part w (parts_at vs (drop (i + 1) ps))) (sym e))) tt)

  pub collects_all : (i : ℕ) (ns : List Normal) → length ps ≤ i → Collects vs ps i ns → IsKey (parts_at vs ps) (Some ns)
  collects_all i ns le h =
      subst (λ ms. IsKey (parts_at vs ps) (Some ms)) (append-nil ns)
      (h (Some []) (subst (λ qs. IsKey (parts_at vs qs) (Some [])) (sym (drop_all ps i le)) tt))
