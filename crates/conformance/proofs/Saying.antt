-- What rules say at instances, by what they say of their values.
use Rattle.std.specs.Prelude.{◌≡◌, ℕ, ◌≤◌, Bool, true, false, List, [], ◌∷◌, map, filter, cond, ◌⊎◌}
use Rattle.std.proofs.Common.{refl, ap, sym, subst, ◌∙◌, inl, inr, arith}
use Rattle.express_syntax.specs.declared.expression.Logical.{Logical}
use Rattle.express_syntax.specs.declared.expression.Logical.TheVariants.{False, Unknown, True}
use Rattle.schema_semantics.specs.Names.{Among}
use Rattle.schema_semantics.proofs.Lists.{among-map, from-map}
use Rattle.conformance.specs.Populations.{Instance}
use Rattle.express_logic.specs.Logic.{rank}
use Rattle.express_logic.specs.Data.{Datum}
use Rattle.conformance.specs.Operations.{says}
use Rattle.conformance.specs.Meanings.{meaning}
use Rattle.conformance.specs.DomainRules.{DomainRule}
use Rattle.conformance.specs.DomainFindings.{least, is_false, selves, outcome, breaches_at}
use Rattle.conformance.specs.MeaningLaws.{OutcomesAreLeast, NoFindingExactlyWhereNoRuleIsFalse}
use Rattle.conformance.proofs.Outcomes.{rank_most, rank_tells, least_below, least_in, each_empty, all_empty, breaches}

least_false : (ps : List Logical) → least ps ≡ False → Among False ps
least_false ps e = by (least_in ps)
  where
    by : Among (least ps) ps ⊎ (least ps ≡ True) → Among False ps
    by (inl m) = subst (λ p. Among p ps) e m
    by (inr t) = absurd (let q : False ≡ True = sym e ∙ t in cc)

false_least : (ps : List Logical) → Among False ps → least ps ≡ False
false_least ps m =
    let low : rank (least ps) ≤ rank False = least_below False ps m in
    rank_tells (least ps) False (omega (arith, low))

least_true : (ps : List Logical) → least ps ≡ True → (p : Logical) → Among p ps → p ≡ True
least_true ps e p m =
    let below : rank (least ps) ≤ rank p = least_below p ps m in
    let most : rank p ≤ 2 = rank_most p in
    let is : rank (least ps) ≡ 2 = ap rank e in
    rank_tells p True (omega (arith, below, most, is))

true_least : (ps : List Logical) → ((p : Logical) → Among p ps → p ≡ True) → least ps ≡ True
true_least ps h = by (least_in ps)
  where
    by : Among (least ps) ps ⊎ (least ps ≡ True) → least ps ≡ True
    by (inl m) = h (least ps) m
    by (inr e) = e

least_unknown : (ps : List Logical) → least ps ≡ Unknown → Among Unknown ps
least_unknown ps e = by (least_in ps)
  where
    by : Among (least ps) ps ⊎ (least ps ≡ True) → Among Unknown ps
    by (inl m) = subst (λ p. Among p ps) e m
    by (inr t) = absurd (let q : Unknown ≡ True = sym e ∙ t in cc)

unknown_least : (ps : List Logical) → (Among False ps → ⊥) → (p : Logical) → Among p ps → (p ≡ True → ⊥)
    → least ps ≡ Unknown
unknown_least ps never p m other = by (least ps) refl
  where
    by : (q : Logical) → least ps ≡ q → q ≡ Unknown
    by False e = absurd (never (least_false ps e))
    by Unknown e = refl
    by True e = absurd (other (least_true ps e p m))

module _ (f : Datum → Logical) (xs : List Datum) where
  -- a value of which this is said
  from : (p : Logical) → Among p (map f xs) → (x : Datum) × Among x xs × (f x ≡ p)
  from p m = from-map f xs p m

  to : (x : Datum) (p : Logical) → Among x xs → f x ≡ p → Among p (map f xs)
  to x p m e = subst (λ q. Among q (map f xs)) e (among-map f x xs m)

pub outcomes_are_least : OutcomesAreLeast
outcomes_are_least s d en attributes is x r = (
  (
    λ e. (let one = from f xs False (least_false ps e) in (one.0, (one.1, one.2))),
    λ h. false_least ps (to f xs h.0 False h.1.0 h.1.1),
  ),
  (
    λ e. (
      λ self h. (let q : False ≡ Unknown = sym (false_least ps (to f xs self False h.0 h.1)) ∙ e in absurd (cc)),
      (let one = from f xs Unknown (least_unknown ps e) in (one.0, Unknown, (one.1, one.2), λ q. absurd (cc))),
    ),
    λ h. unknown_least ps
        (λ m. (let one = from f xs False m in h.0 one.0 (one.1, one.2)))
        h.1.1 (to f xs h.1.0 h.1.1 h.1.2.0 h.1.2.1) h.1.3,
  ),
  (
    λ e self p h. least_true ps e p (to f xs self p h.0 h.1),
    λ h. true_least ps (λ p m. (let one = from f xs p m in h one.0 p (one.1, one.2))),
  ),
)
  where
    f : Datum → Logical
    f self = says (meaning s d en attributes is self r.condition)

    xs : List Datum
    xs = selves s d en attributes x r.holder

    ps : List Logical
    ps = map f xs

-- those that pass a test
none_kept : (f : DomainRule → Bool) (rs : List DomainRule) → filter f rs ≡ [] → (r : DomainRule) → Among r rs
    → f r ≡ true → ⊥
none_kept f [] e r m t = elim m [ ]
none_kept f (q ∷ rs) e r m t = by (f q) refl e m (λ k n. none_kept f rs k r n t)
  where
    by : (b : Bool) → f q ≡ b → cond b (q ∷ filter f rs) (filter f rs) ≡ [] → Among r (q ∷ rs)
        → (filter f rs ≡ [] → Among r rs → ⊥) → ⊥
    by true h k n later = absurd (cc)
    by false h k (inl same) later = absurd (let c : false ≡ true = sym h ∙ (ap f same ∙ t) in cc)
    by false h k (inr n) later = later k n

kept_none : (f : DomainRule → Bool) (rs : List DomainRule) → ((r : DomainRule) → Among r rs → f r ≡ true → ⊥)
    → filter f rs ≡ []
kept_none f [] h = refl
kept_none f (q ∷ rs) h = by (f q) refl (kept_none f rs (λ r m. h r (inr m)))
  where
    by : (b : Bool) → f q ≡ b → filter f rs ≡ [] → cond b (q ∷ filter f rs) (filter f rs) ≡ []
    by true e later = absurd (h q (inl refl) e)
    by false e later = later

no_breaches : (n : ℕ) (rs : List DomainRule) → breaches n rs ≡ [] → rs ≡ []
no_breaches n [] e = refl
no_breaches n (r ∷ rs) e = absurd (cc)

is_it : (p : Logical) → is_false p ≡ true → p ≡ False
is_it False e = refl
is_it Unknown e = absurd (cc)
is_it True e = absurd (cc)

pub no_finding_exactly_where_no_rule_is_false : NoFindingExactlyWhereNoRuleIsFalse
no_finding_exactly_where_no_rule_is_false s d en attributes is rules = (
  λ e x m r n h.
      none_kept (test x) rules (no_breaches x.name (filter (test x) rules)
      (each_empty (breaches_at s d en attributes is rules) is e x m)) r n (ap is_false h),
  λ h. all_empty (breaches_at s d en attributes is rules) is
      (λ x m. ap (breaches x.name)
      (kept_none (test x) rules (λ r n e. h x m r n (is_it (outcome s d en attributes is x r) e)))),
)
  where
    test : Instance → DomainRule → Bool
    test x r = is_false (outcome s d en attributes is x r)
