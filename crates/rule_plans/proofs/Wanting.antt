-- The defined types that state rules, and those that are defined by them.
use Rattle.std.specs.Prelude.{◌≡◌, ℕ, zero, suc, ◌+◌, ◌<◌, Bool, true, false, ◌||◌, List, [], ◌∷◌, ◌++◌, length, take, get_or, set, replicate, eqb, Some, slice_get, ◌⊎◌, ◌↔◌}
use Rattle.std.specs.List.{list_any}
use Rattle.std.proofs.Common.{refl, inl, inr, sym, ap, subst, ◌∙◌, arith, length-set}
use Rattle.std.proofs.lemmas.Bool.Decides.{nat_tests}
use Rattle.std.proofs.lemmas.Bool.{cases_eq}
use Rattle.std.proofs.lemmas.List.{get_or-replicate, length-replicate}
use Rattle.graphs.specs.Graphs.{Graph, has}
use Rattle.graphs.proofs.Gathered.{set-here, set-elsewhere}
use Rattle.express_syntax.specs.Schemas.{Schema}
use Rattle.express_syntax.specs.Profile.{Every}
use Rattle.schema_semantics.specs.Names.{OneOf}
use Rattle.schema_names.specs.Numbers.{HasNumber}
use Rattle.schema_names.proofs.Edges.{number-within}
use Rattle.schema_underlying_types.specs.BaseViews.{name_at}
use Rattle.schema_domain_rules.specs.declared.rule.RuleHolder.{RuleHolder}
use Rattle.schema_domain_rules.specs.declared.rule.RuleHolder.TheVariants as holders
use Rattle.schema_domain_rules.specs.declared.rule.DomainRule.{DomainRule}
use Rattle.schema_domain_rules.specs.RuleViews.{IsNumberedRule, IsNumberedHolder}
use Rattle.graphs.specs.steps.Forests.{IsForest, IsUnder}
use Rattle.graphs.specs.steps.Marking.{AreSpread}
use Rattle.rule_plans.specs.steps.Coded.{is_wanted, or_false}
use Rattle.rule_plans.specs.steps.Renamings.{AreRenamings, IsDefinedBy}
use Rattle.rule_plans.specs.steps.Wanted.{States, notes_within, notes_holder, AreStated, IsUnion}
use Rattle.rule_plans.proofs.Renaming.{under-is}

-- the defined type that states a rule is numbered
pub states-numbered : (s : Schema) (rules : List DomainRule) (t : ℕ) → Every (IsNumberedRule s) rules → States rules t
    → HasNumber s (name_at s t) t
states-numbered s [] t h m = elim m [ ]
states-numbered s (r ∷ rules) t h (inl e) = subst (IsNumberedHolder s) e h.0
states-numbered s (r ∷ rules) t h (inr m) = states-numbered s rules t h.1 m

pub noted-within : (s : Schema) (k : RuleHolder) (n : ℕ) → n ≡ length s.declarations → IsNumberedHolder s k
    → notes_within k n
noted-within s (holders.Entity i) n is h = tt
noted-within s (holders.Type t) n is h =
    let lt = number-within s (name_at s t) t h in
    omega (arith, lt, is)

pub noted-length : (k : RuleHolder) (stated : List Bool) → length (notes_holder k stated) ≡ length stated
noted-length (holders.Entity i) stated = refl
noted-length (holders.Type t) stated = length-set stated t true

-- one rule more
states-last : (rules : List DomainRule) (r : DomainRule) (t : ℕ)
    → States (rules ++ r ∷ []) t ↔ (States rules t ⊎ (r.holder ≡ holders.Type t))
states-last [] r t = (forth, back)
  where
    forth : States (r ∷ []) t → States [] t ⊎ (r.holder ≡ holders.Type t)
    forth (inl e) = inr e
    forth (inr m) = elim m [ ]

    back : States [] t ⊎ (r.holder ≡ holders.Type t) → States (r ∷ []) t
    back (inl m) = elim m [ ]
    back (inr e) = inl e
states-last (q ∷ rules) r t = let rest = states-last rules r t in (forth rest.0, back rest.1)
  where
    forth : (States (rules ++ r ∷ []) t → States rules t ⊎ (r.holder ≡ holders.Type t))
        → States (q ∷ (rules ++ r ∷ [])) t → States (q ∷ rules) t ⊎ (r.holder ≡ holders.Type t)
    forth more (inl e) = inl (inl e)
    forth more (inr m) = by (more m)
      where
        by : States rules t ⊎ (r.holder ≡ holders.Type t) → States (q ∷ rules) t ⊎ (r.holder ≡ holders.Type t)
        by (inl k) = inl (inr k)
        by (inr e) = inr e

    back : (States rules t ⊎ (r.holder ≡ holders.Type t) → States (rules ++ r ∷ []) t)
        → States (q ∷ rules) t ⊎ (r.holder ≡ holders.Type t) → States (q ∷ (rules ++ r ∷ [])) t
    back more (inl (inl e)) = inl e
    back more (inl (inr m)) = inr (more (inl m))
    back more (inr e) = inr (more (inr e))

pub stated-first : (n : ℕ) (stated : List Bool) → stated ≡ replicate n false → AreStated [] stated
stated-first n stated is t = ((λ e. absurd (none (sym (ap (λ l. get_or l t false) is) ∙ e))), (λ m. elim m [ ]))
  where
    all-false : (n t : ℕ) → get_or (replicate n false) t false ≡ false
    all-false zero t = refl
    all-false (suc n) zero = refl
    all-false (suc n) (suc t) = all-false n t

    none : get_or (replicate n false) t false ≡ true → ⊥
    none e = absurd (let no : true ≡ false = sym e ∙ all-false n t in cc)

pub stated-next : (rules more : List DomainRule) (r : DomainRule) (stated : List Bool) → more ≡ rules ++ r ∷ []
    → notes_within r.holder (length stated) → AreStated rules stated → AreStated more (notes_holder r.holder stated)
stated-next rules more r stated is within h t =
    subst (λ l. (get_or (notes_holder r.holder stated) t false ≡ true) ↔ States l t) (sym is)
    (let last = states-last rules r t in (forth last.1, back last.0))
  where
    noted : (k : RuleHolder) → notes_within k (length stated)
        → (get_or (notes_holder k stated) t false ≡ true) ↔ ((get_or stated t false ≡ true) ⊎ (k ≡ holders.Type t))
    noted (holders.Entity i) w = ((λ e. inl e), by)
      where
        by : (get_or stated t false ≡ true) ⊎ (holders.Entity i ≡ holders.Type t) → get_or stated t false ≡ true
        by (inl e) = e
        by (inr e) = absurd (cc)
    noted (holders.Type k) w = (to (cases_eq t k), from (cases_eq t k))
      where
        to : (t ≡ k) ⊎ (t ≡ k → ⊥) → get_or (set stated k true) t false ≡ true
            → (get_or stated t false ≡ true) ⊎ (holders.Type k ≡ holders.Type t)
        to (inl e) m = inr (ap holders.Type (sym e))
        to (inr differ) m = inl (sym (set-elsewhere stated k true t false differ) ∙ m)

        from : (t ≡ k) ⊎ (t ≡ k → ⊥) → (get_or stated t false ≡ true) ⊎ (holders.Type k ≡ holders.Type t)
            → get_or (set stated k true) t false ≡ true
        from (inl e) m = ap (λ j. get_or (set stated k true) j false) e ∙ set-here stated k true false w
        from (inr differ) (inl m) = set-elsewhere stated k true t false differ ∙ m
        from (inr differ) (inr e) = absurd (differ (let same : k ≡ t = cc in sym same))

    forth : (States rules t ⊎ (r.holder ≡ holders.Type t) → States (rules ++ r ∷ []) t)
        → get_or (notes_holder r.holder stated) t false ≡ true → States (rules ++ r ∷ []) t
    forth join e = by ((noted r.holder within).0 e)
      where
        by : (get_or stated t false ≡ true) ⊎ (r.holder ≡ holders.Type t) → States (rules ++ r ∷ []) t
        by (inl m) = join (inl ((h t).0 m))
        by (inr k) = join (inr k)

    back : (States (rules ++ r ∷ []) t → States rules t ⊎ (r.holder ≡ holders.Type t))
        → States (rules ++ r ∷ []) t → get_or (notes_holder r.holder stated) t false ≡ true
    back split m = by (split m)
      where
        by : States rules t ⊎ (r.holder ≡ holders.Type t) → get_or (notes_holder r.holder stated) t false ≡ true
        by (inl k) = (noted r.holder within).1 (inl ((h t).1 k))
        by (inr e) = (noted r.holder within).1 (inr e)

wanted-is : (xs : List Bool) (i : ℕ) → is_wanted xs i ≡ get_or xs i false
wanted-is [] i = refl
wanted-is (x ∷ xs) zero = refl
wanted-is (x ∷ xs) (suc i) = wanted-is xs i

-- marks that went down are on these types
pub union-is : (s : Schema) (g : Graph) (rules : List DomainRule) (stated union : List Bool) → AreRenamings s g
    → Every (IsNumberedRule s) rules → AreStated rules stated → AreSpread g stated union → IsUnion s rules union
union-is s g rules stated union rows numbered are spread i h =
    let low = number-within s (name_at s i) i h in
    let many = rows.many in
    let marks = spread i (omega (arith, low, many)) in
    ((λ e. forth (marks.0 (sym (wanted-is union i) ∙ e))), (λ m. wanted-is union i ∙ marks.1 (back m)))
  where
    forth : ((b : ℕ) × (get_or stated b false ≡ true) × IsUnder g i b) → (t : ℕ) × States rules t × IsDefinedBy s i t
    forth (b, m, under) =
        let said = (are b).0 m in
        (b, said, (under-is s g rows i b h (states-numbered s rules b numbered said)).0 under)

    back : ((t : ℕ) × States rules t × IsDefinedBy s i t) → (b : ℕ) × (get_or stated b false ≡ true) × IsUnder g i b
    back (t, said, defined) =
        (t, (are t).1 said, (under-is s g rows i t h (states-numbered s rules t numbered said)).1 defined)

-- a number of a list of which none passes doesn't pass
pub none-passes : (p : ℕ → Bool) (xs : List ℕ) → list_any p xs ≡ false → (i : ℕ) → has xs i ≡ true → p i ≡ false
none-passes p [] h i e = absurd (cc)
none-passes p (x ∷ xs) h i e = by (p x) refl h (none-passes p xs)
  where
    same : eqb i x ≡ true → i ≡ x
    same is = grind (arith, nat_tests)

    there : p x ≡ false → (b : Bool) → eqb i x ≡ b → (b || has xs i) ≡ true → (has xs i ≡ true → p i ≡ false) → p i ≡ false
    there k true is e more = ap p (same is) ∙ k
    there k false is e more = more e

    by : (b : Bool) → p x ≡ b → (b || list_any p xs) ≡ false
        → (list_any p xs ≡ false → (j : ℕ) → has xs j ≡ true → p j ≡ false) → p i ≡ false
    by true k h more = absurd (cc)
    by false k h more = there k (eqb i x) refl e (more h i)
