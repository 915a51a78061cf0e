-- Rules that are listed one behind the other.
use Rattle.std.specs.Prelude.{◌≡◌, ℕ, zero, suc, ◌+◌, ◌<◌, List, [], ◌∷◌, ◌++◌, Some, map, length, get_or, slice_get, take}
use Rattle.std.proofs.Common.{refl, inl, inr, ap, sym, subst, ◌∙◌, arith}
use Rattle.std.proofs.lemmas.List.{append_assoc, append-nil, take_more, map-append, length-take, length-map}
use Rattle.express_syntax.specs.Schemas.{Schema, Declaration, type, entity, skipped, Rule}
use Rattle.express_syntax.specs.Profile.{Every}
use Rattle.schema_semantics.specs.declared.unchecked.Reason.{Reason}
use Rattle.schema_semantics.specs.Names.{listed}
use Rattle.schema_names.proofs.Rows.{map-joined, take-more}
use Rattle.conformance.specs.DomainRules as meanings
use Rattle.conformance.specs.DomainRules.{Holder, of_entity, of_type, DomainStatement, domain_statements_from, statements_in, RuleHasReason, AreChecked}
use Rattle.schema_domain_rules.specs.declared.rule.DomainRule.{DomainRule}
use Rattle.schema_domain_rules.specs.RuleViews.{rule_seen, IsNumberedRule}
use Rattle.schema_domain_rules.specs.steps.Making.{statement_of, Adds}

-- what is read of a list, as it is seen
pub seen-at : {A B : Type 0} (seen : A → B) (xs : List A) (i : ℕ) (x : A) → i < length xs → x ≡ get_or xs i x
    → slice_get (map seen xs) i ≡ Some (seen x)
seen-at seen [] i x lt at = absurd (omega (arith, lt))
seen-at seen (y ∷ xs) zero x lt at = ap (λ z. Some (seen z)) (sym at)
seen-at seen (y ∷ xs) (suc i) x lt at = seen-at seen xs i x (omega (arith, lt)) at

every-joined : {A : Type 0} (P : A → Type 0) (xs ys : List A) → Every P xs → Every P ys → Every P (xs ++ ys)
every-joined P [] ys h k = k
every-joined P (x ∷ xs) ys h k = (h.0, every-joined P xs ys h.1 k)

-- what is stated in one list and in another
pub statements-joined : (h : Holder) (n k : ℕ) (xs ys : List Rule) → k ≡ n + length xs
    → domain_statements_from h n (xs ++ ys) ≡ domain_statements_from h n xs ++ domain_statements_from h k ys
statements-joined h n k [] ys is = let same : n ≡ k = omega (arith, is) in ap (λ m. domain_statements_from h m ys) same
statements-joined h n k (x ∷ xs) ys is =
    let on : k ≡ n + 1 + length xs = omega (arith, is) in
    ap (λ zs. statement_of h n x ∷ zs) (statements-joined h (n + 1) k xs ys on)

pub declared-joined : (xs ys : List Declaration) → statements_in (xs ++ ys) ≡ statements_in xs ++ statements_in ys
declared-joined [] ys = refl
declared-joined (type t ∷ xs) ys =
    ap (λ zs. domain_statements_from (of_type t.name) 1 (listed t.rules) ++ zs) (declared-joined xs ys)
    ∙ sym (append_assoc (domain_statements_from (of_type t.name) 1 (listed t.rules)) (statements_in xs) (statements_in ys))
declared-joined (entity e ∷ xs) ys =
    ap (λ zs. domain_statements_from (of_entity e.name) 1 (listed e.rules) ++ zs) (declared-joined xs ys)
    ∙ sym (append_assoc (domain_statements_from (of_entity e.name) 1 (listed e.rules)) (statements_in xs) (statements_in ys))
declared-joined (skipped p ∷ xs) ys = declared-joined xs ys

module _ (s : Schema) where
  -- The rules of these statements, and then those of others, are those of all.
  checked-joined : (xs ys : List DomainStatement) (ps qs : List meanings.DomainRule) → AreChecked s xs ps → AreChecked s ys qs
      → AreChecked s (xs ++ ys) (ps ++ qs)
  checked-joined [] ys ps qs h k = subst (λ rs. AreChecked s ys (rs ++ qs)) (sym h) k
  checked-joined (x ∷ xs) ys ps qs (inl (free, c, at, more, is, rest)) k =
      inl (free, c, at, more ++ qs, ap (λ rs. rs ++ qs) is, checked-joined xs ys more qs rest k)
  checked-joined (x ∷ xs) ys ps qs (inr (why, rest)) k = inr (why, checked-joined xs ys ps qs rest k)

  pub adds-none : (old : List DomainRule) → Adds s [] old old
  adds-none old = ([], sym (append-nil old), refl, tt)

  pub adds-joined : (xs ys : List DomainStatement) (a b c : List DomainRule) → Adds s xs a b → Adds s ys b c
      → Adds s (xs ++ ys) a c
  adds-joined xs ys a b c (ps, is, h, m) (qs, so, k, n) = (
    ps ++ qs,
    so ∙ ap (λ zs. zs ++ qs) is ∙ append_assoc a ps qs,
    subst (AreChecked s (xs ++ ys)) (sym (map-joined (rule_seen s) ps qs))
        (checked-joined xs ys (map (rule_seen s) ps) (map (rule_seen s) qs) h k),
    every-joined (IsNumberedRule s) ps qs m n,
  )

  -- a rule that isn't checked adds no row
  pub adds-left : (x : DomainStatement) (r : Reason) (old new : List DomainRule) → RuleHasReason s x.holder x.body r
      → new ≡ old → Adds s (x ∷ []) old new
  adds-left x r old new why is = ([], is ∙ sym (append-nil old), inr ((r, why), refl), tt)

  module _ {T : Type 0} (seen : T → Rule) (h : Holder) where
    pub adds-statement : (xs : List T) (i : ℕ) (x : T) (a b c : List DomainRule) → i < length xs → x ≡ get_or xs i x
        → Adds s (domain_statements_from h 1 (map seen (take i xs))) a b → Adds s (statement_of h (i + 1) (seen x) ∷ []) b c
        → Adds s (domain_statements_from h 1 (map seen (take (i + 1) xs))) a c
    adds-statement xs i x a b c lt at k l =
        subst (λ ys. Adds s ys a c) (sym next)
        (adds-joined (domain_statements_from h 1 (map seen (take i xs))) (statement_of h (i + 1) (seen x) ∷ []) a b c k l)
      where
        next : domain_statements_from h 1 (map seen (take (i + 1) xs))
            ≡ domain_statements_from h 1 (map seen (take i xs)) ++ statement_of h (i + 1) (seen x) ∷ []
        next =
            let long : length (map seen (take i xs)) ≡ i = grind (arith, length-map, length-take) in
            ap (λ ys. domain_statements_from h 1 (map seen ys))
            (take_more xs i x lt ∙ ap (λ y. take i xs ++ y ∷ []) (sym at))
            ∙ ap (domain_statements_from h 1) (map-append seen (take i xs) (x ∷ []))
            ∙ statements-joined h 1 (i + 1) (map seen (take i xs)) (seen x ∷ []) (omega (arith, long))

  module _ {T : Type 0} (seen : T → Declaration) where
    pub adds-declared : (xs : List T) (i : ℕ) (x : T) (a b c : List DomainRule) → i < length xs → x ≡ get_or xs i x
        → Adds s (statements_in (map seen (take i xs))) a b → Adds s (statements_in (seen x ∷ [])) b c
        → Adds s (statements_in (map seen (take (i + 1) xs))) a c
    adds-declared xs i x a b c lt at k l =
        subst (λ ys. Adds s ys a c) (sym next)
        (adds-joined (statements_in (map seen (take i xs))) (statements_in (seen x ∷ [])) a b c k l)
      where
        next : statements_in (map seen (take (i + 1) xs))
            ≡ statements_in (map seen (take i xs)) ++ statements_in (seen x ∷ [])
        next =
            ap (λ ys. statements_in (map seen ys)) (take-more xs i x lt at)
            ∙ ap statements_in (map-joined seen (take i xs) (x ∷ []))
            ∙ declared-joined (map seen (take i xs)) (seen x ∷ [])
