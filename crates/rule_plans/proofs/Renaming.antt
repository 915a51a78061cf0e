-- Types that are defined by types, by the edges of a forest and by names.
use Rattle.std.specs.Prelude.{◌≡◌, ℕ, ◌<◌, true, false, List, [], ◌∷◌, Option, None, Some, length, slice_get, ◌↔◌}
use Rattle.std.proofs.Common.{inl, inr, ap, sym, subst, ◌∙◌, arith}
use Rattle.std.proofs.lemmas.Bool.Decides.{nat_tests}
use Rattle.graphs.specs.Graphs.{Graph, has, next, Step, Chain, Leads, Reaches, IsAcyclic}
use Rattle.graphs.proofs.Placed.{step-within}
use Rattle.express_syntax.specs.Schemas.{Schema, DataType, named}
use Rattle.schema_semantics.specs.Names.{Name, Renames, IsMadeOf}
use Rattle.schema_semantics.specs.Faults.{IsResolved}
use Rattle.schema_semantics.proofs.Lists.{leads-kept, last-step}
use Rattle.schema_names.specs.Numbers.{number_of, HasNumber}
use Rattle.schema_names.proofs.Numbers.{one-name}
use Rattle.schema_names.proofs.Edges.{number-within}
use Rattle.schema_underlying_types.specs.BaseViews.{name_at}
use Rattle.schema_attribute_sources.specs.steps.Defined.{renamed_of, number_for, renamed_at}
use Rattle.schema_attribute_sources.proofs.Following.{named-is, name-followed, followed, leads-name, renamed-within}
use Rattle.schema_attribute_sources.proofs.Members.{one-number}
use Rattle.graphs.specs.steps.Forests.{first_or, IsForest, IsUnder}
use Rattle.graphs.specs.declared.forest.Forest.{Forest}
use Rattle.graphs.specs.steps.Telling.{Tells}
use Rattle.rule_plans.specs.steps.Renamings.{as_row, AreRenamings, IsDefinedBy, TellsTypes}

module _ (s : Schema) where
  target : (i j : ℕ) → renamed_at s i ≡ Some j → (n : Name) × HasNumber s n j
  target i j e = by (renamed_of (slice_get s.declarations i)) e
    where
      by : (o : Option Name) → number_for s o ≡ Some j → (n : Name) × HasNumber s n j
      by None e = absurd (cc)
      by (Some n) e = (n, e)

  module _ (g : Graph) (rows : AreRenamings s g) where
    low : (i j : ℕ) → Step g i j → i < length s.declarations
    low i j step =
        let lt = step-within g i j step in
        let many = rows.many in
        omega (arith, lt, many)

    edge-is : (i j : ℕ) → Step g i j → renamed_at s i ≡ Some j
    edge-is i j step = by (renamed_at s i) (rows.each i (low i j step))
      where
        by : (o : Option ℕ) → next g i ≡ as_row o → o ≡ Some j
        by None e = absurd (let no : false ≡ true = sym (ap (λ row. has row j) e) ∙ step in cc)
        by (Some k) e =
            let here : has (k ∷ []) j ≡ true = sym (ap (λ row. has row j) e) ∙ step in
            let same : k ≡ j = grind (arith, nat_tests) in
            ap Some same

    row-is : (i j : ℕ) → i < length s.declarations → renamed_at s i ≡ Some j → next g i ≡ j ∷ []
    row-is i j lt e = rows.each i lt ∙ ap as_row e

    edge-of : (m : Name) (i j : ℕ) → HasNumber s m i → renamed_at s i ≡ Some j → Step g i j
    edge-of m i j h e =
        subst (λ row. has row j ≡ true) (sym (row-is i j (number-within s m i h) e)) (first j)
      where
        first : (j : ℕ) → has (j ∷ []) j ≡ true
        first j = grind (arith, nat_tests)

    leads : (ms : List ℕ) (m : Name) (i j : ℕ) → HasNumber s m i → Chain (Step g) i ms j
        → (n : Name) × HasNumber s n j × Leads (Renames s) (named m) (named n)
    leads [] m i j h step =
        let (n, k, one) = name-followed s m i j h (edge-is i j step) in (n, k, ([], one))
    leads (l ∷ ms) m i j h (step, rest) =
        let (x, there, one) = name-followed s m i l h (edge-is i l step) in
        let (n, k, (ks, chain)) = leads ms x l j there rest in
        (n, k, (named x ∷ ks, (one, chain)))

    no-cycle : IsResolved s → IsAcyclic g
    no-cycle r i (ms, chain) =
        let (x, step) = last-step (Step g) i i (ms, chain) in
        let (n, h) = target x i (edge-is x i step) in
        let (m, k, way) = leads ms n i i h chain in
        r.no_type_cycle n
        (leads-kept (Renames s) (IsMadeOf s) (λ a b step. inl step) (named n) (named n)
        (subst (λ y. Leads (Renames s) (named n) (named y)) (one-name s m n i k h) way))

    pub is-forest : IsResolved s → IsForest g
    is-forest r = record {
      graph = λ a b step.
          let lt = renamed-within s a b (edge-is a b step) in
          let many = rows.many in
          omega (arith, lt, many);
      single = λ a b step. ap (first_or (length g)) (row-is a b (low a b step) (edge-is a b step));
      acyclic = no-cycle r;
    }

    back-along : (ms : List DataType) (m n : Name) (i t : ℕ) → HasNumber s m i → HasNumber s n t
        → Chain (Renames s) (named m) ms (named n) → Reaches g i t
    back-along [] m n i t h k step = ([], edge-of m i t h (followed s m i h n t step k))
    back-along (y ∷ ms) m n i t h k (step, c) =
        let (x, l, is, there) = leads-name s y ms n c in
        let one = edge-of m i l h (followed s m i h x l (subst (Renames s (named m)) is step) there) in
        let (ks, rest) = back-along ms x n l t there k (subst (λ z. Chain (Renames s) z ms (named n)) is c) in
        (l ∷ ks, (one, rest))

    pub under-is : (i t : ℕ) → HasNumber s (name_at s i) i → HasNumber s (name_at s t) t
        → IsUnder g i t ↔ IsDefinedBy s i t
    under-is i t h k = (forth, back)
      where
        forth : IsUnder g i t → IsDefinedBy s i t
        forth (inl e) = inl (ap (λ l. named (name_at s l)) e)
        forth (inr (ms, chain)) =
            let (n, l, way) = leads ms (name_at s i) i t h chain in
            inr (subst (λ y. Leads (Renames s) (named (name_at s i)) (named y)) (one-name s n (name_at s t) t l k) way)

        back : IsDefinedBy s i t → IsUnder g i t
        back (inl e) =
            inl (one-number (number_of s) (name_at s i) (name_at s t) i t h k (named-is (name_at s i) (name_at s t) e))
        back (inr (ms, chain)) = inr (back-along ms (name_at s i) (name_at s t) i t h k chain)

    pub tells-types : (f : Forest) → Tells g f → TellsTypes s f
    tells-types f tells i t h k =
        let low-i = number-within s (name_at s i) i h in
        let low-t = number-within s (name_at s t) t k in
        let many = rows.many in
        let told = tells i t (omega (arith, low-i, many)) (omega (arith, low-t, many)) in
        let under = under-is i t h k in
        ((λ e. under.0 (told.0 e)), (λ d. told.1 (under.1 d)))
