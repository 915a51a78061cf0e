-- What tests of comparisons decide, joined (ISO 10303-11, 12.2 and 15.25).
use Rattle.std.proofs.Common.{◌≡◌, ◌⊎◌, ◌↔◌, ◌||◌, ◌&&◌, ℕ, Bool, true, false, not, List, Option, None, Some, inl, inr, refl, sym, ap, subst, ◌∙◌}
use Rattle.std.specs.Prelude.{IsTrue}
use Rattle.express_syntax.specs.declared.expression.Function.TheVariants as functions
use Rattle.express_syntax.specs.declared.expression.Relation.{Relation}
use Rattle.express_syntax.specs.declared.expression.Relation.TheVariants as relations
use Rattle.express_syntax.specs.Trees.{Tree, literal, signed, reference, parenthesized, aggregate, interval, query, call, nvl, negation, conjunction, disjunction, comparison}
use Rattle.express_syntax.specs.Schemas.{Schema, Declaration, type, entity, skipped, named}
use Rattle.schema_semantics.specs.Names.{Name, declaration_of, declared_name, IsEntity, IsType}
use Rattle.schema_semantics.specs.Shapes.{IsOverSelect}
use Rattle.schema_semantics.specs.Sets.{Set, QueryVariable, May}
use Rattle.schema_semantics.specs.Reasons.{ElementsOf, SaysName, HasBareValue, IsTypeTest, IsBadTypeTest, BothDeep, IsBadKind}
use Rattle.schema_names.specs.Numbers.{HasNumber, IsAt}
use Rattle.schema_names.proofs.Numbers.{what-stands, stands-at, each-number}
use Rattle.schema_expression_analysis.specs.steps.Questions.{tested, TestsType, EitherUnordered}
use Rattle.schema_expression_analysis.proofs.Agreeing.{same}

pub both-hold : {P Q : Type 0} (b c : Bool) → IsTrue b ↔ P → IsTrue c ↔ Q → IsTrue (b && c) ↔ (P × Q)
both-hold {P} {Q} true c h k = ((λ e. (h.0 refl, k.0 e)), (λ e. k.1 e.1))
both-hold {P} {Q} false c h k = ((λ e. absurd (cc)), (λ e. let f = h.1 e.0 in absurd (cc)))

pub not-holds : {P : Type 0} (b : Bool) → IsTrue b ↔ P → IsTrue (not b) ↔ (P → ⊥)
not-holds {P} true h = ((λ e. absurd (cc)), (λ f. absurd (f (h.0 refl))))
not-holds {P} false h = ((λ e p. let f = h.1 p in absurd (cc)), (λ f. refl))

pub nothing-holds : {P : Type 0} → (P → ⊥) → IsTrue false ↔ P
nothing-holds none = ((λ e. absurd (cc)), (λ p. absurd (none p)))

pub first-holds : {P Q : Type 0} (b : Bool) → IsTrue b ↔ P → b ≡ true → IsTrue true ↔ (P ⊎ Q)
first-holds b h e = ((λ x. inl (h.0 e)), (λ x. refl))

-- no test
pub not-tested : (s : Schema) (self : Set) (vs : List QueryVariable) (x y : Tree) → tested y ≡ None
    → IsBadTypeTest s self vs x y → ⊥
not-tested s self vs x (call functions.Typeof y) e h = absurd (cc)
not-tested s self vs x (call functions.Exists y) e h = h
not-tested s self vs x (call functions.Sizeof y) e h = h
not-tested s self vs x (call functions.Hiindex y) e h = h
not-tested s self vs x (call functions.Loindex y) e h = h
not-tested s self vs x (parenthesized y) e h = not-tested s self vs x y e h
not-tested s self vs x (literal l) e h = h
not-tested s self vs x (signed g n) e h = h
not-tested s self vs x (reference r qs) e h = h
not-tested s self vs x (aggregate ts) e h = h
not-tested s self vs x (interval low i t j high) e h = h
not-tested s self vs x (query v t u) e h = h
not-tested s self vs x (nvl t u) e h = h
not-tested s self vs x (negation t) e h = h
not-tested s self vs x (conjunction t ts) e h = h
not-tested s self vs x (disjunction t ts) e h = h
not-tested s self vs x (comparison t r u) e h = h

pub same-test : (s : Schema) (self : Set) (vs : List QueryVariable) (x y z : Tree) → tested y ≡ Some z
    → (IsTypeTest s self vs x z → ⊥) ↔ IsBadTypeTest s self vs x y
same-test s self vs x (call functions.Typeof y) z e =
    subst (λ u. (IsTypeTest s self vs x u → ⊥) ↔ (IsTypeTest s self vs x y → ⊥)) (is-one y z e)
    ((λ f. f), (λ f. f))
  where
    is-one : (y z : Tree) → Some y ≡ Some z → y ≡ z
    is-one y z e = cc
same-test s self vs x (parenthesized y) z e = same-test s self vs x y z e
same-test s self vs x (call functions.Exists y) z e = absurd (cc)
same-test s self vs x (call functions.Sizeof y) z e = absurd (cc)
same-test s self vs x (call functions.Hiindex y) z e = absurd (cc)
same-test s self vs x (call functions.Loindex y) z e = absurd (cc)
same-test s self vs x (literal l) z e = absurd (cc)
same-test s self vs x (signed g n) z e = absurd (cc)
same-test s self vs x (reference r qs) z e = absurd (cc)
same-test s self vs x (aggregate ts) z e = absurd (cc)
same-test s self vs x (interval low i t j high) z e = absurd (cc)
same-test s self vs x (query v t u) z e = absurd (cc)
same-test s self vs x (nvl t u) z e = absurd (cc)
same-test s self vs x (negation t) z e = absurd (cc)
same-test s self vs x (conjunction t ts) z e = absurd (cc)
same-test s self vs x (disjunction t ts) z e = absurd (cc)
same-test s self vs x (comparison t r u) z e = absurd (cc)

module _ (s : Schema) where
  -- an entity or a type stands at a number
  pub entity-or-type : (n : Name) (i : ℕ) → HasNumber s n i → (IsEntity s n → ⊥) → IsType s n
  entity-or-type n i k none =
      let (d, at, called) = what-stands s n i k in by d (stands-at s n i k ∙ at) called
    where
      by : (d : Declaration) → declaration_of s.declarations n ≡ Some d → declared_name d ≡ Some n → IsType s n
      by (type t) at called = (t, at)
      by (entity e) at called = absurd (none (e, at))
      by (skipped p) at called = absurd (cc)

  pub tests-bare : (n : Name) (i : ℕ) (M : Set) (b : Bool) → HasNumber s n i → (IsEntity s n → ⊥)
      → (IsOverSelect s (named n) → ⊥) → IsTrue b ↔ HasBareValue M → IsTrue (not b) ↔ TestsType s n M
  tests-bare n i M b k no-entity plain h =
      let bare = not-holds b h in
      ((λ e. inr (entity-or-type n i k no-entity, plain, bare.0 e)), back)
    where
      back : TestsType s n M → IsTrue (not b)
      back (inl e) = absurd (no-entity e)
      back (inr e) = (not-holds b h).1 e.2

  pub tests-none : (n : Name) (M : Set) → (IsEntity s n → ⊥) → IsOverSelect s (named n) → TestsType s n M → ⊥
  tests-none n M no-entity over (inl e) = no-entity e
  tests-none n M no-entity over (inr e) = e.1 over

  module _ (self : Set) (vs : List QueryVariable) (x y : Tree) where
    -- a string tells the number of one name
    pub said-is : (n : Name) → SaysName s x n → ((m : Name) → SaysName s x m → m ≡ n)
        → TestsType s n (May s self vs y) ↔ IsTypeTest s self vs x y
    said-is n says one = (
      (λ e. (n, says, e)),
      (λ e. subst (λ m. TestsType s m (May s self vs y)) (one e.0 e.1) e.2),
    )

    pub unsaid : ((n : Name) (i : ℕ) → SaysName s x n → HasNumber s n i → ⊥) → IsTypeTest s self vs x y → ⊥
    unsaid none (n, says, inl (e, at)) =
        let (i, k) = each-number 0 s.declarations n (entity e) at in none n i says k
    unsaid none (n, says, inr ((t, at), plain, bare)) =
        let (i, k) = each-number 0 s.declarations n (type t) at in none n i says k

module _ (s : Schema) (self : Set) (vs : List QueryVariable) (x y : Tree) where
  pub equal-kind : (r : Relation) → (r ≡ relations.Equal) ⊎ (r ≡ relations.NotEqual)
      → BothDeep (May s self vs x) (May s self vs y) ↔ IsBadKind s self false vs (comparison x r y)
  equal-kind r (inl e) =
      subst (λ r. BothDeep (May s self vs x) (May s self vs y) ↔ IsBadKind s self false vs (comparison x r y))
      (sym e) same
  equal-kind r (inr e) =
      subst (λ r. BothDeep (May s self vs x) (May s self vs y) ↔ IsBadKind s self false vs (comparison x r y))
      (sym e) same

  pub in-kind : (r : Relation) → r ≡ relations.In
      → BothDeep (May s self vs x) (ElementsOf s self vs y) ↔ IsBadKind s self false vs (comparison x r y)
  in-kind r e =
      subst (λ r. BothDeep (May s self vs x) (ElementsOf s self vs y) ↔ IsBadKind s self false vs (comparison x r y))
      (sym e) same

  pub other-kind : (r : Relation) → (r ≡ relations.Equal → ⊥) → (r ≡ relations.NotEqual → ⊥)
      → (r ≡ relations.In → ⊥)
      → EitherUnordered (May s self vs x) (May s self vs y) ↔ IsBadKind s self false vs (comparison x r y)
  other-kind relations.Equal f g h = absurd (f refl)
  other-kind relations.NotEqual f g h = absurd (g refl)
  other-kind relations.In f g h = absurd (h refl)
  other-kind relations.Less f g h = same
  other-kind relations.Greater f g h = same
  other-kind relations.LessOrEqual f g h = same
  other-kind relations.GreaterOrEqual f g h = same
