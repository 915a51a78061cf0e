-- What a tree may be, and what is found in it, depends on the sets of SELF and of variables by what is in them alone.
use Rattle.std.proofs.Common.{◌≡◌, ◌≢◌, ◌⊎◌, ◌↔◌, Bool, true, false, List, [], ◌∷◌, inl, inr, refl, sym, ◌∙◌}
use Rattle.express_syntax.specs.declared.expression.Relation.TheVariants as relations
use Rattle.express_syntax.specs.Trees.{Tree, Trees, Alternatives, Qualifiers, Root, literal, signed, reference, parenthesized, aggregate, interval, query, call, nvl, negation, conjunction, disjunction, comparison, none, one, finish, another, plain, attribute, group, index, own}
use Rattle.express_syntax.specs.Trees as trees
use Rattle.express_syntax.specs.Schemas.{Schema}
use Rattle.schema_semantics.specs.Names.{Name, OneOf, IsFirst}
use Rattle.schema_semantics.specs.Shapes.{Atom, value, instance, a_number, a_logical, a_string, a_binary, an_item, an_aggregate}
use Rattle.schema_semantics.specs.Attributes.{Derivation}
use Rattle.schema_semantics.specs.Sets.{Set, Elements, WithSubtypes, AttributeReference, of_set, MayTake, TakesTwo, IsUnclear, MayUse, OfTaken, path_behind, QueryVariable, IsVariable, OfVariable, Meaning, itself, variable, attribute_of_self, item_of_type, item, MayMean, Means, path, OfReference, IsUnclearReference, ReferenceMayUse, Aggregates, May}
use Rattle.schema_semantics.specs.Reasons.{OfTrees, ElementsOf, bound_to, Somewhere, InTrees, InAlternatives, InIndices}

-- two sets have the same members
abbrev pub Same : Set → Set → Type 0
Same M N = (x : Atom) → M x ↔ N x

-- two predicates hold of the same
pub same : {A : Type 0} → A ↔ A
same = (λ a. a, λ a. a)

pub chain : {A B C : Type 0} → A ↔ B → B ↔ C → A ↔ C
chain h k = (λ a. k.0 (h.0 a), λ c. h.1 (k.1 c))

pub either : {A B C D : Type 0} → A ↔ B → C ↔ D → (A ⊎ C) ↔ (B ⊎ D)
either {A} {B} {C} {D} h k = (forth, back)
  where
    forth : A ⊎ C → B ⊎ D
    forth (inl a) = inl (h.0 a)
    forth (inr c) = inr (k.0 c)

    back : B ⊎ D → A ⊎ C
    back (inl b) = inl (h.1 b)
    back (inr d) = inr (k.1 d)

pub both : {A B C D : Type 0} → A ↔ B → C ↔ D → (A × C) ↔ (B × D)
both h k = (λ p. (h.0 p.0, k.0 p.1), λ q. (h.1 q.0, k.1 q.1))

pub neither : {A B : Type 0} → A ↔ B → (A → ⊥) ↔ (B → ⊥)
neither h = (λ f b. f (h.1 b), λ g a. g (h.0 a))

first-same : {A : Type 0} (P Q : A → Type 0) → ((y : A) → P y ↔ Q y) → (xs : List A) (x : A)
    → IsFirst P xs x ↔ IsFirst Q xs x
first-same P Q h [] x = same
first-same P Q h (y ∷ ys) x = either (both (h y) same) (both (neither (h y)) (first-same P Q h ys x))

module _ (s : Schema) where
  pub elements-same : (M N : Set) → Same M N → Same (Elements s M) (Elements s N)
  elements-same M N h x = (
    (λ e. (e.0, e.1, (h (value (an_aggregate e.0) e.1)).0 e.2, e.3)),
    (λ e. (e.0, e.1, (h (value (an_aggregate e.0) e.1)).1 e.2, e.3)),
  )

  subtypes-same : (M N : Set) → Same M N → Same (WithSubtypes s M) (WithSubtypes s N)
  subtypes-same M N h (value x w) = same
  subtypes-same M N h (instance n) =
      ((λ e. (e.0, (h (instance e.0)).0 e.1, e.2)), (λ e. (e.0, (h (instance e.0)).1 e.1, e.2)))

  take-same : (M N : Set) → Same M N → (a p : Name) → MayTake s (of_set M a) p ↔ MayTake s (of_set N a) p
  take-same M N h a p =
      ((λ e. (e.0, (h (instance e.0)).0 e.1, e.2)), (λ e. (e.0, (h (instance e.0)).1 e.1, e.2)))

  two-same : (M N : Set) → Same M N → (a : Name) → TakesTwo s (of_set M a) ↔ TakesTwo s (of_set N a)
  two-same M N h a = (
    (λ e. (e.0, e.1, e.2, (h (instance e.0)).0 e.3, e.4, e.5, e.6)),
    (λ e. (e.0, e.1, e.2, (h (instance e.0)).1 e.3, e.4, e.5, e.6)),
  )

  unclear-same : (M N : Set) → Same M N → (a : Name) → IsUnclear s (of_set M a) ↔ IsUnclear s (of_set N a)
  unclear-same M N h a =
      either ((λ f p t. f p ((take-same M N h a p).1 t)), (λ f p t. f p ((take-same M N h a p).0 t))) (two-same M N h a)

  use-same : (d : Derivation) (M N : Set) → Same M N → (a : Name) → MayUse s d (of_set M a) ↔ MayUse s d (of_set N a)
  use-same d M N h a =
      ((λ e. (e.0, (take-same M N h a e.0).0 e.1, e.2)), (λ e. (e.0, (take-same M N h a e.0).1 e.1, e.2)))

  taken-same : (M N : Set) → Same M N → (a : Name) → Same (OfTaken s (of_set M a)) (OfTaken s (of_set N a))
  taken-same M N h a x = (
    (λ e. (e.0, e.1, (take-same M N h a e.0).0 e.2, e.3, e.4)),
    (λ e. (e.0, e.1, (take-same M N h a e.0).1 e.2, e.3, e.4)),
  )

  behind-same : (qs : Qualifiers) (M N : Set) → Same M N → Same (path_behind s M qs).may (path_behind s N qs).may
  behind-same plain M N h = h
  behind-same (attribute a qs) M N h =
      behind-same qs (OfTaken s (of_set (WithSubtypes s M) a)) (OfTaken s (of_set (WithSubtypes s N) a))
      (taken-same (WithSubtypes s M) (WithSubtypes s N) (subtypes-same M N h) a)
  behind-same (group e a qs) M N h = λ x. same
  behind-same (index i qs) M N h = behind-same qs (Elements s M) (Elements s N) (elements-same M N h)

  -- what holds of one attribute that is gone through
  module _ (P : AttributeReference → Type 0)
      (alike : (M N : Set) → Same M N → (a : Name) → P (of_set M a) ↔ P (of_set N a)) where
    one-behind : (qs : Qualifiers) (M N : Set) → Same M N
        → OneOf P (path_behind s M qs).attributes ↔ OneOf P (path_behind s N qs).attributes
    one-behind plain M N h = same
    one-behind (attribute a qs) M N h =
        either (alike (WithSubtypes s M) (WithSubtypes s N) (subtypes-same M N h) a)
        (one-behind qs (OfTaken s (of_set (WithSubtypes s M) a)) (OfTaken s (of_set (WithSubtypes s N) a))
        (taken-same (WithSubtypes s M) (WithSubtypes s N) (subtypes-same M N h) a))
    one-behind (group e a qs) M N h = same
    one-behind (index i qs) M N h = one-behind qs (Elements s M) (Elements s N) (elements-same M N h)

abbrev pub SameVariables : List QueryVariable → List QueryVariable → Type 0
SameVariables [] [] = Unit {0}
SameVariables (v ∷ vs) (w ∷ ws) = (v.name ≡ w.name) × Same v.may w.may × SameVariables vs ws
SameVariables vs ws = ⊥

pub same-variables : (vs : List QueryVariable) → SameVariables vs vs
same-variables [] = tt
same-variables (v ∷ vs) = (refl, (λ x. same), same-variables vs)

name-same : (a b n : Name) → a ≡ b → (a ≡ n) ↔ (b ≡ n)
name-same a b n e = ((λ h. sym e ∙ h), (λ h. e ∙ h))

variable-same : (vs ws : List QueryVariable) → SameVariables vs ws → (n : Name) → IsVariable vs n ↔ IsVariable ws n
variable-same [] [] h n = same
variable-same [] (w ∷ ws) h n = absurd h
variable-same (v ∷ vs) [] h n = absurd h
variable-same (v ∷ vs) (w ∷ ws) h n = either (name-same v.name w.name n h.0) (variable-same vs ws h.2 n)

of-variable-same : (vs ws : List QueryVariable) → SameVariables vs ws → (n : Name) → Same (OfVariable vs n) (OfVariable ws n)
of-variable-same [] [] h n x = same
of-variable-same [] (w ∷ ws) h n x = absurd h
of-variable-same (v ∷ vs) [] h n x = absurd h
of-variable-same (v ∷ vs) (w ∷ ws) h n x =
    either (both (name-same v.name w.name n h.0) (h.1 x))
    (both (neither (name-same v.name w.name n h.0)) (of-variable-same vs ws h.2 n x))

aggregates-same : (M N : Set) → Same M N → Same (Aggregates M) (Aggregates N)
aggregates-same M N h (value (an_aggregate k) false) =
    ((λ e. (e.0, (h (value (an_aggregate k) e.0)).0 e.1)), (λ e. (e.0, (h (value (an_aggregate k) e.0)).1 e.1)))
aggregates-same M N h (value (an_aggregate k) true) = same
aggregates-same M N h (value a_number w) = same
aggregates-same M N h (value a_logical w) = same
aggregates-same M N h (value a_string w) = same
aggregates-same M N h (value a_binary w) = same
aggregates-same M N h (value an_item w) = same
aggregates-same M N h (instance n) = same

module _ (s : Schema) (M N : Set) (h : Same M N) where
  mean-same : (vs ws : List QueryVariable) → SameVariables vs ws → (r : Root) (qs : Qualifiers) (m : Meaning)
      → MayMean s M vs r qs m ↔ MayMean s N ws r qs m
  mean-same vs ws k own qs itself = same
  mean-same vs ws k own qs variable = same
  mean-same vs ws k own qs attribute_of_self = same
  mean-same vs ws k own qs item_of_type = same
  mean-same vs ws k own qs item = same
  mean-same vs ws k (trees.named n) qs itself = same
  mean-same vs ws k (trees.named n) qs variable = variable-same vs ws k n
  mean-same vs ws k (trees.named n) qs attribute_of_self =
      let take = take-same s (WithSubtypes s M) (WithSubtypes s N) (subtypes-same s M N h) n in
      ((λ e. (e.0, (take e.0).0 e.1)), (λ e. (e.0, (take e.0).1 e.1)))
  mean-same vs ws k (trees.named n) plain item_of_type = same
  mean-same vs ws k (trees.named n) (attribute i qs) item_of_type = same
  mean-same vs ws k (trees.named n) (group e a qs) item_of_type = same
  mean-same vs ws k (trees.named n) (index i qs) item_of_type = same
  mean-same vs ws k (trees.named n) qs item = same

  means-same : (vs ws : List QueryVariable) → SameVariables vs ws → (r : Root) (qs : Qualifiers) (m : Meaning)
      → Means s M vs r qs m ↔ Means s N ws r qs m
  means-same vs ws k r qs m =
      first-same (MayMean s M vs r qs) (MayMean s N ws r qs) (mean-same vs ws k r qs)
      (itself ∷ variable ∷ attribute_of_self ∷ item_of_type ∷ item ∷ []) m

  path-same : (vs ws : List QueryVariable) → SameVariables vs ws → (r : Root) (qs : Qualifiers) (m : Meaning)
      → Same (path s M vs r qs m).may (path s N ws r qs m).may
  path-same vs ws k own qs itself = behind-same s qs M N h
  path-same vs ws k own qs variable = λ x. same
  path-same vs ws k own qs attribute_of_self = λ x. same
  path-same vs ws k own qs item_of_type = λ x. same
  path-same vs ws k own qs item = λ x. same
  path-same vs ws k (trees.named n) qs itself = λ x. same
  path-same vs ws k (trees.named n) qs variable =
      behind-same s qs (OfVariable vs n) (OfVariable ws n) (of-variable-same vs ws k n)
  path-same vs ws k (trees.named n) qs attribute_of_self = behind-same s (attribute n qs) M N h
  path-same vs ws k (trees.named n) plain item_of_type = λ x. same
  path-same vs ws k (trees.named n) (attribute i qs) item_of_type = λ x. same
  path-same vs ws k (trees.named n) (group e a qs) item_of_type = λ x. same
  path-same vs ws k (trees.named n) (index i qs) item_of_type = λ x. same
  path-same vs ws k (trees.named n) qs item = λ x. same

  pub reference-same : (vs ws : List QueryVariable) → SameVariables vs ws → (r : Root) (qs : Qualifiers)
      → Same (OfReference s M vs r qs) (OfReference s N ws r qs)
  reference-same vs ws k r qs x = (
    (λ e. (e.0, (means-same vs ws k r qs e.0).0 e.1, (path-same vs ws k r qs e.0 x).0 e.2)),
    (λ e. (e.0, (means-same vs ws k r qs e.0).1 e.1, (path-same vs ws k r qs e.0 x).1 e.2)),
  )

  module _ (P : AttributeReference → Type 0)
      (alike : (M N : Set) → Same M N → (a : Name) → P (of_set M a) ↔ P (of_set N a)) where
    one-same : (vs ws : List QueryVariable) → SameVariables vs ws → (r : Root) (qs : Qualifiers) (m : Meaning)
        → OneOf P (path s M vs r qs m).attributes ↔ OneOf P (path s N ws r qs m).attributes
    one-same vs ws k own qs itself = one-behind s P alike qs M N h
    one-same vs ws k own qs variable = same
    one-same vs ws k own qs attribute_of_self = same
    one-same vs ws k own qs item_of_type = same
    one-same vs ws k own qs item = same
    one-same vs ws k (trees.named n) qs itself = same
    one-same vs ws k (trees.named n) qs variable =
        one-behind s P alike qs (OfVariable vs n) (OfVariable ws n) (of-variable-same vs ws k n)
    one-same vs ws k (trees.named n) qs attribute_of_self = one-behind s P alike (attribute n qs) M N h
    one-same vs ws k (trees.named n) plain item_of_type = same
    one-same vs ws k (trees.named n) (attribute i qs) item_of_type = same
    one-same vs ws k (trees.named n) (group e a qs) item_of_type = same
    one-same vs ws k (trees.named n) (index i qs) item_of_type = same
    one-same vs ws k (trees.named n) qs item = same

    one-meant : (vs ws : List QueryVariable) → SameVariables vs ws → (r : Root) (qs : Qualifiers)
        → ((m : Meaning) × Means s M vs r qs m × OneOf P (path s M vs r qs m).attributes)
        ↔ ((m : Meaning) × Means s N ws r qs m × OneOf P (path s N ws r qs m).attributes)
    one-meant vs ws k r qs = (
      (λ e. (e.0, (means-same vs ws k r qs e.0).0 e.1, (one-same vs ws k r qs e.0).0 e.2)),
      (λ e. (e.0, (means-same vs ws k r qs e.0).1 e.1, (one-same vs ws k r qs e.0).1 e.2)),
    )

  pub unclear-reference-same : (vs ws : List QueryVariable) → SameVariables vs ws → (r : Root) (qs : Qualifiers)
      → IsUnclearReference s M vs r qs ↔ IsUnclearReference s N ws r qs
  unclear-reference-same vs ws k r qs =
      either ((λ f m t. f m ((mean-same vs ws k r qs m).1 t)), (λ f m t. f m ((mean-same vs ws k r qs m).0 t)))
      (one-meant (IsUnclear s) (unclear-same s) vs ws k r qs)

  pub reference-use-same : (d : Derivation) (vs ws : List QueryVariable) → SameVariables vs ws → (r : Root)
      (qs : Qualifiers) → ReferenceMayUse s M d vs r qs ↔ ReferenceMayUse s N d ws r qs
  reference-use-same d vs ws k r qs = one-meant (MayUse s d) (use-same s d) vs ws k r qs

  pub may-same : (t : Tree) (vs ws : List QueryVariable) → SameVariables vs ws → Same (May s M vs t) (May s N ws t)
  may-same (literal l) vs ws k x = same
  may-same (signed sign n) vs ws k x = same
  may-same (reference r qs) vs ws k x = reference-same vs ws k r qs x
  may-same (parenthesized t) vs ws k x = may-same t vs ws k x
  may-same (aggregate ts) vs ws k x = same
  may-same (interval low above t below high) vs ws k x = same
  may-same (query v source condition) vs ws k x =
      aggregates-same (May s M vs source) (May s N ws source) (may-same source vs ws k) x
  may-same (call f t) vs ws k x = same
  may-same (nvl t u) vs ws k x = either (may-same t vs ws k x) (may-same u vs ws k x)
  may-same (negation t) vs ws k x = same
  may-same (conjunction t ts) vs ws k x = same
  may-same (disjunction t ts) vs ws k x = same
  may-same (comparison t r u) vs ws k x = same

  trees-same : (ts : Trees) (vs ws : List QueryVariable) → SameVariables vs ws → Same (OfTrees s M vs ts) (OfTrees s N ws ts)
  trees-same none vs ws k x = same
  trees-same (one t ts) vs ws k x = either (may-same t vs ws k x) (trees-same ts vs ws k x)

  all-elements-same : (t : Tree) (vs ws : List QueryVariable) → SameVariables vs ws
      → Same (Elements s (May s M vs t)) (Elements s (May s N ws t))
  all-elements-same t vs ws k = elements-same s (May s M vs t) (May s N ws t) (may-same t vs ws k)

  pub elements-of-same : (t : Tree) (vs ws : List QueryVariable) → SameVariables vs ws
      → Same (ElementsOf s M vs t) (ElementsOf s N ws t)
  elements-of-same (aggregate ts) vs ws k = trees-same ts vs ws k
  elements-of-same (parenthesized t) vs ws k = elements-of-same t vs ws k
  elements-of-same (literal l) vs ws k = all-elements-same (literal l) vs ws k
  elements-of-same (signed sign n) vs ws k = all-elements-same (signed sign n) vs ws k
  elements-of-same (reference r qs) vs ws k = all-elements-same (reference r qs) vs ws k
  elements-of-same (interval low above t below high) vs ws k =
      all-elements-same (interval low above t below high) vs ws k
  elements-of-same (query v source condition) vs ws k = all-elements-same (query v source condition) vs ws k
  elements-of-same (call f t) vs ws k = all-elements-same (call f t) vs ws k
  elements-of-same (nvl t u) vs ws k = all-elements-same (nvl t u) vs ws k
  elements-of-same (negation t) vs ws k = all-elements-same (negation t) vs ws k
  elements-of-same (conjunction t ts) vs ws k = all-elements-same (conjunction t ts) vs ws k
  elements-of-same (disjunction t ts) vs ws k = all-elements-same (disjunction t ts) vs ws k
  elements-of-same (comparison t r u) vs ws k = all-elements-same (comparison t r u) vs ws k

  -- what is somewhere in a tree, where it is at parts and at references
  module _ (H K : Bool → List QueryVariable → Tree → Type 0) (P Q : List QueryVariable → Root → Qualifiers → Type 0)
      (here : (vs ws : List QueryVariable) → SameVariables vs ws → (w : Bool) (t : Tree) → H w vs t ↔ K w ws t)
      (at : (vs ws : List QueryVariable) → SameVariables vs ws → (r : Root) (qs : Qualifiers) → P vs r qs ↔ Q ws r qs) where
    inner : (vs ws : List QueryVariable) → SameVariables vs ws → (v : Name) (source : Tree)
        → SameVariables (bound_to s M vs v source ∷ vs) (bound_to s N ws v source ∷ ws)
    inner vs ws k v source = (refl, all-elements-same source vs ws k, k)

    mutual
      pub somewhere-same : (t : Tree) (vs ws : List QueryVariable) → SameVariables vs ws → (w : Bool)
          → Somewhere s M H P w vs t ↔ Somewhere s N K Q w ws t
      somewhere-same (literal l) vs ws k w = here vs ws k w (literal l)
      somewhere-same (signed sign n) vs ws k w = here vs ws k w (signed sign n)
      somewhere-same (reference r qs) vs ws k w = either (at vs ws k r qs) (indices-same qs vs ws k)
      somewhere-same (parenthesized t) vs ws k w = somewhere-same t vs ws k w
      somewhere-same (aggregate ts) vs ws k w = either (here vs ws k w (aggregate ts)) (all-same ts vs ws k)
      somewhere-same (interval low above t below high) vs ws k w =
          either (here vs ws k w (interval low above t below high))
          (either (somewhere-same low vs ws k false)
          (either (somewhere-same t vs ws k false) (somewhere-same high vs ws k false)))
      somewhere-same (query v source condition) vs ws k w =
          either (somewhere-same source vs ws k false)
          (somewhere-same condition (bound_to s M vs v source ∷ vs) (bound_to s N ws v source ∷ ws)
          (inner vs ws k v source) false)
      somewhere-same (call f t) vs ws k w = either (here vs ws k w (call f t)) (somewhere-same t vs ws k false)
      somewhere-same (nvl t u) vs ws k w = either (somewhere-same t vs ws k false) (somewhere-same u vs ws k false)
      somewhere-same (negation t) vs ws k w = somewhere-same t vs ws k false
      somewhere-same (conjunction t ts) vs ws k w = either (somewhere-same t vs ws k false) (all-same ts vs ws k)
      somewhere-same (disjunction t ts) vs ws k w = either (somewhere-same t vs ws k false) (others-same ts vs ws k)
      somewhere-same (comparison t relations.In u) vs ws k w =
          either (here vs ws k w (comparison t relations.In u))
          (either (somewhere-same t vs ws k false) (somewhere-same u vs ws k true))
      somewhere-same (comparison t relations.Equal u) vs ws k w =
          either (here vs ws k w (comparison t relations.Equal u))
          (either (somewhere-same t vs ws k false) (somewhere-same u vs ws k false))
      somewhere-same (comparison t relations.NotEqual u) vs ws k w =
          either (here vs ws k w (comparison t relations.NotEqual u))
          (either (somewhere-same t vs ws k false) (somewhere-same u vs ws k false))
      somewhere-same (comparison t relations.Less u) vs ws k w =
          either (here vs ws k w (comparison t relations.Less u))
          (either (somewhere-same t vs ws k false) (somewhere-same u vs ws k false))
      somewhere-same (comparison t relations.Greater u) vs ws k w =
          either (here vs ws k w (comparison t relations.Greater u))
          (either (somewhere-same t vs ws k false) (somewhere-same u vs ws k false))
      somewhere-same (comparison t relations.LessOrEqual u) vs ws k w =
          either (here vs ws k w (comparison t relations.LessOrEqual u))
          (either (somewhere-same t vs ws k false) (somewhere-same u vs ws k false))
      somewhere-same (comparison t relations.GreaterOrEqual u) vs ws k w =
          either (here vs ws k w (comparison t relations.GreaterOrEqual u))
          (either (somewhere-same t vs ws k false) (somewhere-same u vs ws k false))

      pub all-same : (ts : Trees) (vs ws : List QueryVariable) → SameVariables vs ws
          → InTrees s M H P vs ts ↔ InTrees s N K Q ws ts
      all-same none vs ws k = same
      all-same (one t ts) vs ws k = either (somewhere-same t vs ws k false) (all-same ts vs ws k)

      pub others-same : (ts : Alternatives) (vs ws : List QueryVariable) → SameVariables vs ws
          → InAlternatives s M H P vs ts ↔ InAlternatives s N K Q ws ts
      others-same finish vs ws k = same
      others-same (another j t ts) vs ws k = either (somewhere-same t vs ws k false) (others-same ts vs ws k)

      pub indices-same : (qs : Qualifiers) (vs ws : List QueryVariable) → SameVariables vs ws
          → InIndices s M H P vs qs ↔ InIndices s N K Q ws qs
      indices-same plain vs ws k = same
      indices-same (attribute a qs) vs ws k = indices-same qs vs ws k
      indices-same (group e a qs) vs ws k = indices-same qs vs ws k
      indices-same (index i qs) vs ws k = either (somewhere-same i vs ws k false) (indices-same qs vs ws k)
