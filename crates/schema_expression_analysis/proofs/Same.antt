-- What is found at a part depends on the sets of variables by what is in them alone.
use Rattle.std.proofs.Common.{◌≡◌, ◌⊎◌, ◌↔◌, Bool, true, false, List, [], ◌∷◌, inl, inr}
use Rattle.express_syntax.specs.declared.expression.Function.TheVariants as functions
use Rattle.express_syntax.specs.declared.expression.Relation.TheVariants as relations
use Rattle.express_syntax.specs.Trees.{Tree, Qualifiers, Root, literal, signed, reference, parenthesized, aggregate, interval, query, call, nvl, negation, conjunction, disjunction, comparison}
use Rattle.express_syntax.specs.Schemas.{Schema, DataType, named}
use Rattle.schema_semantics.specs.Names.{Name, IsEntity, IsType}
use Rattle.schema_semantics.specs.Shapes.{value, instance, an_aggregate, IsOverSelect}
use Rattle.schema_semantics.specs.Sets.{Set, QueryVariable, May}
use Rattle.schema_semantics.specs.Reasons.{ElementsOf, IsLooseAggregate, SaysName, HasBareValue, IsTypeTest, IsBadTypeTest, IsBadTypeof, MayBeDeep, MayBeUnordered, BothDeep, IsBadKind}
use Rattle.schema_expression_analysis.specs.steps.Findings.{Finding, aggregate as loose, unclear, bad_typeof, bad_kind, asked, at_tree, at_path, Within}
use Rattle.schema_expression_analysis.proofs.Agreeing.{Same, same, either, both, neither, SameVariables, may-same, elements-of-same, unclear-reference-same, reference-use-same, somewhere-same}

pub bare-same : (M N : Set) → Same M N → HasBareValue M ↔ HasBareValue N
bare-same M N h =
    ((λ e. (e.0, (h (value e.0 false)).0 e.1)), (λ e. (e.0, (h (value e.0 false)).1 e.1)))

pub deep-same : (M N : Set) → Same M N → MayBeDeep M ↔ MayBeDeep N
deep-same M N h =
    either ((λ e. (e.0, (h (instance e.0)).0 e.1)), (λ e. (e.0, (h (instance e.0)).1 e.1))) (
      (λ e. (e.0, e.1, (h (value (an_aggregate e.0) e.1)).0 e.2)),
      (λ e. (e.0, e.1, (h (value (an_aggregate e.0) e.1)).1 e.2)),
    )

pub unordered-same : (M N : Set) → Same M N → MayBeUnordered M ↔ MayBeUnordered N
unordered-same M N h =
    ((λ e. (e.0, e.1, e.2, (h (value e.0 e.1)).0 e.3)), (λ e. (e.0, e.1, e.2, (h (value e.0 e.1)).1 e.3)))

module _ (s : Schema) (M N : Set) (h : Same M N) (vs ws : List QueryVariable) (k : SameVariables vs ws) where
  may : (t : Tree) → Same (May s M vs t) (May s N ws t)
  may t = may-same s M N h t vs ws k

  test-same : (t u : Tree) → IsTypeTest s M vs t u ↔ IsTypeTest s N ws t u
  test-same t u = ((λ e. (e.0, e.1, (told e.0).0 e.2)), (λ e. (e.0, e.1, (told e.0).1 e.2)))
    where
      told : (n : Name)
          → (IsEntity s n
          ⊎ (IsType s n × (IsOverSelect s (named n) → ⊥) × (HasBareValue (May s M vs u) → ⊥)))
          ↔ (IsEntity s n
          ⊎ (IsType s n × (IsOverSelect s (named n) → ⊥) × (HasBareValue (May s N ws u) → ⊥)))
      told n =
          let bare = bare-same (May s M vs u) (May s N ws u) (may u) in
          either same ((λ e. (e.0, e.1, λ b. e.2 (bare.1 b))), (λ e. (e.0, e.1, λ b. e.2 (bare.0 b))))

  deep : (t : Tree) → MayBeDeep (May s M vs t) ↔ MayBeDeep (May s N ws t)
  deep t = deep-same (May s M vs t) (May s N ws t) (may t)

  unordered : (t : Tree) → MayBeUnordered (May s M vs t) ↔ MayBeUnordered (May s N ws t)
  unordered t = unordered-same (May s M vs t) (May s N ws t) (may t)

  deep-elements : (t : Tree) → MayBeDeep (ElementsOf s M vs t) ↔ MayBeDeep (ElementsOf s N ws t)
  deep-elements t =
      deep-same (ElementsOf s M vs t) (ElementsOf s N ws t) (elements-of-same s M N h t vs ws k)

  pub bad-test-same : (t u : Tree) → IsBadTypeTest s M vs t u ↔ IsBadTypeTest s N ws t u
  bad-test-same t (literal l) = same
  bad-test-same t (signed sign n) = same
  bad-test-same t (reference r qs) = same
  bad-test-same t (parenthesized u) = bad-test-same t u
  bad-test-same t (aggregate zs) = same
  bad-test-same t (interval low above z below high) = same
  bad-test-same t (query v source condition) = same
  bad-test-same t (nvl z y) = same
  bad-test-same t (negation z) = same
  bad-test-same t (conjunction z zs) = same
  bad-test-same t (disjunction z zs) = same
  bad-test-same t (call functions.Exists z) = same
  bad-test-same t (call functions.Sizeof z) = same
  bad-test-same t (call functions.Hiindex z) = same
  bad-test-same t (call functions.Loindex z) = same
  bad-test-same t (call functions.Typeof u) = neither (test-same t u)
  bad-test-same t (comparison y r z) = same

  loose-same : (w : Bool) (t : Tree) → IsLooseAggregate w vs t ↔ IsLooseAggregate w ws t
  loose-same true t = same
  loose-same false (literal l) = same
  loose-same false (signed sign n) = same
  loose-same false (reference r qs) = same
  loose-same false (parenthesized t) = same
  loose-same false (aggregate ts) = same
  loose-same false (interval low above t below high) = same
  loose-same false (query v source condition) = same
  loose-same false (nvl t u) = same
  loose-same false (negation t) = same
  loose-same false (conjunction t ts) = same
  loose-same false (disjunction t ts) = same
  loose-same false (call f t) = same
  loose-same false (comparison t r u) = same

  typeof-same : (w : Bool) (t : Tree) → IsBadTypeof s M w vs t ↔ IsBadTypeof s N w ws t
  typeof-same true (literal l) = same
  typeof-same true (signed sign n) = same
  typeof-same true (reference r qs) = same
  typeof-same true (parenthesized t) = same
  typeof-same true (aggregate ts) = same
  typeof-same true (interval low above t below high) = same
  typeof-same true (query v source condition) = same
  typeof-same true (nvl t u) = same
  typeof-same true (negation t) = same
  typeof-same true (conjunction t ts) = same
  typeof-same true (disjunction t ts) = same
  typeof-same true (call f t) = same
  typeof-same true (comparison t relations.Equal u) = same
  typeof-same true (comparison t relations.NotEqual u) = same
  typeof-same true (comparison t relations.Less u) = same
  typeof-same true (comparison t relations.Greater u) = same
  typeof-same true (comparison t relations.LessOrEqual u) = same
  typeof-same true (comparison t relations.GreaterOrEqual u) = same
  typeof-same true (comparison t relations.In u) = bad-test-same t u
  typeof-same false (literal l) = same
  typeof-same false (signed sign n) = same
  typeof-same false (reference r qs) = same
  typeof-same false (parenthesized t) = same
  typeof-same false (aggregate ts) = same
  typeof-same false (interval low above t below high) = same
  typeof-same false (query v source condition) = same
  typeof-same false (nvl t u) = same
  typeof-same false (negation t) = same
  typeof-same false (conjunction t ts) = same
  typeof-same false (disjunction t ts) = same
  typeof-same false (call functions.Exists t) = same
  typeof-same false (call functions.Sizeof t) = same
  typeof-same false (call functions.Hiindex t) = same
  typeof-same false (call functions.Loindex t) = same
  typeof-same false (call functions.Typeof t) = same
  typeof-same false (comparison t relations.Equal u) = same
  typeof-same false (comparison t relations.NotEqual u) = same
  typeof-same false (comparison t relations.Less u) = same
  typeof-same false (comparison t relations.Greater u) = same
  typeof-same false (comparison t relations.LessOrEqual u) = same
  typeof-same false (comparison t relations.GreaterOrEqual u) = same
  typeof-same false (comparison t relations.In u) = bad-test-same t u

  kind-same : (w : Bool) (t : Tree) → IsBadKind s M w vs t ↔ IsBadKind s N w ws t
  kind-same w (literal l) = same
  kind-same w (signed sign n) = same
  kind-same w (reference r qs) = same
  kind-same w (parenthesized t) = same
  kind-same w (aggregate ts) = same
  kind-same w (interval low above t below high) = either (unordered low) (either (unordered t) (unordered high))
  kind-same w (query v source condition) = same
  kind-same w (nvl t u) = same
  kind-same w (negation t) = same
  kind-same w (conjunction t ts) = same
  kind-same w (disjunction t ts) = same
  kind-same w (call f t) = same
  kind-same w (comparison t relations.Equal u) = both (deep t) (deep u)
  kind-same w (comparison t relations.NotEqual u) = both (deep t) (deep u)
  kind-same w (comparison t relations.Less u) = either (unordered t) (unordered u)
  kind-same w (comparison t relations.Greater u) = either (unordered t) (unordered u)
  kind-same w (comparison t relations.LessOrEqual u) = either (unordered t) (unordered u)
  kind-same w (comparison t relations.GreaterOrEqual u) = either (unordered t) (unordered u)
  kind-same w (comparison t relations.In u) = both (deep t) (deep-elements u)

  pub tree-same : (f : Finding) (w : Bool) (t : Tree) → at_tree s M f w vs t ↔ at_tree s N f w ws t
  tree-same loose w t = loose-same w t
  tree-same unclear w t = same
  tree-same bad_typeof w t = typeof-same w t
  tree-same bad_kind w t = kind-same w t
  tree-same (asked d) w t = same

  pub reference-same : (f : Finding) (r : Root) (qs : Qualifiers) → at_path s M f vs r qs ↔ at_path s N f ws r qs
  reference-same loose r qs = same
  reference-same unclear r qs = unclear-reference-same s M N h vs ws k r qs
  reference-same bad_typeof r qs = same
  reference-same bad_kind r qs = same
  reference-same (asked d) r qs = reference-use-same s M N h d vs ws k r qs

-- what is found in a tree depends on what is in the sets of SELF and of variables alone
pub found-same : (s : Schema) (M N : Set) → Same M N → (f : Finding) (vs ws : List QueryVariable) → SameVariables vs ws
    → (w : Bool) (t : Tree) → Within s M f w vs t ↔ Within s N f w ws t
found-same s M N h f vs ws k w t =
    somewhere-same s M N h (at_tree s M f) (at_tree s N f) (at_path s M f) (at_path s N f)
    (λ vs ws k w t. tree-same s M N h vs ws k f w t) (λ vs ws k r qs. reference-same s M N h vs ws k f r qs) t vs ws k w

pub within-same : (s : Schema) (self : Set) (f : Finding) (vs ws : List QueryVariable) → SameVariables vs ws → (w : Bool)
    (t : Tree) → Within s self f w vs t ↔ Within s self f w ws t
within-same s self f vs ws k w t = found-same s self self (λ x. same) f vs ws k w t
