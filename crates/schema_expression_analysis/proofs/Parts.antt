-- Intervals, comparisons and QUERYs, joined from what is added for their parts.
use Rattle.std.specs.Prelude.{◌≡◌, ℕ, ◌-◌, Bool, false, List, length, take, Box}
use Rattle.std.proofs.Common.{Global, ap, sym, subst, ◌∙◌}
use Rattle.step_literals.specs.declared.literal.Word.{Word}
use Rattle.express_syntax.specs.declared.expression.Limit.{Limit}
use Rattle.express_syntax.specs.declared.expression.Relation.{Relation}
use Rattle.express_syntax.specs.declared.expression.Expr.{Expr}
use Rattle.express_syntax.specs.declared.expression.Expr.TheVariants as exprs
use Rattle.express_syntax.specs.Trees.{Tree, interval, query, comparison}
use Rattle.express_syntax.specs.ExpressionViews.{capitals, tree_of}
use Rattle.express_syntax.specs.Schemas.{Schema}
use Rattle.schema_semantics.specs.Sets.{Set}
use Rattle.schema_expression_types.specs.declared.scope.Variable.{Variable as Numbered}
use Rattle.express_syntax.proofs.Layers.{interval-seen, query-seen, comparison-seen}
use Rattle.schema_expression_analysis.specs.declared.survey.Survey.{Survey}
use Rattle.schema_expression_analysis.specs.steps.Findings.{Within, Walks, Binds, at_tree}
use Rattle.schema_expression_analysis.specs.steps.Questions.{is_in}
use Rattle.schema_expression_analysis.proofs.Joined.{walks-alike, walks-both, walks-query, interval-is, comparison-is}

module _ (s : Schema) (self : Set) (w : Bool) (e : Expr) where
  -- a part that is lent
  lent : (ws xs : List Numbered) (a b : Survey) (u : Bool) (x y : Expr) → x ≡ y
      → Walks s ws a (λ vs f. Within s self f u vs (tree_of x)) xs b
      → Walks s ws a (λ vs f. Within s self f u vs (tree_of y)) xs b
  lent ws xs a b u x y is h = subst (λ z. Walks s ws a (λ vs f. Within s self f u vs (tree_of z)) xs b) is h

  pub interval-walks : (i j : Limit) (x y z : Box Expr Global) → e ≡ exprs.Interval x i y j z
      → (lv ws xs ys zs : List Numbered) (a b c d g : Survey) → lv ≡ ws
      → (p q r : Expr) → p ≡ x.value → q ≡ y.value → r ≡ z.value
      → ((m n : Limit) → Walks s lv a
      (λ vs f. at_tree s self f false vs (interval (tree_of p) m (tree_of q) n (tree_of r))) lv b)
      → (t u v : Expr) → t ≡ x.value → u ≡ y.value → v ≡ z.value
      → Walks s ws b (λ vs f. Within s self f false vs (tree_of t)) xs c
      → Walks s xs c (λ vs f. Within s self f false vs (tree_of u)) ys d
      → Walks s ys d (λ vs f. Within s self f false vs (tree_of v)) zs g
      → Walks s ws a (λ vs f. Within s self f w vs (tree_of e)) zs g
  interval-walks i j x y z is lv ws xs ys zs a b c d g here p q r ep eq er note t u v et eu ev first second third =
      let low = tree_of x.value in
      let item = tree_of y.value in
      let high = tree_of z.value in
      let noted =
      subst (λ os. Walks s os a (λ vs f. at_tree s self f false vs (interval low i item j high)) os b) here
      (subst (λ k. Walks s lv a (λ vs f. at_tree s self f false vs (interval (tree_of k) i item j high)) lv b) ep
      (subst (λ k. Walks s lv a (λ vs f. at_tree s self f false vs (interval (tree_of p) i (tree_of k) j high)) lv b) eq
      (subst (λ k. Walks s lv a (λ vs f. at_tree s self f false vs (interval (tree_of p) i (tree_of q) j (tree_of k))) lv b)
      er (note i j)))) in
      subst (λ k. Walks s ws a (λ vs f. Within s self f w vs k) zs g)
      (sym (ap tree_of is ∙ interval-seen x i y j z))
      (walks-alike s _ _ (interval-is s self w low item high i j)
      (walks-both s noted (walks-both s (lent ws xs b c false t x.value et first)
      (walks-both s (lent xs ys c d false u y.value eu second) (lent ys zs d g false v z.value ev third)))))

  pub comparison-walks : (x : Box Expr Global) (o : Relation) (y : Box Expr Global) → e ≡ exprs.Comparison x o y
      → (lv ws xs ys : List Numbered) (a b c d : Survey) → lv ≡ ws
      → (p q : Expr) → p ≡ x.value → q ≡ y.value
      → Walks s lv a (λ vs f. at_tree s self f false vs (comparison (tree_of p) o (tree_of q))) lv b
      → (t u : Expr) (k : Bool) → t ≡ x.value → u ≡ y.value → k ≡ is_in o
      → Walks s ws b (λ vs f. Within s self f false vs (tree_of t)) xs c
      → Walks s xs c (λ vs f. Within s self f k vs (tree_of u)) ys d
      → Walks s ws a (λ vs f. Within s self f w vs (tree_of e)) ys d
  comparison-walks x o y is lv ws xs ys a b c d here p q ep eq note t u k et eu ek first second =
      let left = tree_of x.value in
      let right = tree_of y.value in
      let noted =
      subst (λ os. Walks s os a (λ vs f. at_tree s self f false vs (comparison left o right)) os b) here
      (subst (λ h. Walks s lv a (λ vs f. at_tree s self f false vs (comparison (tree_of h) o right)) lv b) ep
      (subst (λ h. Walks s lv a (λ vs f. at_tree s self f false vs (comparison (tree_of p) o (tree_of h))) lv b) eq note))
      in
      subst (λ h. Walks s ws a (λ vs f. Within s self f w vs h) ys d)
      (sym (ap tree_of is ∙ comparison-seen x o y))
      (walks-alike s _ _ (comparison-is s self w left o right)
      (walks-both s noted (walks-both s (lent ws xs b c false t x.value et first)
      (subst (λ h. Walks s xs c (λ vs f. Within s self f h vs right) ys d) ek
      (lent xs ys c d k u y.value eu second)))))

  pub query-walks : (n : Word) (x y : Box Expr Global) → e ≡ exprs.Query n x y
      → (ws xs ys zs us : List Numbered) (a b c : Survey) (t p u : Expr) (m : ℕ)
      → t ≡ x.value → p ≡ x.value → u ≡ y.value
      → Walks s ws a (λ vs f. Within s self f false vs (tree_of t)) xs b
      → Binds s self xs (capitals n) (tree_of p) ys
      → Walks s ys b (λ vs f. Within s self f false vs (tree_of u)) zs c
      → us ≡ take (m - 1) zs → m ≡ length zs
      → Walks s ws a (λ vs f. Within s self f w vs (tree_of e)) us c
  query-walks n x y is ws xs ys zs us a b c t p u m et ep eu first bound second rest long =
      subst (λ h. Walks s ws a (λ vs f. Within s self f w vs h) us c)
      (sym (ap tree_of is ∙ query-seen n x y))
      (walks-query s self w (capitals n) (tree_of x.value) (tree_of y.value) m (lent ws xs a b false t x.value et first)
      (subst (λ h. Binds s self xs (capitals n) (tree_of h) ys) ep bound) (lent ys zs b c false u y.value eu second)
      rest long)
