-- Sets that are found atom by atom, and tree by tree.
use Rattle.std.specs.Prelude.{◌≡◌, ℕ, Bool, true, false, List, [], ◌∷◌, ◌++◌, ◌+◌, ◌<◌, ◌≤◌, Some, slice_get, Result, OnOk, Vec, Box, length, take, get_or, map, ◌⊎◌, ◌↔◌}
use Rattle.std.proofs.Common.{Global, arith, ap, refl, inl, inr, sym, subst, ◌∙◌}
use Rattle.std.proofs.lemmas.List.{get_or_default}
use Rattle.std.proofs.lemmas.Result.{on_ok_weaker}
use Rattle.express_syntax.specs.declared.expression.Expr.{Expr}
use Rattle.express_syntax.specs.declared.expression.Expr.TheVariants as exprs
use Rattle.express_syntax.specs.declared.expression.Expr.TheOpen.{Expr-F}
use Rattle.express_syntax.specs.declared.expression.Expr.TheOpen as layer
use Rattle.express_syntax.specs.declared.expression.Expr.TheViews.{roll-Expr, out-Expr, roll-out-Expr}
use Rattle.express_syntax.specs.declared.expression.Qualifier.{Qualifier}
use Rattle.express_syntax.specs.declared.expression.Alternative.{Alternative}
use Rattle.std.proofs.lemmas.Option.{slice_get_within}
use Rattle.express_syntax.specs.declared.expression.Function.{Function}
use Rattle.express_syntax.specs.declared.expression.Function.TheVariants as functions
use Rattle.express_syntax.specs.Trees.{Tree, nvl}
use Rattle.express_syntax.specs.ExpressionViews.{all_of, tree_of, trees_of}
use Rattle.express_syntax.specs.Schemas.{Schema, DataType}
use Rattle.schema_semantics.specs.Shapes.{Atom, value, instance, a_number, a_logical, a_string, a_binary, an_item, an_aggregate, IsOf}
use Rattle.schema_semantics.specs.Sets.{OfCall, Set, Empty, Either, Only, Elements, Aggregates, QueryVariable, May}
use Rattle.schema_semantics.specs.Reasons.{OfTrees, ElementsOf}
use Rattle.schema_data_types.specs.declared.values.Atom.{Atom as Numbered}
use Rattle.schema_data_types.specs.declared.values.Atom.TheVariants as atoms
use Rattle.schema_data_types.specs.NumberedTypes.{all_data_types}
use Rattle.schema_data_types.specs.steps.Values.{Holds, AddsAll, IsMeant}
use Rattle.schema_data_types.proofs.Sets.{adds-nothing, adds-atom, adds-alike, adds-both}
use Rattle.schema_names.proofs.Rows.{take-more, map-joined}
use Rattle.schema_attribute_references.specs.steps.Taking.{IsSet}
use Rattle.express_syntax.proofs.Layers.{literal-seen, signed-seen, reference-seen, interval-seen, query-seen, call-seen, nvl-seen, not-seen, conjunction-seen, disjunction-seen, comparison-seen}

-- what is found of a set is what is found of its parts
pub record IsAdditive (F : Set → Set) : Type 1 where
  pub keeps : (M N : Set) → ((x : Atom) → M x → N x) → (x : Atom) → F M x → F N x
  pub parts : (M N : Set) (x : Atom) → F (Either M N) x → Either (F M) (F N) x
  pub nothing : (x : Atom) → F Empty x → ⊥

aggregates-keep : (M N : Set) → ((x : Atom) → M x → N x) → (x : Atom) → Aggregates M x → Aggregates N x
aggregates-keep M N h (value (an_aggregate k) false) (w, m) = (w, h (value (an_aggregate k) w) m)
aggregates-keep M N h (value (an_aggregate k) true) e = elim e [ ]
aggregates-keep M N h (value a_number w) e = elim e [ ]
aggregates-keep M N h (value a_logical w) e = elim e [ ]
aggregates-keep M N h (value a_string w) e = elim e [ ]
aggregates-keep M N h (value a_binary w) e = elim e [ ]
aggregates-keep M N h (value an_item w) e = elim e [ ]
aggregates-keep M N h (instance n) e = elim e [ ]

aggregates-part : (M N : Set) (x : Atom) → Aggregates (Either M N) x → Either (Aggregates M) (Aggregates N) x
aggregates-part M N (value (an_aggregate k) false) (w, inl m) = inl (w, m)
aggregates-part M N (value (an_aggregate k) false) (w, inr m) = inr (w, m)
aggregates-part M N (value (an_aggregate k) true) e = elim e [ ]
aggregates-part M N (value a_number w) e = elim e [ ]
aggregates-part M N (value a_logical w) e = elim e [ ]
aggregates-part M N (value a_string w) e = elim e [ ]
aggregates-part M N (value a_binary w) e = elim e [ ]
aggregates-part M N (value an_item w) e = elim e [ ]
aggregates-part M N (instance n) e = elim e [ ]

no-aggregates : (x : Atom) → Aggregates Empty x → ⊥
no-aggregates (value (an_aggregate k) false) (w, e) = e
no-aggregates (value (an_aggregate k) true) e = e
no-aggregates (value a_number w) e = e
no-aggregates (value a_logical w) e = e
no-aggregates (value a_string w) e = e
no-aggregates (value a_binary w) e = e
no-aggregates (value an_item w) e = e
no-aggregates (instance n) e = e

pub aggregates-additive : IsAdditive Aggregates
aggregates-additive = record { keeps = aggregates-keep; parts = aggregates-part; nothing = no-aggregates }

pub number-called : (f : Function) → (f ≡ functions.Sizeof) ⊎ ((f ≡ functions.Hiindex) ⊎ (f ≡ functions.Loindex))
    → OfCall f ≡ Only a_number
number-called f (inl e) = rw e refl
number-called f (inr (inl e)) = rw e refl
number-called f (inr (inr e)) = rw e refl

module _ (s : Schema) where
  pub elements-additive : IsAdditive (Elements s)
  elements-additive =
      record {
        keeps = λ M N h x (k, w, m, is). (k, w, h (value (an_aggregate k) w) m, is);
        parts = part;
        nothing = λ x (k, w, m, is). m;
      }
    where
      part : (M N : Set) (x : Atom) → Elements s (Either M N) x → Either (Elements s M) (Elements s N) x
      part M N x (k, w, inl m, is) = inl (k, w, m, is)
      part M N x (k, w, inr m, is) = inr (k, w, m, is)

  -- an aggregate of no SELECT stands for the aggregates of an atom
  pub aggregate-meant : (n : ℕ) (w : Bool) (x : Atom) → IsMeant s (atoms.Aggregate n false) x
      ↔ Aggregates (IsMeant s (atoms.Aggregate n w)) x
  aggregate-meant n w x = (forth, back x)
    where
      forth : IsMeant s (atoms.Aggregate n false) x → Aggregates (IsMeant s (atoms.Aggregate n w)) x
      forth (k, at, e) = subst (Aggregates (IsMeant s (atoms.Aggregate n w))) (sym e) (w, (k, at, refl))

      same : (k l : DataType) (v : Bool) → value (an_aggregate k) v ≡ value (an_aggregate l) w
          → value (an_aggregate k) false ≡ value (an_aggregate l) false
      same k l v e = cc

      back : (x : Atom) → Aggregates (IsMeant s (atoms.Aggregate n w)) x → IsMeant s (atoms.Aggregate n false) x
      back (value (an_aggregate k) false) (v, (l, at, e)) = (l, at, same k l v e)
      back (value (an_aggregate k) true) e = elim e [ ]
      back (value a_number v) e = elim e [ ]
      back (value a_logical v) e = elim e [ ]
      back (value a_string v) e = elim e [ ]
      back (value a_binary v) e = elim e [ ]
      back (value an_item v) e = elim e [ ]
      back (instance m) e = elim e [ ]

  -- what the elements of an aggregate may be
  pub elements-meant : (n : ℕ) (w : Bool) (k : DataType) → slice_get (all_data_types s) n ≡ Some k → (x : Atom)
      → IsOf s k x ↔ Elements s (IsMeant s (atoms.Aggregate n w)) x
  elements-meant n w k at x = (λ i. (k, w, (k, at, refl), i), back)
    where
      same : (l m : DataType) (v : Bool) → value (an_aggregate l) v ≡ value (an_aggregate m) w → l ≡ m
      same l m v e = cc

      one : (l m : DataType) → Some l ≡ Some m → l ≡ m
      one l m e = cc

      back : Elements s (IsMeant s (atoms.Aggregate n w)) x → IsOf s k x
      back (l, v, (m, there, e), i) = subst (λ y. IsOf s y x) (same l m v e ∙ one m k (sym there ∙ at)) i

  pub no-elements : (n : ℕ) (w : Bool) → length (all_data_types s) ≤ n → (x : Atom)
      → Elements s (IsMeant s (atoms.Aggregate n w)) x → ⊥
  no-elements n w le x (l, v, (m, there, e), i) =
      let lt = slice_get_within (all_data_types s) n m there in absurd (omega (arith, le, lt))

  pub one-more : (xs : List Numbered) (a : Numbered) (x : Atom) → Holds s (xs ++ a ∷ []) x
      ↔ (Holds s xs x ⊎ IsMeant s a x)
  one-more xs a = adds-atom s xs a (IsMeant s a) (λ x. (λ h. h, λ h. h))

  module _ (F : Set → Set) (additive : IsAdditive F) where
    pub none-added : (old : List Numbered) → AddsAll s old (F (Holds s [])) old
    none-added old =
        adds-nothing s old (F (Holds s [])) (λ x h. additive.nothing x (additive.keeps (Holds s []) Empty (λ y k. k) x
        h))

    pub alike : (M N : Set) → ((x : Atom) → M x ↔ N x) → (x : Atom) → F M x ↔ F N x
    alike M N h x = (additive.keeps M N (λ y m. (h y).0 m) x, additive.keeps N M (λ y m. (h y).1 m) x)

    pub one-added : (xs : List Numbered) (a : Numbered) (old mid new : List Numbered)
        → AddsAll s old (F (Holds s xs)) mid → AddsAll s mid (F (IsMeant s a)) new
        → AddsAll s old (F (Holds s (xs ++ a ∷ []))) new
    one-added xs a old mid new h k =
        adds-alike s old new (λ x. F (Holds s xs) x ⊎ F (IsMeant s a) x) (F (Holds s (xs ++ a ∷ [])))
        (λ x. (forth x, back x)) (adds-both s old mid new (F (Holds s xs)) (F (IsMeant s a)) h k)
      where
        forth : (x : Atom) → F (Holds s xs) x ⊎ F (IsMeant s a) x → F (Holds s (xs ++ a ∷ [])) x
        forth x (inl m) =
            additive.keeps (Holds s xs) (Holds s (xs ++ a ∷ [])) (λ y n. (one-more xs a y).1 (inl n)) x m
        forth x (inr m) =
            additive.keeps (IsMeant s a) (Holds s (xs ++ a ∷ [])) (λ y n. (one-more xs a y).1 (inr n)) x m

        back : (x : Atom) → F (Holds s (xs ++ a ∷ [])) x → F (Holds s xs) x ⊎ F (IsMeant s a) x
        back x m =
            additive.parts (Holds s xs) (IsMeant s a) x
            (additive.keeps (Holds s (xs ++ a ∷ [])) (Either (Holds s xs) (IsMeant s a)) (λ y n. (one-more xs a y).0 n) x
            m)

    -- the next atom of a list is added
    pub next-added : (xs : List Numbered) (i : ℕ) (d : Numbered) → i < length xs → (old mid new : List Numbered)
        → AddsAll s old (F (Holds s (take i xs))) mid → AddsAll s mid (F (IsMeant s (get_or xs i d))) new
        → AddsAll s old (F (Holds s (take (i + 1) xs))) new
    next-added xs i d lt old mid new h k =
        let a = get_or xs i d in
        subst (λ ys. AddsAll s old (F (Holds s ys)) new) (sym (take-more xs i a lt (get_or_default xs i d a lt)))
        (one-added (take i xs) a old mid new h k)

  -- what is added to nothing is the set
  pub set-of : (M : Set) (xs : List Numbered) → AddsAll s [] M xs → IsSet s M xs
  set-of M xs h x = (λ k. forth ((h x).0 k), λ m. (h x).1 (inr m))
    where
      forth : Holds s [] x ⊎ M x → M x
      forth (inl k) = elim k [ ]
      forth (inr m) = m

  holds-forth : (xs ys : List Numbered) (x : Atom) → Holds s (xs ++ ys) x → Holds s xs x ⊎ Holds s ys x
  holds-forth [] ys x h = inr h
  holds-forth (a ∷ xs) ys x (inl m) = inl (inl m)
  holds-forth (a ∷ xs) ys x (inr h) = put (holds-forth xs ys x h)
    where
      put : Holds s xs x ⊎ Holds s ys x → Holds s (a ∷ xs) x ⊎ Holds s ys x
      put (inl k) = inl (inr k)
      put (inr k) = inr k

  holds-back : (xs ys : List Numbered) (x : Atom) → Holds s xs x ⊎ Holds s ys x → Holds s (xs ++ ys) x
  holds-back [] ys x (inl h) = elim h [ ]
  holds-back [] ys x (inr h) = h
  holds-back (a ∷ xs) ys x (inl (inl m)) = inl m
  holds-back (a ∷ xs) ys x (inl (inr h)) = inr (holds-back xs ys x (inl h))
  holds-back (a ∷ xs) ys x (inr h) = inr (holds-back xs ys x (inr h))

  -- a list that is a set is added
  pub adds-set : (M : Set) (old more : List Numbered) → IsSet s M more → AddsAll s old M (old ++ more)
  adds-set M old more h =
      adds-alike s old (old ++ more) (Holds s more) M h (λ x. (holds-forth old more x, holds-back old more x))

  pub set-alike : (F : Set → Set) → IsAdditive F → (M : Set) (xs ys : List Numbered) → IsSet s M xs
      → IsSet s (F (Holds s xs)) ys → IsSet s (F M) ys
  set-alike F additive M xs ys h k x =
      (λ m. (alike F additive (Holds s xs) M h x).0 ((k x).0 m), λ m. (k x).1 ((alike F additive (Holds s xs) M h x).1 m))

  -- one more tree
  module _ (self : Set) (vs : List QueryVariable) where
    trees-forth : (ts : List Tree) (t : Tree) (x : Atom) → OfTrees s self vs (all_of ts) x ⊎ May s self vs t x
        → OfTrees s self vs (all_of (ts ++ t ∷ [])) x
    trees-forth [] t x (inl h) = elim h [ ]
    trees-forth [] t x (inr h) = inl h
    trees-forth (u ∷ ts) t x (inl (inl h)) = inl h
    trees-forth (u ∷ ts) t x (inl (inr h)) = inr (trees-forth ts t x (inl h))
    trees-forth (u ∷ ts) t x (inr h) = inr (trees-forth ts t x (inr h))

    trees-back : (ts : List Tree) (t : Tree) (x : Atom) → OfTrees s self vs (all_of (ts ++ t ∷ [])) x
        → OfTrees s self vs (all_of ts) x ⊎ May s self vs t x
    trees-back [] t x (inl h) = inr h
    trees-back [] t x (inr h) = elim h [ ]
    trees-back (u ∷ ts) t x (inl h) = inl (inl h)
    trees-back (u ∷ ts) t x (inr h) = put (trees-back ts t x h)
      where
        put : OfTrees s self vs (all_of ts) x ⊎ May s self vs t x
            → OfTrees s self vs (all_of (u ∷ ts)) x ⊎ May s self vs t x
        put (inl k) = inl (inr k)
        put (inr k) = inr k

    pub tree-added : (ts : List Tree) (t : Tree) (old mid new : List Numbered)
        → AddsAll s old (OfTrees s self vs (all_of ts)) mid → AddsAll s mid (May s self vs t) new
        → AddsAll s old (OfTrees s self vs (all_of (ts ++ t ∷ []))) new
    tree-added ts t old mid new h k =
        adds-alike s old new (λ x. OfTrees s self vs (all_of ts) x ⊎ May s self vs t x)
        (OfTrees s self vs (all_of (ts ++ t ∷ []))) (λ x. (trees-forth ts t x, trees-back ts t x))
        (adds-both s old mid new (OfTrees s self vs (all_of ts)) (May s self vs t) h k)

    -- what an expression is
    pub adds-tree : {E : Type 0} (r : Result (Unit {0}) E) (e f : Expr) → e ≡ f → (t : Tree) → tree_of f ≡ t
        → (old new : List Numbered) → OnOk r (AddsAll s old (May s self vs t) new)
        → OnOk r (AddsAll s old (May s self vs (tree_of e)) new)
    adds-tree r e f is t seen old new h =
        subst (λ x. OnOk r (AddsAll s old (May s self vs x) new)) (sym (ap tree_of is ∙ seen)) h

    pub query-added : {E : Type 0} (r : Result (Unit {0}) E) (source : Tree) (sources empty old new : List Numbered)
        → empty ≡ [] → AddsAll s empty (May s self vs source) sources
        → OnOk r (AddsAll s old (Aggregates (Holds s sources)) new)
        → OnOk r (AddsAll s old (Aggregates (May s self vs source)) new)
    query-added r source sources empty old new none found h =
        let is = set-of (May s self vs source) sources (subst (λ xs. AddsAll s xs (May s self vs source) sources) none
        found) in
        on_ok_weaker r (adds-alike s old new (Aggregates (Holds s sources)) (Aggregates (May s self vs source))
        (alike Aggregates aggregates-additive (Holds s sources) (May s self vs source) is)) h

    pub both-added : {E : Type 0} (r : Result (Unit {0}) E) (t u : Tree) (old mid new : List Numbered)
        → AddsAll s old (May s self vs t) mid → OnOk r (AddsAll s mid (May s self vs u) new)
        → OnOk r (AddsAll s old (May s self vs (nvl t u)) new)
    both-added r t u old mid new h k =
        on_ok_weaker r (adds-both s old mid new (May s self vs t) (May s self vs u) h) k

    pub next-tree : (xs : List Expr) (i : ℕ) (x : Expr) → i < length xs → x ≡ get_or xs i x
        → (old mid new : List Numbered) → AddsAll s old (OfTrees s self vs (trees_of (take i xs))) mid
        → AddsAll s mid (May s self vs (tree_of x)) new
        → AddsAll s old (OfTrees s self vs (trees_of (take (i + 1) xs))) new
    next-tree xs i x lt at old mid new h k =
        subst (λ ts. AddsAll s old (OfTrees s self vs (all_of ts)) new)
        (sym (ap (map tree_of) (take-more xs i x lt at) ∙ map-joined tree_of (take i xs) (x ∷ [])))
        (tree-added (map tree_of (take i xs)) (tree_of x) old mid new h k)

    elements-by : (e : Expr) (t : Tree) → tree_of e ≡ t → ElementsOf s self vs t ≡ Elements s (May s self vs t)
        → ElementsOf s self vs (tree_of e) ≡ Elements s (May s self vs (tree_of e))
    elements-by e t seen is = subst (λ u. ElementsOf s self vs u ≡ Elements s (May s self vs u)) (sym seen) is

    elements-of-layer : (x : Expr-F Expr Qualifier Alternative)
        → ((y : Box Expr Global) → roll-Expr x ≡ exprs.Parenthesized y → ⊥)
        → ((xs : Vec Expr Global) → roll-Expr x ≡ exprs.Aggregate xs → ⊥)
        → ElementsOf s self vs (tree_of (roll-Expr x)) ≡ Elements s (May s self vs (tree_of (roll-Expr x)))
    elements-of-layer (layer.Literal l) not other =
        elements-by (roll-Expr (layer.Literal l)) _ (ap tree_of (exprs.rolls-Literal l) ∙ literal-seen l) refl
    elements-of-layer (layer.Signed g n) not other =
        elements-by (roll-Expr (layer.Signed g n)) _ (ap tree_of (exprs.rolls-Signed g n) ∙ signed-seen g n) refl
    elements-of-layer (layer.Reference r qs) not other =
        elements-by (roll-Expr (layer.Reference r qs)) _ (ap tree_of (exprs.rolls-Reference r qs) ∙ reference-seen r qs) refl
    elements-of-layer (layer.Interval low above x below high) not other =
        elements-by (roll-Expr (layer.Interval low above x below high)) _ (ap tree_of (exprs.rolls-Interval low above x below high) ∙ interval-seen low above x below high) refl
    elements-of-layer (layer.Query v source condition) not other =
        elements-by (roll-Expr (layer.Query v source condition)) _ (ap tree_of (exprs.rolls-Query v source condition) ∙ query-seen v source condition) refl
    elements-of-layer (layer.Call f x) not other =
        elements-by (roll-Expr (layer.Call f x)) _ (ap tree_of (exprs.rolls-Call f x) ∙ call-seen f x) refl
    elements-of-layer (layer.Nvl x y) not other =
        elements-by (roll-Expr (layer.Nvl x y)) _ (ap tree_of (exprs.rolls-Nvl x y) ∙ nvl-seen x y) refl
    elements-of-layer (layer.Not x) not other =
        elements-by (roll-Expr (layer.Not x)) _ (ap tree_of (exprs.rolls-Not x) ∙ not-seen x) refl
    elements-of-layer (layer.Conjunction x xs) not other =
        elements-by (roll-Expr (layer.Conjunction x xs)) _ (ap tree_of (exprs.rolls-Conjunction x xs) ∙ conjunction-seen x xs) refl
    elements-of-layer (layer.Disjunction x xs) not other =
        elements-by (roll-Expr (layer.Disjunction x xs)) _ (ap tree_of (exprs.rolls-Disjunction x xs) ∙ disjunction-seen x xs) refl
    elements-of-layer (layer.Comparison x r y) not other =
        elements-by (roll-Expr (layer.Comparison x r y)) _ (ap tree_of (exprs.rolls-Comparison x r y) ∙ comparison-seen x r y) refl
    elements-of-layer (layer.Parenthesized x) not other = absurd (not x (exprs.rolls-Parenthesized x))
    elements-of-layer (layer.Aggregate xs) not other = absurd (other xs (exprs.rolls-Aggregate xs))

    -- what is neither in parentheses nor `[..]`
    pub elements-otherwise : (e : Expr) → ((x : Box Expr Global) → e ≡ exprs.Parenthesized x → ⊥)
        → ((xs : Vec Expr Global) → e ≡ exprs.Aggregate xs → ⊥)
        → ElementsOf s self vs (tree_of e) ≡ Elements s (May s self vs (tree_of e))
    elements-otherwise e not other =
        let is : roll-Expr (out-Expr e) ≡ e = roll-out-Expr e in
        subst (λ f. ElementsOf s self vs (tree_of f) ≡ Elements s (May s self vs (tree_of f))) is
        (elements-of-layer (out-Expr e) (λ x h. not x (sym is ∙ h)) (λ xs h. other xs (sym is ∙ h)))
