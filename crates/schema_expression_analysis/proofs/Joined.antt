-- What is added to a survey, joined part by part.
use Rattle.std.proofs.Common.{◌≡◌, ◌⊎◌, ◌↔◌, ◌||◌, ◌-◌, ℕ, Bool, true, false, not, List, [], ◌∷◌, ◌++◌, length, length-append, take, inl, inr, refl, sym, ap, subst, ◌∙◌, arith}
use Rattle.std.specs.Prelude.{IsTrue}
use Rattle.std.proofs.lemmas.List.{take_at}
use Rattle.express_syntax.specs.declared.expression.Function.{Function}
use Rattle.express_syntax.specs.declared.expression.Function.TheVariants as functions
use Rattle.express_syntax.specs.declared.expression.Limit.{Limit}
use Rattle.express_syntax.specs.declared.expression.Sign.{Sign}
use Rattle.express_syntax.specs.declared.expression.Relation.{Relation}
use Rattle.express_syntax.specs.declared.expression.Relation.TheVariants as relations
use Rattle.express_syntax.specs.Trees.{Tree, Trees, Root, Qualifiers, Literal, Number, literal, signed, aggregate, interval, query, call, comparison}
use Rattle.express_syntax.specs.ExpressionViews.{capitals}
use Rattle.express_syntax.specs.Schemas.{Schema}
use Rattle.schema_semantics.specs.Names.{Name, OneOf}
use Rattle.schema_semantics.specs.Sets.{Set, QueryVariable, IsUnclearReference, ReferenceMayUse}
use Rattle.schema_semantics.specs.Reasons.{IsBadTypeof, IsBadKind, bound_to}
use Rattle.schema_expression_types.specs.declared.scope.Variable.{Variable as Numbered}
use Rattle.schema_expression_types.specs.steps.Scopes.{variable_of, inside, IsReferred}
use Rattle.schema_expression_types.specs.declared.references.Reference.{Reference}
use Rattle.schema_attributes.specs.Derivations.{HasDerivation, HoldsDerivation}
use Rattle.schema_expression_analysis.specs.declared.survey.Survey.{Survey}
use Rattle.schema_expression_analysis.specs.steps.Findings.{Finding, aggregate as loose, unclear, bad_typeof, bad_kind, asked, at_tree, at_path, Within, IsFound, Finds, Walks, Binds}
use Rattle.schema_expression_analysis.specs.steps.Questions.{is_typeof, is_in, with_aggregate, with_call}
use Rattle.schema_expression_analysis.proofs.Agreeing.{same, either, SameVariables, same-variables}
use Rattle.schema_expression_analysis.proofs.Same.{within-same}

-- nothing more holds
pub stays : {A B : Type 0} → (B → ⊥) → A ↔ (A ⊎ B)
stays {A} {B} none = (inl, back)
  where
    back : A ⊎ B → A
    back (inl a) = a
    back (inr b) = absurd (none b)

pub flag-more : {Q : Type 0} (b c : Bool) → IsTrue c ↔ Q → IsTrue (b || c) ↔ (IsTrue b ⊎ Q)
flag-more {Q} true c h = ((λ e. inl refl), (λ e. refl))
flag-more {Q} false c h = ((λ e. inr (h.0 e)), back)
  where
    back : IsTrue false ⊎ Q → IsTrue c
    back (inl e) = absurd (cc)
    back (inr q) = h.1 q

pub inside-last : (s : Schema) (ws : List Numbered) (w : Numbered) (vs : List QueryVariable)
    → inside s (ws ++ w ∷ []) vs ≡ variable_of s w ∷ inside s ws vs
inside-last s [] w vs = refl
inside-last s (u ∷ ws) w vs = inside-last s ws w (variable_of s u ∷ vs)

module _ (s : Schema) where
  pub finds-none : (old : Survey) (P : Finding → Type 0) → ((f : Finding) → P f → ⊥) → Finds s old P old
  finds-none old P none f = stays (none f)

  pub finds-alike : (old new : Survey) (P Q : Finding → Type 0) → ((f : Finding) → P f ↔ Q f) → Finds s old P new
      → Finds s old Q new
  finds-alike old new P Q is h f =
      let e = either {A = IsFound s old f} same (is f) in ((λ k. e.0 ((h f).0 k)), (λ k. (h f).1 (e.1 k)))

  pub finds-both : (a b c : Survey) (P Q : Finding → Type 0) → Finds s a P b → Finds s b Q c
      → Finds s a (λ f. P f ⊎ Q f) c
  finds-both a b c P Q h k f = ((λ m. forth ((k f).0 m)), back)
    where
      first : IsFound s a f ⊎ P f → IsFound s a f ⊎ (P f ⊎ Q f)
      first (inl m) = inl m
      first (inr p) = inr (inl p)

      forth : IsFound s b f ⊎ Q f → IsFound s a f ⊎ (P f ⊎ Q f)
      forth (inl m) = first ((h f).0 m)
      forth (inr q) = inr (inr q)

      back : IsFound s a f ⊎ (P f ⊎ Q f) → IsFound s c f
      back (inl m) = (k f).1 (inl ((h f).1 (inl m)))
      back (inr (inl p)) = (k f).1 (inl ((h f).1 (inr p)))
      back (inr (inr q)) = (k f).1 (inr q)

  pub walks-none : (ws : List Numbered) (t : Survey) (P : List QueryVariable → Finding → Type 0)
      → ((vs : List QueryVariable) (f : Finding) → P vs f → ⊥) → Walks s ws t P ws t
  walks-none ws t P none = record { kept = refl; finds = finds-none t (P (inside s ws [])) (none (inside s ws [])) }

  pub walks-here : (ws : List Numbered) (a b : Survey) (P : List QueryVariable → Finding → Type 0)
      → Finds s a (P (inside s ws [])) b → Walks s ws a P ws b
  walks-here ws a b P h = record { kept = refl; finds = h }

  pub walks-alike : (P Q : List QueryVariable → Finding → Type 0) → ((vs : List QueryVariable) (f : Finding) → P vs f ↔ Q vs f)
      → {ws xs : List Numbered} {a b : Survey} → Walks s ws a P xs b → Walks s ws a Q xs b
  walks-alike P Q is {ws} {xs} {a} {b} h =
      record {
        kept = h.kept;
        finds = finds-alike a b (P (inside s ws [])) (Q (inside s ws [])) (is (inside s ws
            [])) h.finds;
      }

  pub walks-both : {ws xs ys : List Numbered} {a b c : Survey} {P Q : List QueryVariable → Finding → Type 0}
      → Walks s ws a P xs b → Walks s xs b Q ys c → Walks s ws a (λ vs f. P vs f ⊎ Q vs f) ys c
  walks-both {ws} {xs} {ys} {a} {b} {c} {P} {Q} h k =
      record {
        kept = k.kept ∙ h.kept;
        finds = finds-both a b c (P (inside s ws [])) (Q (inside s ws [])) h.finds
            (subst (λ zs. Finds s b (Q (inside s zs [])) c) h.kept k.finds);
      }

  module _ (self : Set) where
    plain-literal : (f : Finding) (w : Bool) (vs : List QueryVariable) (l : Literal) → at_tree s self f w vs (literal l) → ⊥
    plain-literal loose true vs l h = h
    plain-literal loose false vs l h = h
    plain-literal unclear w vs l h = h
    plain-literal bad_typeof true vs l h = h
    plain-literal bad_typeof false vs l h = h
    plain-literal bad_kind w vs l h = h
    plain-literal (asked d) w vs l h = h

    plain-signed : (f : Finding) (w : Bool) (vs : List QueryVariable) (g : Sign) (n : Number)
        → at_tree s self f w vs (signed g n) → ⊥
    plain-signed loose true vs g n h = h
    plain-signed loose false vs g n h = h
    plain-signed unclear w vs g n h = h
    plain-signed bad_typeof true vs g n h = h
    plain-signed bad_typeof false vs g n h = h
    plain-signed bad_kind w vs g n h = h
    plain-signed (asked d) w vs g n h = h

    pub walks-literal : (ws : List Numbered) (t : Survey) (w : Bool) (l : Literal)
        → Walks s ws t (λ vs f. Within s self f w vs (literal l)) ws t
    walks-literal ws t w l = walks-none ws t (λ vs f. Within s self f w vs (literal l)) (λ vs f. plain-literal f w vs l)

    pub walks-signed : (ws : List Numbered) (t : Survey) (w : Bool) (g : Sign) (n : Number)
        → Walks s ws t (λ vs f. Within s self f w vs (signed g n)) ws t
    walks-signed ws t w g n =
        walks-none ws t (λ vs f. Within s self f w vs (signed g n)) (λ vs f. plain-signed f w vs g n)

    pub finds-aggregate : (t : Survey) (w : Bool) (vs : List QueryVariable) (xs : Trees)
        → Finds s t (λ f. at_tree s self f w vs (aggregate xs)) (with_aggregate w t)
    finds-aggregate t true vs xs loose = flag-more t.has_loose_aggregate false ((λ e. absurd (cc)), (λ e. absurd e))
    finds-aggregate t false vs xs loose = flag-more t.has_loose_aggregate true ((λ e. tt), (λ e. refl))
    finds-aggregate t w vs xs unclear = stays (λ e. e)
    finds-aggregate t true vs xs bad_typeof = stays (λ e. e)
    finds-aggregate t false vs xs bad_typeof = stays (λ e. e)
    finds-aggregate t w vs xs bad_kind = stays (λ e. e)
    finds-aggregate t w vs xs (asked d) = stays (λ e. e)

    typeof-is : (vs : List QueryVariable) (g : Function) (x : Tree)
        → IsTrue (is_typeof g) ↔ IsBadTypeof s self false vs (call g x)
    typeof-is vs functions.Typeof x = ((λ e. tt), (λ e. refl))
    typeof-is vs functions.Exists x = ((λ e. absurd (cc)), (λ e. absurd e))
    typeof-is vs functions.Sizeof x = ((λ e. absurd (cc)), (λ e. absurd e))
    typeof-is vs functions.Hiindex x = ((λ e. absurd (cc)), (λ e. absurd e))
    typeof-is vs functions.Loindex x = ((λ e. absurd (cc)), (λ e. absurd e))

    pub finds-call : (t : Survey) (w : Bool) (g : Function) (vs : List QueryVariable) (x : Tree)
        → Finds s t (λ f. at_tree s self f w vs (call g x)) (with_call w g t)
    finds-call t true g vs x bad_typeof = flag-more t.has_bad_typeof false ((λ e. absurd (cc)), (λ e. absurd e))
    finds-call t false g vs x bad_typeof = flag-more t.has_bad_typeof (is_typeof g) (typeof-is vs g x)
    finds-call t true g vs x loose = stays (λ e. e)
    finds-call t false g vs x loose = stays (λ e. e)
    finds-call t w g vs x unclear = stays (λ e. e)
    finds-call t w g vs x bad_kind = stays (λ e. e)
    finds-call t w g vs x (asked d) = stays (λ e. e)

    plain-interval : (f : Finding) (w : Bool) (vs : List QueryVariable) (x y z : Tree) (i j : Limit)
        → at_tree s self f false vs (interval x i y j z) ↔ at_tree s self f w vs (interval x i y j z)
    plain-interval loose true vs x y z i j = same
    plain-interval loose false vs x y z i j = same
    plain-interval unclear w vs x y z i j = same
    plain-interval bad_typeof true vs x y z i j = same
    plain-interval bad_typeof false vs x y z i j = same
    plain-interval bad_kind w vs x y z i j = same
    plain-interval (asked d) w vs x y z i j = same

    pub interval-is : (w : Bool) (x y z : Tree) (i j : Limit) (vs : List QueryVariable) (f : Finding)
        → (at_tree s self f false vs (interval x i y j z)
        ⊎ (Within s self f false vs x ⊎ (Within s self f false vs y ⊎ Within s self f false vs z)))
        ↔ Within s self f w vs (interval x i y j z)
    interval-is w x y z i j vs f = either (plain-interval f w vs x y z i j) same

    plain-comparison : (f : Finding) (w : Bool) (vs : List QueryVariable) (x : Tree) (r : Relation) (y : Tree)
        → at_tree s self f false vs (comparison x r y) ↔ at_tree s self f w vs (comparison x r y)
    plain-comparison loose true vs x r y = same
    plain-comparison loose false vs x r y = same
    plain-comparison unclear w vs x r y = same
    plain-comparison bad_typeof false vs x r y = same
    plain-comparison bad_typeof true vs x relations.Equal y = same
    plain-comparison bad_typeof true vs x relations.NotEqual y = same
    plain-comparison bad_typeof true vs x relations.Less y = same
    plain-comparison bad_typeof true vs x relations.Greater y = same
    plain-comparison bad_typeof true vs x relations.LessOrEqual y = same
    plain-comparison bad_typeof true vs x relations.GreaterOrEqual y = same
    plain-comparison bad_typeof true vs x relations.In y = same
    plain-comparison bad_kind true vs x relations.Equal y = same
    plain-comparison bad_kind true vs x relations.NotEqual y = same
    plain-comparison bad_kind true vs x relations.Less y = same
    plain-comparison bad_kind true vs x relations.Greater y = same
    plain-comparison bad_kind true vs x relations.LessOrEqual y = same
    plain-comparison bad_kind true vs x relations.GreaterOrEqual y = same
    plain-comparison bad_kind true vs x relations.In y = same
    plain-comparison bad_kind false vs x r y = same
    plain-comparison (asked d) w vs x r y = same

    pub comparison-is : (w : Bool) (x : Tree) (r : Relation) (y : Tree) (vs : List QueryVariable) (f : Finding)
        → (at_tree s self f false vs (comparison x r y)
        ⊎ (Within s self f false vs x ⊎ Within s self f (is_in r) vs y)) ↔ Within s self f w vs (comparison x r y)
    comparison-is w x relations.Equal y vs f = either (plain-comparison f w vs x relations.Equal y) same
    comparison-is w x relations.NotEqual y vs f = either (plain-comparison f w vs x relations.NotEqual y) same
    comparison-is w x relations.Less y vs f = either (plain-comparison f w vs x relations.Less y) same
    comparison-is w x relations.Greater y vs f = either (plain-comparison f w vs x relations.Greater y) same
    comparison-is w x relations.LessOrEqual y vs f = either (plain-comparison f w vs x relations.LessOrEqual y) same
    comparison-is w x relations.GreaterOrEqual y vs f = either (plain-comparison f w vs x relations.GreaterOrEqual y) same
    comparison-is w x relations.In y vs f = either (plain-comparison f w vs x relations.In y) same

    pub finds-comparison : (t : Survey) (b c : Bool) (vs : List QueryVariable) (x : Tree) (r : Relation) (y : Tree)
        → IsTrue b ↔ IsBadTypeof s self false vs (comparison x r y)
        → IsTrue c ↔ IsBadKind s self false vs (comparison x r y)
        → Finds s t (λ f. at_tree s self f false vs (comparison x r y))
        (record t { has_bad_typeof = t.has_bad_typeof || b; has_bad_kind = t.has_bad_kind || c })
    finds-comparison t b c vs x r y h k loose = stays (λ e. e)
    finds-comparison t b c vs x r y h k unclear = stays (λ e. e)
    finds-comparison t b c vs x r y h k bad_typeof = flag-more t.has_bad_typeof b h
    finds-comparison t b c vs x r y h k bad_kind = flag-more t.has_bad_kind c k
    finds-comparison t b c vs x r y h k (asked d) = stays (λ e. e)

    pub finds-interval : (t : Survey) (c : Bool) (vs : List QueryVariable) (x y z : Tree) (i j : Limit)
        → IsTrue c ↔ IsBadKind s self false vs (interval x i y j z)
        → Finds s t (λ f. at_tree s self f false vs (interval x i y j z))
        (record t { has_bad_kind = t.has_bad_kind || c })
    finds-interval t c vs x y z i j k loose = stays (λ e. e)
    finds-interval t c vs x y z i j k unclear = stays (λ e. e)
    finds-interval t c vs x y z i j k bad_typeof = stays (λ e. e)
    finds-interval t c vs x y z i j k bad_kind = flag-more t.has_bad_kind c k
    finds-interval t c vs x y z i j k (asked d) = stays (λ e. e)

    append-one : {A : Type 0} {Q : Type 0} (P : A → Type 0) (xs ys : List A) → OneOf P ys ↔ Q
        → OneOf P (xs ++ ys) ↔ (OneOf P xs ⊎ Q)
    append-one {A} {Q} P [] ys h = ((λ o. inr (h.0 o)), back)
      where
        back : OneOf P [] ⊎ Q → OneOf P ys
        back (inl e) = elim e [ ]
        back (inr q) = h.1 q
    append-one {A} {Q} P (x ∷ xs) ys h =
        let more = append-one P xs ys h in (forth more, back more)
      where
        forth : (OneOf P (xs ++ ys) ↔ (OneOf P xs ⊎ Q)) → P x ⊎ OneOf P (xs ++ ys) → (P x ⊎ OneOf P xs) ⊎ Q
        forth m (inl p) = inl (inl p)
        forth m (inr o) = put (m.0 o)
          where
            put : OneOf P xs ⊎ Q → (P x ⊎ OneOf P xs) ⊎ Q
            put (inl o) = inl (inr o)
            put (inr q) = inr q

        back : (OneOf P (xs ++ ys) ↔ (OneOf P xs ⊎ Q)) → (P x ⊎ OneOf P xs) ⊎ Q → P x ⊎ OneOf P (xs ++ ys)
        back m (inl (inl p)) = inl p
        back m (inl (inr o)) = inr (m.1 (inl o))
        back m (inr q) = inr (m.1 (inr q))

    pub finds-reference : (t new : Survey) (vs : List QueryVariable) (r : Root) (qs : Qualifiers) (ref : Reference)
        → IsReferred s self vs r qs ref → new.has_loose_aggregate ≡ t.has_loose_aggregate
        → new.has_unclear_name ≡ (t.has_unclear_name || ref.is_unclear) → new.has_bad_typeof ≡ t.has_bad_typeof
        → new.has_bad_kind ≡ t.has_bad_kind → new.uses.items ≡ t.uses.items ++ ref.uses.items
        → Finds s t (λ f. at_path s self f vs r qs) new
    finds-reference t new vs r qs ref h a u b k d loose =
        subst (λ g. IsTrue g ↔ (IsTrue t.has_loose_aggregate ⊎ ⊥)) (sym a) (stays (λ e. e))
    finds-reference t new vs r qs ref h a u b k d unclear =
        subst (λ g. IsTrue g ↔ (IsTrue t.has_unclear_name ⊎ IsUnclearReference s self vs r qs)) (sym u)
        (flag-more t.has_unclear_name ref.is_unclear h.unclear)
    finds-reference t new vs r qs ref h a u b k d bad_typeof =
        subst (λ g. IsTrue g ↔ (IsTrue t.has_bad_typeof ⊎ ⊥)) (sym b) (stays (λ e. e))
    finds-reference t new vs r qs ref h a u b k d bad_kind =
        subst (λ g. IsTrue g ↔ (IsTrue t.has_bad_kind ⊎ ⊥)) (sym k) (stays (λ e. e))
    finds-reference t new vs r qs ref h a u b k d (asked e) =
        subst (λ js. HoldsDerivation s js e ↔ (HoldsDerivation s t.uses.items e ⊎ ReferenceMayUse s self e vs r qs))
        (sym d) (append-one (λ j. HasDerivation s j e) t.uses.items ref.uses.items (h.uses e))

    -- the condition of a QUERY, with its variable around it
    walks-condition : {xs ys zs : List Numbered} {b c : Survey} (v : Name) (source condition : Tree)
        → Binds s self xs v source ys → Walks s ys b (λ vs f. Within s self f false vs condition) zs c
        → Walks s xs b (λ vs f. Within s self f false (bound_to s self vs v source ∷ vs) condition) xs c
    walks-condition {xs} {ys} {zs} {b} {c} v source condition h k =
        let vs = inside s xs [] in
        let w = variable_of s h.variable in
        let here =
        subst (λ us. Finds s b (λ f. Within s self f false us condition) c)
        (ap (λ us. inside s us []) h.last ∙ inside-last s xs h.variable []) k.finds in
        walks-here xs b c (λ us f. Within s self f false (bound_to s self us v source ∷ us) condition)
        (finds-alike b c (λ f. Within s self f false (w ∷ vs) condition)
        (λ f. Within s self f false (bound_to s self vs v source ∷ vs) condition)
        (λ f. within-same s self f (w ∷ vs) (bound_to s self vs v source ∷ vs)
        (h.called, h.may, same-variables vs) false condition) here)

    front : (xs zs : List Numbered) (w : Numbered) (n : ℕ) → zs ≡ xs ++ w ∷ [] → n ≡ length zs → take (n - 1) zs ≡ xs
    front xs zs w n e long =
        let more = length-append xs (w ∷ []) in
        let whole = ap length e in
        let same : length xs ≡ n - 1 = omega (arith, more, whole, long) in
        ap (take (n - 1)) e ∙ take_at xs (w ∷ []) (n - 1) same

    pub walks-query : {ws xs ys zs us : List Numbered} {a b c : Survey} (w : Bool) (v : Name) (source condition : Tree)
        (n : ℕ)
        → Walks s ws a (λ vs f. Within s self f false vs source) xs b → Binds s self xs v source ys
        → Walks s ys b (λ vs f. Within s self f false vs condition) zs c → us ≡ take (n - 1) zs → n ≡ length zs
        → Walks s ws a (λ vs f. Within s self f w vs (query v source condition)) us c
    walks-query {ws} {xs} {ys} {zs} {us} {a} {b} {c} w v source condition n h bound k rest long =
        let back = rest ∙ front xs zs bound.variable n (k.kept ∙ bound.last) long in
        subst (λ ts. Walks s ws a (λ vs f. Within s self f w vs (query v source condition)) ts c) (sym back)
        (walks-both h (walks-condition v source condition bound k))
