-- Lists of demands, of which all are met or one is the first that isn't.
use Rattle.std.specs.Prelude.{◌≡◌, ℕ, ◌+◌, ◌<◌, List, [], ◌∷◌, ◌++◌, map, flat_map, take, length, get_or, Result, Ok, Err}
use Rattle.std.proofs.Common.{refl, inl, inr, ap, sym, subst, ◌∙◌, arith, zero, suc}
use Rattle.step_literals.specs.declared.literal.Word.{Word}
use Rattle.express_syntax.specs.ExpressionViews.{capitals}
use Rattle.express_syntax.specs.Profile.{Every}
use Rattle.express_syntax.specs.Schemas.{Schema}
use Rattle.schema_semantics.specs.Names.{Name, IsFirst}
use Rattle.schema_semantics.specs.Faults.{Demand, IsMet}
use Rattle.schema_names.proofs.Rows.{take-more}
use Rattle.schema_faults.specs.steps.Checks.{IsFirstUnmet, Checks}

module _ (s : Schema) where
  abbrev pub Unmet : Demand → Type 0
  Unmet d = IsMet s d → ⊥

  first-left : (ds es : List Demand) (d : Demand) → IsFirst Unmet ds d → IsFirst Unmet (ds ++ es) d
  first-left [] es d h = elim h [ ]
  first-left (x ∷ ds) es d (inl h) = inl h
  first-left (x ∷ ds) es d (inr h) = inr (h.0, first-left ds es d h.1)

  first-right : (ds es : List Demand) (d : Demand) → Every (IsMet s) ds → IsFirst Unmet es d
      → IsFirst Unmet (ds ++ es) d
  first-right [] es d met h = h
  first-right (x ∷ ds) es d met h = inr ((λ k. k met.0), first-right ds es d met.1 h)

  -- the first that isn't met, with more behind it, or behind some that are
  pub unmet-left : (ds es : List Demand) (n : Name) → IsFirstUnmet s ds n → IsFirstUnmet s (ds ++ es) n
  unmet-left ds es n (d, h, e) = (d, first-left ds es d h, e)

  pub unmet-right : (ds es : List Demand) (n : Name) → Every (IsMet s) ds → IsFirstUnmet s es n
      → IsFirstUnmet s (ds ++ es) n
  unmet-right ds es n met (d, h, e) = (d, first-right ds es d met h, e)

  pub met-joined : (ds es : List Demand) → Every (IsMet s) ds → Every (IsMet s) es → Every (IsMet s) (ds ++ es)
  met-joined [] es h k = k
  met-joined (x ∷ ds) es h k = (h.0, met-joined ds es h.1 k)

  -- behind demands that are met
  pub checks-on : (ds es : List Demand) (r : Result (Unit {0}) Word) → Every (IsMet s) ds → Checks s es r
      → Checks s (ds ++ es) r
  checks-on ds es (Ok u) met h = met-joined ds es met h
  checks-on ds es (Err w) met h = unmet-right ds es (capitals w) met h

joined-on : {A : Type 0} (xs ys zs : List A) → (xs ++ ys) ++ zs ≡ xs ++ (ys ++ zs)
joined-on [] ys zs = refl
joined-on (x ∷ xs) ys zs = ap (λ ws. x ∷ ws) (joined-on xs ys zs)

flat-joined : {A B : Type 0} (f : A → List B) (xs ys : List A) → flat_map f (xs ++ ys) ≡ flat_map f xs ++ flat_map f ys
flat-joined f [] ys = refl
flat-joined f (x ∷ xs) ys =
    ap (λ zs. f x ++ zs) (flat-joined f xs ys) ∙ sym (joined-on (f x) (flat_map f xs) (flat_map f ys))

-- what is asked of the items of a list
module _ {A : Type 0} (s : Schema) (f : A → List Demand) where
  pub met-more : (xs : List A) (i : ℕ) (x : A) → i < length xs → x ≡ get_or xs i x
      → Every (IsMet s) (flat_map f (take i xs)) → Every (IsMet s) (f x)
      → Every (IsMet s) (flat_map f (take (i + 1) xs))
  met-more xs i x lt at before here =
      subst (Every (IsMet s))
      (sym (ap (flat_map f) (take-more xs i x lt at) ∙ flat-joined f (take i xs) (x ∷ [])))
      (met-joined s (flat_map f (take i xs)) (f x ++ []) before (met-joined s (f x) [] here tt))

  cut : (xs : List A) (i : ℕ) (x : A) → i < length xs → x ≡ get_or xs i x → (es : List Demand)
      × (flat_map f xs ≡ flat_map f (take i xs) ++ (f x ++ es))
  cut [] i x lt at = absurd (omega (arith, lt))
  cut (y ∷ xs) zero x lt at = (flat_map f xs, ap (λ z. f z ++ flat_map f xs) (sym at))
  cut (y ∷ xs) (suc i) x lt at =
      let (es, e) = cut xs i x (omega (arith, lt)) at in
      (es, ap (λ ds. f y ++ ds) e ∙ sym (joined-on (f y) (flat_map f (take i xs)) (f x ++ es)))

  pub unmet-more : (xs : List A) (i : ℕ) (x : A) (n : Name) → i < length xs → x ≡ get_or xs i x
      → Every (IsMet s) (flat_map f (take i xs)) → IsFirstUnmet s (f x) n → IsFirstUnmet s (flat_map f xs) n
  unmet-more xs i x n lt at before here =
      let (es, e) = cut xs i x lt at in
      subst (λ ds. IsFirstUnmet s ds n) (sym e)
      (unmet-right s (flat_map f (take i xs)) (f x ++ es) n before (unmet-left s (f x) es n here))

-- one demand of each of some words
abbrev pub asked_each : (Name → Demand) → Word → List Demand
asked_each ask w = ask (capitals w) ∷ []

pub one-each : (ask : Name → Demand) (ws : List Word) → flat_map (asked_each ask) ws ≡ map ask (map capitals ws)
one-each ask [] = refl
one-each ask (w ∷ ws) = ap (λ ds. ask (capitals w) ∷ ds) (one-each ask ws)

-- what is asked of what each of a list stands for
pub mapped-each : {A B : Type 0} (f : B → List Demand) (g : A → B) (xs : List A) → flat_map (λ x. f (g x)) xs
    ≡ flat_map f (map g xs)
mapped-each f g [] = refl
mapped-each f g (x ∷ xs) = ap (λ ds. f (g x) ++ ds) (mapped-each f g xs)
