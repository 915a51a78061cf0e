-- Where the value of an attribute is found that a type derives.
use Rattle.std.specs.Prelude.{◌≡◌, ℕ, Bool, true, false, cond, List, Option, None, Some, is_some}
use Rattle.std.specs.List.{list_all}
use Rattle.std.proofs.Common.{refl, sym, subst, ◌∙◌}
use Rattle.graphs.specs.Graphs.{Graph, has}
use Rattle.express_syntax.specs.Schemas.{Schema}
use Rattle.schema_semantics.specs.Names.{Name, Among, IsKindOf}
use Rattle.schema_semantics.specs.Faults.{IsResolved}
use Rattle.schema_names.specs.Numbers.{HasNumber}
use Rattle.schema_explicit_attributes.specs.Supertypes.{AreAbove}
use Rattle.schema_explicit_attributes.specs.SupertypeLines.{HaveLines}
use Rattle.schema_underlying_types.specs.BaseViews.{name_at}
use Rattle.conformance.specs.Attributes.{DerivesIt, IsLowest, IsUnderived}
use Rattle.schema_attribute_sources.specs.SourceViews.{types_seen, AreTypes}
use Rattle.schema_attribute_sources.specs.steps.Deriving.{first_giving, derives}
use Rattle.schema_attribute_sources.specs.steps.Lowest.{leads, lowest_from, is_below}
use Rattle.schema_attribute_sources.proofs.Members.{differ, seen-among, among-seen, every-has, all-hold, holds-all}
use Rattle.schema_attribute_sources.proofs.Giving.{derives-forth, derives-back}
use Rattle.schema_attribute_sources.proofs.Above.{kind-forth, kind-back, leads-apart}
use Rattle.schema_attribute_sources.proofs.Least.{none-lowest, lowest-among, least-is}

module _ (s : Schema) (r : IsResolved s) (lines : Graph) (h : HaveLines s lines) (above : Graph)
    (up : AreAbove s above) (a : Name) (p : ℕ) (P : Name) (here : HasNumber s P p) (types : List ℕ)
    (numbered : AreTypes s types) where
  numbers : (q : ℕ) → has types q ≡ true → HasNumber s (name_at s q) q
  numbers q m = every-has (λ (i : ℕ). HasNumber s (name_at s i) i) types q numbered m

  gives-it : (q : ℕ) → has types q ≡ true → derives s lines a p q ≡ true → DerivesIt s P a (name_at s q)
  gives-it q m t = derives-forth s r lines h a p P here q (name_at s q) (numbers q m) t

  it-gives : (q : ℕ) → has types q ≡ true → DerivesIt s P a (name_at s q) → derives s lines a p q ≡ true
  it-gives q m d = derives-back s r lines h a p P here q (name_at s q) (numbers q m) d

  -- what is below all that derive it
  above-it : (e q : ℕ) → derives s lines a p q ≡ true → is_below (derives s lines a p) (leads above) e q ≡ true
      → leads above e q ≡ true
  above-it e q t b = by (derives s lines a p q) t b
    where
      by : (c : Bool) → c ≡ true → cond c (leads above e q) true ≡ true → leads above e q ≡ true
      by true t b = b
      by false t b = absurd (cc)

  below-it : (e q : ℕ) → (derives s lines a p q ≡ true → leads above e q ≡ true)
      → is_below (derives s lines a p) (leads above) e q ≡ true
  below-it e q f = by (derives s lines a p q) refl
    where
      by : (c : Bool) → derives s lines a p q ≡ c → cond c (leads above e q) true ≡ true
      by true t = f t
      by false t = refl

  module _ (e : ℕ) (found : lowest_from (derives s lines a p) (leads above) None types ≡ Some e) where
    there : (has types e ≡ true) × (derives s lines a p e ≡ true)
    there = lowest-among (derives s lines a p) (leads above) types e found

    pub is-derived : IsUnderived s (types_seen s types) P a → ⊥
    is-derived none =
        none (name_at s e) (seen-among (name_at s) types e there.0) (gives-it e there.0 there.1)

    pub lowest-is : list_all (is_below (derives s lines a p) (leads above) e) types ≡ true
        → IsLowest s (types_seen s types) P a (name_at s e)
    lowest-is all = (seen-among (name_at s) types e there.0, gives-it e there.0 there.1, below)
      where
        below : (f : Name) → Among f (types_seen s types) → DerivesIt s P a f → IsKindOf s (name_at s e) f
        below f m d =
            let (q, k, is) = among-seen (name_at s) types f m in
            let t = it-gives q k (subst (DerivesIt s P a) (sym is) d) in
            let b = all-hold (is_below (derives s lines a p) (leads above) e) types q all k in
            subst (IsKindOf s (name_at s e)) is
            (kind-forth s above up (name_at s e) (name_at s q) e q (numbers e there.0) (numbers q k)
            (above-it e q t b))

    pub none-is-lowest : list_all (is_below (derives s lines a p) (leads above) e) types ≡ false → (f : Name)
        → IsLowest s (types_seen s types) P a f → ⊥
    none-is-lowest not f (m, d, all) =
        let (q, k, is) = among-seen (name_at s) types f m in
        let under : (j : ℕ) → has types j ≡ true → derives s lines a p j ≡ true → leads above q j ≡ true =
        λ j l t. kind-back s above up (name_at s q) (name_at s j) q j (numbers q k) (numbers j l)
        (subst (λ x. IsKindOf s x (name_at s j)) (sym is)
        (all (name_at s j) (seen-among (name_at s) types j l) (gives-it j l t))) in
        let t = it-gives q k (subst (DerivesIt s P a) (sym is) d) in
        let one = least-is (derives s lines a p) (leads above) (leads-apart s above up r) q types k t under in
        let same : q ≡ e = some-is q e (sym one ∙ found) in
        let every : list_all (is_below (derives s lines a p) (leads above) q) types ≡ true =
        holds-all (is_below (derives s lines a p) (leads above) q) types (λ j l. below-it q j (under j l)) in
        differ (list_all (is_below (derives s lines a p) (leads above) e) types)
        (subst (λ x. list_all (is_below (derives s lines a p) (leads above) x) types ≡ true) same every) not
      where
        some-is : (i j : ℕ) → Some i ≡ Some j → i ≡ j
        some-is i j e = cc

    pub lowest-number : HasNumber s (name_at s e) e
    lowest-number = numbers e there.0

    pub gives-some : first_giving s lines a p e ≡ None → ⊥
    gives-some none = by (first_giving s lines a p e) none there.1
      where
        by : (o : Option ℕ) → o ≡ None → is_some o ≡ true → ⊥
        by None e t = cc
        by (Some n) e t = cc

  pub is-underived : lowest_from (derives s lines a p) (leads above) None types ≡ None
      → IsUnderived s (types_seen s types) P a
  is-underived none f m d =
      let (q, k, is) = among-seen (name_at s) types f m in
      let t = it-gives q k (subst (DerivesIt s P a) (sym is) d) in
      differ (derives s lines a p q) t (none-lowest (derives s lines a p) (leads above) types none q k)
