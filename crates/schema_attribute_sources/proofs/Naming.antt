-- Which of some types declares an attribute of a name.
use Rattle.std.specs.Prelude.{◌≡◌, ℕ, Bool, true, false, cond, List, None, Some, eqb}
use Rattle.std.specs.List.{find, list_any}
use Rattle.std.proofs.Common.{refl, inl, inr, ap, sym, subst, ◌∙◌, arith}
use Rattle.std.proofs.lemmas.Bool.Decides.{nat_tests}
use Rattle.graphs.specs.Graphs.{has}
use Rattle.express_syntax.specs.Schemas.{Schema}
use Rattle.schema_semantics.specs.Names.{Name, Declares}
use Rattle.schema_names.specs.Numbers.{number_of, HasNumber}
use Rattle.schema_names.proofs.Numbers.{what-stands}
use Rattle.schema_explicit_attributes.specs.declared.own_attributes.Meant.TheVariants.{All}
use Rattle.schema_explicit_attributes.specs.steps.Owned.{declares_at}
use Rattle.schema_explicit_attributes.proofs.Having.{declared-forth, declared-back}
use Rattle.schema_underlying_types.specs.BaseViews.{name_at, name_in, or_empty}
use Rattle.conformance.specs.Rules.{InverseAttribute}
use Rattle.conformance.specs.Attributes.{Source, unclear, IsDeclaring, DeclaresAlone, IsSource, IsNamed}
use Rattle.schema_attribute_sources.specs.SourceViews.{types_seen, AreTypes}
use Rattle.schema_attribute_sources.specs.steps.Declaring.{declares_beside, AreDeclaring}
use Rattle.schema_attribute_sources.specs.declared.declaring_entity.Declarer.TheVariants.{Nobody, One, Several}
use Rattle.schema_attribute_sources.proofs.Members.{differ, seen-among, among-seen, every-has, none-found, one-found, any-passes, none-passes, one-number}

-- how many pass a test
module _ (s : Schema) (a : Name) (xs : List ℕ) where
  test : ℕ → Bool
  test = declares_at s All a

  pub nobody-declares : find (declares_at s All a) xs ≡ None → AreDeclaring (declares_at s All a) xs Nobody
  nobody-declares e q m = none-found (declares_at s All a) xs e q m

  module _ (p : ℕ) (first : find (declares_at s All a) xs ≡ Some p) where
    pub several-declare : list_any (declares_beside s a p) xs ≡ true → AreDeclaring (declares_at s All a) xs Several
    several-declare t =
        let (m, d) = one-found (declares_at s All a) xs p first in
        let (q, k, b) = any-passes (declares_beside s a p) xs t in
        let (apart, e) = beside q (eqb q p) refl b in
        (p, q, m, d, k, e, apart)
      where
        beside : (q : ℕ) (b : Bool) → eqb q p ≡ b → cond b false (declares_at s All a q) ≡ true
            → (p ≡ q → ⊥) × (declares_at s All a q ≡ true)
        beside q true e t = absurd (cc)
        beside q false e t =
            ((λ (same : p ≡ q). (let yes : eqb q p ≡ true = grind (arith, nat_tests) in differ (eqb q p) yes e)), t)

    pub one-declares : list_any (declares_beside s a p) xs ≡ false → AreDeclaring (declares_at s All a) xs (One p)
    one-declares f =
        let (m, d) = one-found (declares_at s All a) xs p first in (m, d, only)
      where
        only : (q : ℕ) → has xs q ≡ true → declares_at s All a q ≡ true → q ≡ p
        only q k t = by (eqb q p) refl (none-passes (declares_beside s a p) xs q f k)
          where
            by : (b : Bool) → eqb q p ≡ b → cond b false (declares_at s All a q) ≡ false → q ≡ p
            by true e n = grind (arith, nat_tests)
            by false e n = absurd (differ (declares_at s All a q) t n)

-- the name of a number
pub name-is : (s : Schema) (n : Name) (i : ℕ) → HasNumber s n i → name_at s i ≡ n
name-is s n i k = let (d, at, named) = what-stands s n i k in ap name_in at ∙ ap or_empty named

module _ (s : Schema) (a : Name) where
  pub declares-forth : (n : Name) (i : ℕ) → HasNumber s n i → declares_at s All a i ≡ true → Declares s n a
  declares-forth n i k t = declared-forth s All a n i k t

  pub declares-back : (n : Name) (i : ℕ) → HasNumber s n i → Declares s n a → declares_at s All a i ≡ true
  declares-back n i k d = declared-back s All a n i k d

  module _ (types : List ℕ) (numbered : AreTypes s types) where
    pub number-at : (q : ℕ) → has types q ≡ true → HasNumber s (name_at s q) q
    number-at q m = every-has (λ (i : ℕ). HasNumber s (name_at s i) i) types q numbered m

    -- a type that declares it has a number
    pub declaring-at : (p : Name) → IsDeclaring s (types_seen s types) a p
        → (q : ℕ) × (has types q ≡ true) × (name_at s q ≡ p) × (declares_at s All a q ≡ true)
    declaring-at p (m, d) =
        let (q, k, is) = among-seen (name_at s) types p m in
        (q, k, is, declares-back (name_at s q) q (number-at q k) (subst (λ n. Declares s n a) (sym is) d))

    pub is-declaring : (q : ℕ) → has types q ≡ true → declares_at s All a q ≡ true
        → IsDeclaring s (types_seen s types) a (name_at s q)
    is-declaring q m t = (seen-among (name_at s) types q m, declares-forth (name_at s q) q (number-at q m) t)

    module _ (inverses : List InverseAttribute) where
      pub named-none : AreDeclaring (declares_at s All a) types Nobody → IsNamed s inverses (types_seen s types) a None
      named-none none p d = let (q, m, is, t) = declaring-at p d in differ (declares_at s All a q) t (none q m)

      pub declares-alone : (p : ℕ) → AreDeclaring (declares_at s All a) types (One p)
          → DeclaresAlone s (types_seen s types) a (name_at s p)
      declares-alone p (m, t, only) = (
        is-declaring p m t,
        λ q d. let (j, k, is, e) = declaring-at q d in sym is ∙ ap (name_at s) (only j k e),
      )

      pub named-one : (p : ℕ) → AreDeclaring (declares_at s All a) types (One p) → (x : Source)
          → IsSource s inverses (types_seen s types) (name_at s p) a x
          → IsNamed s inverses (types_seen s types) a (Some x)
      named-one p one x h = inl (name_at s p, declares-alone p one, h)

      pub named-two : AreDeclaring (declares_at s All a) types Several
          → IsNamed s inverses (types_seen s types) a (Some unclear)
      named-two (p, q, m, t, k, e, apart) =
          inr (
            (
              name_at s p,
              name_at s q,
              is-declaring p m t,
              is-declaring q k e,
              λ same. apart (one-number (number_of s) (name_at s p) (name_at s q) p q (number-at p m) (number-at q k) same),
            ),
            refl,
          )
