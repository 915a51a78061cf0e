-- What is made of all derived attributes are their formulas.
use Rattle.std.specs.Prelude.{◌≡◌, ℕ, List, [], ◌∷◌, Option, None, Some, flat_map, length, get_or, slice_get, take, option_map}
use Rattle.std.proofs.Common.{refl, inl, ap, sym, subst, ◌∙◌, arith, zero, suc}
use Rattle.std.proofs.lemmas.List.{length-append, length-map}
use Rattle.express_syntax.specs.Schemas.{Schema, Declaration, entity, Derived, Body, parsed, set_aside}
use Rattle.schema_semantics.specs.declared.unchecked.Reason.TheVariants as reasons
use Rattle.schema_semantics.specs.Names.{listed}
use Rattle.schema_semantics.specs.Faults.{IsResolved}
use Rattle.schema_semantics.specs.Attributes.{Derivation, IsNth, IsDerivation}
use Rattle.schema_semantics.specs.Reasons.{GivesReason}
use Rattle.schema_semantics.specs.Ranks.{Self, IsSetAside}
use Rattle.schema_names.proofs.Numbers.{stands-at}
use Rattle.schema_attributes.specs.Derivations.{derivations_in, all_derivations, HasDerivation}
use Rattle.schema_derived_attributes.specs.steps.Asked.{deriveds_in}
use Rattle.schema_derived_attributes.specs.AttributeRanks.{AreRanksOf}
use Rattle.schema_derived_attributes.proofs.Asking.{count-of}
use Rattle.schema_derived_attributes.proofs.Numbering.{flat-at, numbered}
use Rattle.schema_derived_attributes.proofs.Ranked.{below-end, stands-at as stands-below}
use Rattle.conformance.specs.Attributes.{IsFormula}
use Rattle.schema_derived_attributes.specs.declared.formula.Formula.{Formula}
use Rattle.schema_derived_attributes.specs.Formulas.{formula_seen, AreFormulas}
use Rattle.schema_derived_attributes.specs.steps.Making.{formula_by, formulas_from, formulas_seen}
use Rattle.schema_derived_attributes.proofs.Joined.{from-length, from-at}

-- as many derived attributes as numbers
pub counted : (ds : List Declaration) → length (flat_map deriveds_in ds) ≡ length (flat_map derivations_in ds)
counted [] = refl
counted (d ∷ ds) =
    let these = length-append (deriveds_in d) (flat_map deriveds_in ds) in
    let those = length-append (derivations_in d) (flat_map derivations_in ds) in
    let here = count-of d in
    let rest = counted ds in
    omega (arith, these, those, here, rest)

nth-at : (ds : List Derived) (n : ℕ) (x : Derived) → IsNth ds n x → slice_get ds n ≡ Some x
nth-at [] n x h = elim h [ ]
nth-at (d ∷ ds) zero x h = ap Some h
nth-at (d ∷ ds) (suc n) x h = nth-at ds n x h

seen-there : (table : List (Option Formula)) (j : ℕ) (o : Option Formula) → slice_get table j ≡ Some o
    → slice_get (formulas_seen table) j ≡ Some (option_map formula_seen o)
seen-there [] j o h = absurd (cc)
seen-there (p ∷ table) zero o h = let same : p ≡ o = cc in ap (λ q. Some (option_map formula_seen q)) same
seen-there (p ∷ table) (suc j) o h = seen-there table j o h

module _ (s : Schema) (ranks : List (Option ℕ)) (r : AreRanksOf s ranks) where
  -- what has a rank isn't set aside
  ranked-free : (j q : ℕ) (d : Derivation) → HasDerivation s j d → slice_get ranks j ≡ Some (Some q)
      → IsSetAside s d → ⊥
  ranked-free j q d h at aside =
      let same : Some None ≡ Some (Some q) = sym ((r.aside j d h).1 aside) ∙ at in absurd (cc)

  -- by its rank and its body
  formula-by : (j : ℕ) (d : Derivation) (x : Derived) → HasDerivation s j d → IsDerivation s d x → (o : Option ℕ)
      → slice_get ranks j ≡ Some o → (b : Body) → x.body ≡ b → IsFormula s d (formula_by o b)
  formula-by j d x h there None at b is = inl ((r.aside j d h).0 at)
  formula-by j d x h there (Some q) at (parsed t) is = (
    ranked-free j q d h at,
    (x, there, is),
    (r.ranks.0, r.ranks.1, r.ranks.2 j q d h at),
  )
  formula-by j d x h there (Some q) at (set_aside u) is =
      absurd (ranked-free j q d h at (
        d,
        inl refl,
        inl (
          x,
          there,
          reasons.Profile,
          subst (λ b. GivesReason s (Self d.0) b reasons.Profile) (sym is) tt,
        ),
      ))

  module _ (resolved : IsResolved s) where
    pub are-formulas : (table : List (Option Formula))
        → formulas_seen table ≡ formulas_from ranks 0 (flat_map deriveds_in s.declarations) → AreFormulas s table
    are-formulas table all = record {
      same =
          let long = length-map table (option_map formula_seen) in
          let made = ap length all in
          let of = from-length ranks 0 (flat_map deriveds_in s.declarations) in
          let as_many = counted s.declarations in
          omega (arith, long, made, of, as_many);
      each = each;
    }
      where
        each : (j : ℕ) (d : Derivation) (o : Option Formula) → HasDerivation s j d → slice_get table j ≡ Some o
            → IsFormula s d (option_map formula_seen o)
        each j d o h at =
            let n = numbered s resolved j d h in
            let before = counted (take n.place s.declarations) in
            let place = n.counted in
            let x = n.what in
            let there : slice_get (flat_map deriveds_in s.declarations) j ≡ Some x =
            flat-at deriveds_in s.declarations n.place j d.1 (entity n.owner) x n.at
            (nth-at (listed n.owner.derived) d.1 x n.nth) (omega (arith, place, before)) in
            let made : slice_get (formulas_seen table) j ≡ Some (formula_by (get_or ranks j None) x.body) =
            ap (λ ts. slice_get ts j) all
            ∙ from-at ranks 0 (flat_map deriveds_in s.declarations) j j x there (omega arith) in
            let same : option_map formula_seen o ≡ formula_by (get_or ranks j None) x.body =
            one-item (sym (seen-there table j o at) ∙ made) in
            let long = r.same in
            let below = below-end (all_derivations s) j d h in
            let is : IsDerivation s d x = (n.owner, stands-at s d.0 n.place n.named ∙ n.at, n.nth) in
            subst (IsFormula s d) (sym same)
            (formula-by j d x h is (get_or ranks j None) (stands-below ranks j None (omega (arith, long, below))) x.body
            refl)
          where
            one-item : {A : Type 0} {p q : A} → Some p ≡ Some q → p ≡ q
            one-item e = cc
