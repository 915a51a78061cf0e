-- The value of an inverse attribute, by the references that it holds.
use Rattle.std.specs.Prelude.{◌≡◌, ℕ, ◌<◌, ◌≤◌, true, false, cond, List, [], ◌∷◌, length, map, flat_map, Some, slice_get}
use Rattle.std.specs.List.{AllZip}
use Rattle.std.proofs.Common.{refl, sym, ap, subst, ◌∙◌, zero, suc, arith}
use Rattle.std.proofs.Props.{props}
use Rattle.std.proofs.Math.Nat.{ℕ_set}
use Rattle.std.proofs.Math.Logic.{∥∥₁_elim}
use Rattle.std.proofs.lemmas.Slice.Zip.{AllZip-long}
use Rattle.graphs.specs.Graphs.{has}
use Rattle.express_syntax.specs.Schemas.{Schema}
use Rattle.express_syntax.specs.Profile.{Every}
use Rattle.schema_names.specs.Numbers.{HasNumber}
use Rattle.schema_underlying_types.specs.BaseViews.{name_at}
use Rattle.conformance.specs.ParameterFits.{is_listed}
use Rattle.conformance.specs.Populations.{Instance, types_at}
use Rattle.population_forms.proofs.Naming.{among-is}
use Rattle.conformance.specs.Referrers.{held, inverse_value}
use Rattle.graphs.specs.declared.referrers.Reference.{Reference}
use Rattle.graphs.specs.Referrers.{referrers_of}
use Rattle.schema_constraints.specs.declared.inverses.InverseAttribute.{InverseAttribute}
use Rattle.schema_constraints.specs.RuleViews.{inverse_seen, IsNumberedInverse}
use Rattle.schema_constraints.specs.RuleViews.{AreNumbered}
use Rattle.schema_constraints.specs.declared.tables.RuleTables.{RuleTables}
use Rattle.population_inverses.specs.Extents.{AllHeld, inverse_value_by}

list-set : (a b : List ℕ) → IsProp (a ≡ b)
list-set a b = hlevel (props, ℕ_set)

-- what stands at one place of two lists that belong together
zipped-at : {A B : Type 0} (R : A → B → Type 0) (xs : List A) (ys : List B) → AllZip R xs ys → (n : ℕ) (x : A)
    → slice_get xs n ≡ Some x → (y : B) × (slice_get ys n ≡ Some y) × R x y
zipped-at R [] [] h n x e = absurd (cc)
zipped-at R [] (y ∷ ys) h n x e = absurd h
zipped-at R (x ∷ xs) [] h n z e = absurd h
zipped-at R (x ∷ xs) (y ∷ ys) h zero z e = let same : x ≡ z = cc in (y, refl, subst (λ w. R w y) same h.0)
zipped-at R (x ∷ xs) (y ∷ ys) h (suc n) z e = zipped-at R xs ys h.1 n z e

numbered-at : {A : Type 0} (P : A → Type 0) (xs : List A) → Every P xs → (n : ℕ) (x : A) → slice_get xs n ≡ Some x → P x
numbered-at P [] h n x e = absurd (cc)
numbered-at P (y ∷ xs) h zero x e = let same : y ≡ x = cc in subst P same h.0
numbered-at P (y ∷ xs) h (suc n) x e = numbered-at P xs h.1 n x e

module _ (s : Schema) (is : List Instance) (i : InverseAttribute) (numbered : IsNumberedInverse s i) (y : ℕ)
    (row : List ℕ) (types : map (name_at s) row ≡ types_at is y) (numbers : Every (λ j. HasNumber s (name_at s j) j) row)
  where
    declared : is_listed (name_at s i.entity) (types_at is y) ≡ has row i.entity
    declared =
        ap (is_listed (name_at s i.entity)) (sym types)
        ∙ among-is s (name_at s i.entity) i.entity numbered.entity row numbers

    pub no-value : has row i.entity ≡ false → [] ≡ inverse_value is (inverse_seen s i) y
    no-value e = ap (λ b. cond b (flat_map (held (inverse_seen s i) y) is) []) (sym (declared ∙ e))

    pub value-is : has row i.entity ≡ true → (l : List ℕ) → l ≡ flat_map (held (inverse_seen s i) y) is
        → l ≡ inverse_value is (inverse_seen s i) y
    value-is e l h = h ∙ ap (λ b. cond b (flat_map (held (inverse_seen s i) y) is) []) (sym (declared ∙ e))

-- the value of the inverse attribute of a number
module _ (s : Schema) (is : List Instance) (t : RuleTables) (rows : List (List Reference)) (numbered : ∥ AreNumbered s t ∥₁)
    (all : ∥ AllHeld s is t.inverses.items rows ∥₁) (n y : ℕ) (i : InverseAttribute)
    (at : slice_get t.inverses.items n ≡ Some i) (row : List ℕ) (types : map (name_at s) row ≡ types_at is y)
    (numbers : Every (λ j. HasNumber s (name_at s j) j) row) where
  known : AreNumbered s t → IsNumberedInverse s i
  known h = numbered-at _ t.inverses.items h.inverses n i at

  pub none-by : has row i.entity ≡ false → [] ≡ inverse_value_by s (slice_get t.inverses.items n) is y
  none-by e =
      ∥∥₁_elim numbered (list-set _ _) (λ h. no-value s is i (known h) y row types numbers e)
      ∙ ap (λ o. inverse_value_by s o is y) (sym at)

  pub value-by : has row i.entity ≡ true → (r : List Reference) → slice_get rows n ≡ Some r → (l : List ℕ)
      → l ≡ referrers_of y r → l ≡ inverse_value_by s (slice_get t.inverses.items n) is y
  value-by e r there l says =
      ∥∥₁_elim numbered (list-set _ _) (λ h. ∥∥₁_elim all (list-set _ _) (λ a.
      value-is s is i (known h) y row types numbers e l (says ∙ gathers a)))
      ∙ ap (λ o. inverse_value_by s o is y) (sym at)
    where
      gathers : AllHeld s is t.inverses.items rows → referrers_of y r ≡ flat_map (held (inverse_seen s i) y) is
      gathers a =
          let (q, here, h) = zipped-at _ t.inverses.items rows a n i at in
          ap (referrers_of y) (let same : r ≡ q = cc (there, here) in same) ∙ h y

  pub there-is : length rows ≤ n → ⊥
  there-is far = ∥∥₁_elim all (λ a b. absurd a) (λ a.
      let long = AllZip-long _ t.inverses.items rows a in
      let lt = within t.inverses.items n i at in
      absurd (omega (arith, far, long, lt)))
    where
      within : {A : Type 0} (xs : List A) (n : ℕ) (x : A) → slice_get xs n ≡ Some x → n < length xs
      within [] n x e = absurd (cc)
      within (z ∷ xs) zero x e = omega arith
      within (z ∷ xs) (suc n) x e = let rest = within xs n x e in omega arith
