-- The values of derived attributes by their ranks.
use Rattle.std.proofs.Common.{◌≡◌, ◌<◌, ◌≤◌, ℕ, zero, suc, ◌==◌, Bool, true, false, [], refl, ap, sym, ◌∙◌, arith}
use Rattle.std.specs.Prelude.{if◌then◌else◌, Option, Some, None}
use Rattle.std.proofs.lemmas.Bool.Decides.{nat_tests}
use Rattle.express_syntax.specs.Trees.{Tree}
use Rattle.express_logic.specs.Data.{Datum, indeterminate, instance}
use Rattle.conformance.specs.Attributes.{Formula}
use Rattle.conformance.specs.Expressions.{means}
use Rattle.conformance.specs.Meanings.{by_rank}
use Rattle.schema_semantics.specs.Attributes.{Derivation}
use Rattle.rule_settings.specs.declared.setting.Setting.{Setting}
use Rattle.rule_settings.specs.Settings.{Meant, below_rank, setting_by}

module _ (S : Setting) (m : Meant S) where
  abbrev gives : ℕ → ℕ → Tree → Datum
  gives n y x = means (setting_by S m (below_rank S m n)) [] (instance y) x

  abbrev step : ℕ → ℕ → Derivation → Option Formula → Datum
  step n y i o = by_rank n o (gives n y) (below_rank S m n y i)

  -- an attribute that is set aside
  pub below-none : (n y : ℕ) (i : Derivation) → m.said.attributes.formula i ≡ None → below_rank S m n y i ≡ indeterminate
  below-none zero y i e = refl
  below-none (suc n) y i e = ap (step n y i) e ∙ below-none n y i e

  other-rank : (r n : ℕ) → (r ≡ n → ⊥) → (r == n) ≡ false
  other-rank r n h = grind (arith, nat_tests, h)

  -- one of no lesser rank
  pub below-late : (n y : ℕ) (i : Derivation) (f : Formula) → m.said.attributes.formula i ≡ Some f → n ≤ f.rank → below_rank S m n y i ≡ indeterminate
  below-late zero y i f e l = refl
  below-late (suc n) y i f e l =
      ap (step n y i) e
      ∙ ap (λ b. if b then gives n y f.expression else below_rank S m n y i) (other-rank f.rank n (λ h. omega (arith, h, l)))
      ∙ below-late n y i f e (omega (arith, l))

  ranked : (n y : ℕ) (i : Derivation) (f : Formula) (b : Bool) → m.said.attributes.formula i ≡ Some f → (f.rank == n) ≡ b
      → below_rank S m (suc n) y i ≡ (if b then gives n y f.expression else below_rank S m n y i)
  ranked n y i f b e h = ap (step n y i) e ∙ ap (λ b. if b then gives n y f.expression else below_rank S m n y i) h

  here : (n y : ℕ) (i : Derivation) (f : Formula) → m.said.attributes.formula i ≡ Some f → (f.rank == n) ≡ true
      → below_rank S m (suc n) y i ≡ gives f.rank y f.expression
  here n y i f e h =
      let r : f.rank ≡ n = grind (arith, nat_tests, h) in
      ranked n y i f true e h ∙ ap (λ k. gives k y f.expression) (sym r)

  less : (r n : ℕ) → r < suc n → (r == n) ≡ false → r < n
  less r n l h = grind (arith, nat_tests, h, l)

  -- one of a lesser rank is what it means with those of lesser ranks still
  pub below-rank : (n y : ℕ) (i : Derivation) (f : Formula) → m.said.attributes.formula i ≡ Some f → f.rank < n
      → below_rank S m n y i ≡ means (setting_by S m (below_rank S m f.rank)) [] (instance y) f.expression
  below-rank zero y i f e l = absurd (omega (arith, l))
  below-rank (suc n) y i f e l =
      by (f.rank == n) refl (λ h. below-rank n y i f e (less f.rank n l h))
    where
      by : (b : Bool) → (f.rank == n) ≡ b
          → ((f.rank == n) ≡ false → below_rank S m n y i ≡ gives f.rank y f.expression)
          → below_rank S m (suc n) y i ≡ gives f.rank y f.expression
      by true h rest = here n y i f e h
      by false h rest = ranked n y i f false e h ∙ rest h
