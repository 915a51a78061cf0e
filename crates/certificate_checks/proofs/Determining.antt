-- Places of one kind have one number exactly where each has that of the place that its kind is.
use Rattle.std.proofs.Common.{◌≡◌, ◌<◌, ◌≤◌, ◌+◌, ℕ, List, length, sym, ap, ◌∙◌, arith, inl, inr}
use Rattle.std.specs.Prelude.{slice_index}
use Rattle.std.proofs.lemmas.Bool.{cases_eq}
use Rattle.row_signatures.specs.steps.Numbers.{ArePlaces}
use Rattle.certificate_checks.specs.steps.ComputedStarts.{AreFromKinds, Determine}

module _ (kinds numbers : List ℕ) where
  pub together : (n : ℕ) → AreFromKinds kinds numbers n → length kinds ≤ n → Determine kinds numbers
  together n all whole i j li lj same =
      sym (all i (omega (arith, li, whole))) ∙ ap (slice_index numbers) same ∙ all j (omega (arith, lj, whole))

  -- one place more
  pub more : (n : ℕ) → AreFromKinds kinds numbers n → slice_index numbers (slice_index kinds n) ≡ slice_index numbers n
      → AreFromKinds kinds numbers (n + 1)
  more n all next i lt = elim (cases_eq i n) [
    | inl last ↦ ap (λ k. slice_index numbers (slice_index kinds k)) last ∙ next ∙ ap (slice_index numbers) (sym last)
    | inr other ↦ all i (omega (arith, lt, other))
  ]

  -- so one place that has another number is enough
  pub looked_at : ArePlaces kinds → Determine kinds numbers → (i : ℕ) → i < length kinds
      → slice_index numbers (slice_index kinds i) ≡ slice_index numbers i
  looked_at places determine i lt = let at = places i lt in determine (slice_index kinds i) i at.0 lt at.1
