-- Numbers of instances of their own, one by one.
use Rattle.std.proofs.Common.{◌≡◌, ◌<◌, ◌+◌, ℕ, suc, Bool, true, false, cond, List, [], ◌∷◌, ◌++◌, Some, sym, ◌∙◌, ap, inl, inr, length, length-append, slice_get, arith}
use Rattle.std.specs.Prelude.{slice_index}
use Rattle.std.proofs.lemmas.Bool.{cases_eq}
use Rattle.std.proofs.lemmas.List.{get_or_append_left, get_or_push}
use Rattle.std.proofs.lemmas.Option.{get_or_from_slice_get}
use Rattle.value_equality.specs.Rows.{Row, names}
use Rattle.certificate_checks.specs.steps.ComputedSplits.{AreOwn, own_at}

module _ (P : List Row) (pinned : ℕ → Bool) where
  -- the number of the instance of a name
  pub pinned_number : (i name : ℕ) → slice_get (names P) i ≡ Some name → pinned name ≡ true → i + 1 ≡ own_at P pinned i
  pinned_number i name at e =
      let is : pinned (slice_index (names P) i) ≡ true = ap pinned (get_or_from_slice_get (names P) i name 0 at) ∙ e in
      let more : i + 1 ≡ suc i = omega arith in
      more ∙ sym (ap (λ b. cond b (suc i) 0) is)

  pub free_number : (i name : ℕ) → slice_get (names P) i ≡ Some name → pinned name ≡ false → 0 ≡ own_at P pinned i
  free_number i name at e =
      let is : pinned (slice_index (names P) i) ≡ false = ap pinned (get_or_from_slice_get (names P) i name 0 at) ∙ e in
      sym (ap (λ b. cond b (suc i) 0) is)

  pub own_none : (own : List ℕ) → own ≡ [] → AreOwn P pinned own 0
  own_none own e = record { each = ap length e; number = λ i l. absurd (omega (arith, l)) }

  -- one more
  pub own_more : (own new : List ℕ) (n number : ℕ) → AreOwn P pinned own n → number ≡ own_at P pinned n
      → new ≡ own ++ number ∷ [] → AreOwn P pinned new (n + 1)
  own_more own new n number h is new_is = record {
    each = (let long = length-append own (number ∷ []) in
        let same = ap length new_is in
        let old = h.each in omega (arith, long, same, old));
    number = λ i l. elim (cases_eq i n) [
      | inl same ↦ ap (λ xs. slice_index xs i) new_is ∙ get_or_push own number 0 i (h.each ∙ sym same) ∙ is
          ∙ ap (own_at P pinned) (sym same)
      | inr other ↦ (let less : i < n = omega (arith, l, other) in
          let old = h.each in
          ap (λ xs. slice_index xs i) new_is ∙ get_or_append_left own (number ∷ []) 0 i (omega (arith, less, old))
          ∙ h.number i less)
    ];
  }
