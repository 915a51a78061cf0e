-- Where the attributes of a rule stand, one by one.
use Rattle.std.specs.Prelude.{◌≡◌, ℕ, ◌+◌, ◌<◌, ◌≤◌, List, [], ◌∷◌, ◌++◌, length, Option, Some, None}
use Rattle.std.proofs.Common.{refl, sym, ◌∙◌, ap, get_or, drop}
use Rattle.std.proofs.lemmas.List.{append-nil}
use Rattle.population_rows.specs.declared.form.SlotForm.{SlotForm}
use Rattle.typed_populations.specs.ValueOrder.{position_among}
use Rattle.population_uniqueness.specs.steps.Positions.{with_position, positions_of}
use Rattle.population_uniqueness.proofs.Behind.{drop_at, drop_all, behind, in_front, behind_more}

module _ (xs : List SlotForm) (qs : List ℕ) (i : ℕ) where
  with_in_front : (j : ℕ) (o : Option (List ℕ)) → with_position (Some j) o ≡ in_front j o
  with_in_front j None = refl
  with_in_front j (Some js) = refl

  left : (d : ℕ) → i < length qs → positions_of xs (drop i qs)
      ≡ with_position (position_among xs (get_or qs i d)) (positions_of xs (drop (i + 1) qs))
  left d lt = ap (positions_of xs) (drop_at qs i d lt)

  -- where the next stands too
  pub position_more : (d : ℕ) (is : List ℕ) (j : ℕ) → i < length qs → Some j ≡ position_among xs (get_or qs i d)
      → behind is (positions_of xs (drop i qs)) ≡ positions_of xs qs
      → behind (is ++ j ∷ []) (positions_of xs (drop (i + 1) qs)) ≡ positions_of xs qs
  position_more d is j lt e h =
      behind_more is j (positions_of xs (drop (i + 1) qs))
      ∙ ap (behind is) (sym (left d lt ∙ ap (λ o. with_position o (positions_of xs (drop (i + 1) qs))) (sym e)
      ∙ with_in_front j (positions_of xs (drop (i + 1) qs)))) ∙ h

  pub position_missing : (d : ℕ) (is : List ℕ) → i < length qs → None ≡ position_among xs (get_or qs i d)
      → behind is (positions_of xs (drop i qs)) ≡ positions_of xs qs → None ≡ positions_of xs qs
  position_missing d is lt e h =
      ap (behind is) (sym (left d lt ∙ ap (λ o. with_position o (positions_of xs (drop (i + 1) qs))) (sym e))) ∙ h

  pub positions_all : (is : List ℕ) → length qs ≤ i → behind is (positions_of xs (drop i qs)) ≡ positions_of xs qs
      → Some is ≡ positions_of xs qs
  positions_all is le h =
      ap Some (sym (append-nil is)) ∙ ap (λ ps. behind is (positions_of xs ps)) (sym (drop_all qs i le)) ∙ h
