-- Writing at places, one after the other.
use Rattle.std.proofs.Common.{◌≡◌, ◌≢◌, ◌<◌, ℕ, ◌+◌, List, sym, ◌∙◌, ap, subst, inl, inr, length, arith, get_or-set_same, get_or-set_other, length-set}
use Rattle.std.specs.Prelude.{slice_index, slice_set}
use Rattle.std.proofs.lemmas.Bool.{cases_eq}
use Rattle.partitions.specs.Refinements.{IsAmongFirst}
use Rattle.partition_refinement.specs.steps.Working.{AreWritten}

-- one more place
pub written_more : (P : ℕ → ℕ → Type 0) (old new newer places : List ℕ) (i x v : ℕ) → i < length places
    → AreWritten P old new places i → x ≡ slice_index places i → x < length old → newer ≡ slice_set new x v → P x v
    → AreWritten P old newer places (i + 1)
written_more P old new newer places i x v l before x_is inside is holds =
    let each = before.each in
    let here_at : slice_index newer x ≡ v = ap (λ l. slice_index l x) is ∙ get_or-set_same new x v 0 (omega arith) in
    let other : (h : ℕ) → h ≢ x → slice_index newer h ≡ slice_index new h = λ h n.
    ap (λ l. slice_index l h) is ∙ get_or-set_other new x h v 0 n in
    record {
      each = ap length is ∙ length-set new x v ∙ each;
      there = λ h a. elim (cases_eq h x) [
        | inl same ↦
            let at : slice_index newer h ≡ v = ap (slice_index newer) same ∙ here_at in
            subst (P h) (sym at) (subst (λ k. P k v) (sym same) holds)
        | inr n ↦
            let k = a.1 in
            let earlier : IsAmongFirst places i h = elim (cases_eq a.0 i) [
              | inl last ↦ absurd (n (sym a.2 ∙ ap (slice_index places) last ∙ sym x_is))
              | inr o ↦ (a.0, omega arith, a.2)
            ] in
            subst (P h) (sym (other h n)) (before.there h earlier)
      ];
      elsewhere = λ h not.
          let n : h ≢ x = λ e. not (i, omega arith, sym x_is ∙ sym e) in
          other h n ∙ before.elsewhere h (λ a. let k = a.1 in not (a.0, omega arith, a.2));
    }
