-- What holds of more and more, step by step.
use Rattle.std.specs.Prelude.{◌⊎◌, ◌↔◌}
use Rattle.std.proofs.Common.{inl, inr}

module _ {X : Type 0} where
  -- it goes on with that of which P holds
  abbrev pub Grows : (X → Type 0) → (X → Type 0) → (X → Type 0) → Type 0
  Grows P old new = (x : X) → new x ↔ (old x ⊎ P x)

  -- What is new or left is what is old, and what `P` holds of.
  abbrev pub GrowsUpTo : (X → Type 0) → (X → Type 0) → (X → Type 0) → (X → Type 0) → Type 0
  GrowsUpTo P left old new = (x : X) → (new x ⊎ left x) ↔ (old x ⊎ P x)

  pub nothing : (P old : X → Type 0) → ((x : X) → P x → ⊥) → Grows P old old
  nothing P old none x = ((λ t. inl t), (λ t. elim t [ inl k ↦ k | inr p ↦ absurd (none x p) ]))

  -- P and Q hold of the same
  pub alike : (P Q old new : X → Type 0) → ((x : X) → P x ↔ Q x) → Grows P old new → Grows Q old new
  alike P Q old new same h x = (
    (λ t. elim ((h x).0 t) [ inl k ↦ inl k | inr p ↦ inr ((same x).0 p) ]),
    (λ t. (h x).1 (elim t [ inl k ↦ inl k | inr q ↦ inr ((same x).1 q) ])),
  )

  pub both : (P Q old mid new : X → Type 0) → Grows P old mid → Grows Q mid new → Grows (λ x. P x ⊎ Q x) old new
  both P Q old mid new h k x = (
    (λ t. elim ((k x).0 t) [
      | inl m ↦ elim ((h x).0 m) [ inl o ↦ inl o | inr p ↦ inr (inl p) ]
      | inr q ↦ inr (inr q)
    ]),
    (λ t. elim t [
      | inl o ↦ (k x).1 (inl ((h x).1 (inl o)))
      | inr u ↦ elim u [
        | inl p ↦ (k x).1 (inl ((h x).1 (inr p)))
        | inr q ↦ (k x).1 (inr q)
      ]
    ]),
  )

  -- all is left at first
  pub starts : (P old : X → Type 0) → GrowsUpTo P P old old
  starts P old x = ((λ t. t), (λ t. t))

  -- some of what is left
  pub next : (P left here behind old mid new : X → Type 0) → GrowsUpTo P left old mid → Grows here mid new
      → ((x : X) → left x ↔ (here x ⊎ behind x)) → GrowsUpTo P behind old new
  next P left here behind old mid new h k cut x = (
    (λ t. elim t [
      | inl n ↦ elim ((k x).0 n) [
        | inl m ↦ (h x).0 (inl m)
        | inr z ↦ (h x).0 (inr ((cut x).1 (inl z)))
      ]
      | inr b ↦ (h x).0 (inr ((cut x).1 (inr b)))
    ]),
    (λ t. elim ((h x).1 t) [
      | inl m ↦ inl ((k x).1 (inl m))
      | inr l ↦ elim ((cut x).0 l) [ inl z ↦ inl ((k x).1 (inr z)) | inr b ↦ inr b ]
    ]),
  )

  -- Some of what is left is passed over, because it isn't new.
  pub passes : (P left behind old new : X → Type 0) → GrowsUpTo P left old new → ((x : X) → left x ↔ behind x)
      → GrowsUpTo P behind old new
  passes P left behind old new h same x = (
    (λ t. (h x).0 (elim t [ inl n ↦ inl n | inr b ↦ inr ((same x).1 b) ])),
    (λ t. elim ((h x).1 t) [ inl n ↦ inl n | inr l ↦ inr ((same x).0 l) ]),
  )

  -- nothing is left
  pub ends : (P left old new : X → Type 0) → GrowsUpTo P left old new → ((x : X) → left x → ⊥) → Grows P old new
  ends P left old new h none x = (
    (λ t. (h x).0 (inl t)),
    (λ t. elim ((h x).1 t) [ inl n ↦ n | inr l ↦ absurd (none x l) ]),
  )
