-- Which of several devices fails.
use Rattle.std.proofs.Common.{inl, inr}
use Rattle.std.specs.Prelude.{◌⊎◌}

pub of_four : (A B C D : Type 0) → A ⊎ B ⊎ C ⊎ D → A ⊎ B ⊎ C ⊎ D ⊎ ⊥
of_four A B C D (inl a) = inl a
of_four A B C D (inr (inl b)) = inr (inl b)
of_four A B C D (inr (inr (inl c))) = inr (inr (inl c))
of_four A B C D (inr (inr (inr d))) = inr (inr (inr (inl d)))

pub of_six : (A B C D E F : Type 0) → A ⊎ B ⊎ C ⊎ D ⊎ E ⊎ F → A ⊎ B ⊎ C ⊎ D ⊎ E ⊎ F ⊎ ⊥
of_six A B C D E F (inl a) = inl a
of_six A B C D E F (inr h) = inr (by h)
  where
    by : B ⊎ C ⊎ D ⊎ E ⊎ F → B ⊎ C ⊎ D ⊎ E ⊎ F ⊎ ⊥
    by (inl b) = inl b
    by (inr more) = inr (of_four C D E F more)
