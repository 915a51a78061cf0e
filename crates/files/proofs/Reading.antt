-- A source that is read.
use Rattle.std.specs.Prelude.{◌≡◌, ℕ, Bool, false, Option, IfSome, ◌⊎◌}

-- while a source is read: it isn't one each read of which fails, or no byte has come
abbrev pub HasCome : ℕ → Option Bool → Type 0
HasCome n told = IfSome told (λ each. (each ≡ false) ⊎ (n ≡ 0))
