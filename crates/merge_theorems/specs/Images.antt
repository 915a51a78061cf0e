-- Images of typed populations, whose rows are mapped.
use Rattle.std.specs.Prelude.{ℕ, Bool, List}
use Rattle.value_equality.specs.Rows.{Row, IsPopulation}
use Rattle.value_equality.specs.Images.{IsImage}
use Rattle.conformance.specs.PlainRows.{AreRowsOf}
use Rattle.express_syntax.specs.Schemas.{Schema}
use Rattle.express_syntax.specs.Profile.{Every}
use Rattle.conformance.specs.Populations.{Instance}
use Rattle.merge_theorems.specs.Layout.{IsLaidOut}

-- P and Q are the rows of instances that are laid out. Q is an image of P by h, which maps no other
-- instance to the image of a pinned one.
pub record MapsRows (s : Schema) (is js : List Instance) (P Q : List Row) (h : ℕ → ℕ) (pinned : ℕ → Bool)
    : Type 0 where
  pub laid_out : Every (IsLaidOut s) is
  pub image_laid_out : Every (IsLaidOut s) js
  pub rows : AreRowsOf s is P
  pub image_rows : AreRowsOf s js Q
  pub population : IsPopulation P
  pub image_population : IsPopulation Q
  pub image : IsImage P Q h pinned
