-- The values of expressions and formulas, with those of derived attributes of lesser ranks.
use Rattle.std.specs.Prelude.{ℕ, []}
use Rattle.express_syntax.specs.Trees.{Tree}
use Rattle.express_logic.specs.Data.{Datum, instance}
use Rattle.conformance.specs.Attributes.{Formula}
use Rattle.conformance.specs.Expressions.{means}
use Rattle.rule_settings.specs.declared.setting.Setting.{Setting}
use Rattle.rule_settings.specs.Settings.{Meant, setting_by, below_rank}

module _ (S : Setting) (m : Meant S) where
  -- the value of an expression with me as SELF, with derived attributes of ranks below n
  abbrev pub worth_at : ℕ → Datum → Tree → Datum
  worth_at n me x = means (setting_by S m (below_rank S m n)) [] me x

  -- the value of a formula at an instance, with derived attributes of ranks below its own
  abbrev pub formula_worth : ℕ → Formula → Datum
  formula_worth y f = means (setting_by S m (below_rank S m f.rank)) [] (instance y) f.expression
