-- Cached values of derived attributes.
use Rattle.std.specs.Prelude.{◌≡◌, Some}
use Rattle.express_syntax.specs.Profile.{Every}
use Rattle.schema_names.specs.Numbers.{HasNumber}
use Rattle.schema_underlying_types.specs.BaseViews.{name_at}
use Rattle.express_logic.specs.Data.{Datum}
use Rattle.express_logic.specs.Views.{datum_of}
use Rattle.conformance.specs.Attributes.{Formula}
use Rattle.rule_values.specs.Parts.{holding}
use Rattle.rule_settings.specs.declared.setting.Setting.{Setting}
use Rattle.rule_settings.specs.Settings.{Meant, schema_in, derivation_in}
use Rattle.rule_evaluation.specs.declared.derived_values.Wanted.{Wanted}
use Rattle.rule_evaluation.specs.declared.derived_values.KeptValue.{KeptValue}
use Rattle.rule_evaluation.specs.declared.derived_values.KeptValues.{KeptValues}
use Rattle.rule_evaluation.specs.steps.Worths.{formula_worth}

module _ (S : Setting) (m : Meant S) where
  -- d is the value of a derived attribute of an instance
  abbrev pub IsWorth : Wanted → Datum → Type 0
  IsWorth w d = HasNumber (schema_in S) (name_at (schema_in S) w.derivation.entity) w.derivation.entity
      → (f : Formula) → m.said.attributes.formula (derivation_in S w.derivation) ≡ Some f → d ≡ formula_worth S m w.instance f

  abbrev pub IsRight : KeptValue → Type 0
  IsRight x = IsWorth x.wanted (datum_of holding x.value)

  abbrev pub AreRight : KeptValues → Type 0
  AreRight k = Every IsRight k.values.items
