-- What the schema of a setting says of attributes, by the inverse attributes of the setting.
use Rattle.std.proofs.Common.{subst}
use Rattle.conformance.specs.Attributes.{AreAttributes}
use Rattle.rule_settings.specs.declared.setting.Setting.{Setting}
use Rattle.rule_settings.specs.Settings.{Meant, schema_in, inverses_in}

module _ (S : Setting) (m : Meant S) where
  pub attributes_are : AreAttributes (schema_in S) (inverses_in S) m.said.attributes
  attributes_are = subst (λ inverses. AreAttributes (schema_in S) inverses m.said.attributes) m.inverses_are
      m.said.are_attributes
