use Rattle.schema_underlying_types.specs.BaseViews.{name_at}
use Rattle.rule_settings.specs.Settings.{schema_in, inverses_in}
use Rattle.rule_settings.proofs.Meaning.{attributes_are}
use Rattle.rule_settings.proofs.setting.Setting.formula.Goals as goal

pub returns-clause-meant : goal.returns-clause-meant
returns-clause-meant c m h =
    let S = c.args.self.now in
    c.formula_at.ensures.meant (schema_in S) c.requires.setting.formulas (inverses_in S) m.said.attributes (attributes_are S m)
    (name_at (schema_in S) c.args.derivation.entity) h
