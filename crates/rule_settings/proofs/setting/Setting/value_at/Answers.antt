use Rattle.std.proofs.Common.{◌∙◌, ap}
use Rattle.conformance.specs.Populations.{value_of}
use Rattle.rule_settings.specs.Settings.{schema_in, population_in}
use Rattle.rule_settings.proofs.Places.{one_place}
use Rattle.rule_settings.proofs.setting.Setting.value_at.Goals as goal

pub returns : goal.returns
returns c m y row =
    let S = c.args.self.now in
    let place = c.requires.place in
    c.declared_value.ensures m y
    (c.value_at.ensures y c.args.place row place c.requires.position
    ∙ ap (value_of (population_in S) y) (one_place (schema_in S) c.args.place place))
