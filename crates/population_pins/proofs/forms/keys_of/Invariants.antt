use Rattle.std.proofs.Common.{◌≡◌, ◌++◌, drop}
use Rattle.population_pins.specs.steps.Forms.{keys_by}
use Rattle.population_pins.proofs.forms.keys_of.Given as goal

abbrev pub invariant-loop-rule : goal.invariant-loop-rule
invariant-loop-rule l = l.keys.items ++ keys_by (drop l.rule-index l.uniques) l.form ≡ keys_by l.uniques l.form
