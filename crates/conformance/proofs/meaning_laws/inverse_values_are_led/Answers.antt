use Rattle.conformance.proofs.Referring.{inverse_values_are_led}
use Rattle.conformance.proofs.meaning_laws.inverse_values_are_led.Goals as goal

pub returns : goal.returns
returns c = inverse_values_are_led
