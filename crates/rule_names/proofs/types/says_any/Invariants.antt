use Rattle.std.proofs.Common.{◌≡◌, false, take}
use Rattle.std.specs.List.{list_any}
use Rattle.express_logic.specs.Views.{text_of}
use Rattle.schema_names.specs.Schemas.{the_schema}
use Rattle.rule_names.proofs.Saying.{says_number}
use Rattle.rule_names.proofs.types.says_any.Given as goal

abbrev pub invariant-loop-number : goal.invariant-loop-number
invariant-loop-number l =
    list_any (says_number (the_schema l.names) (text_of l.text) l.types) (take l.number-index l.types) ≡ false
