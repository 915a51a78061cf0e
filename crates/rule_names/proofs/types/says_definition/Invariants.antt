use Rattle.std.proofs.Common.{◌≡◌, Bool, drop}
use Rattle.std.specs.Prelude.{IsTrue, ◌↔◌}
use Rattle.express_syntax.specs.Schemas.{named}
use Rattle.schema_semantics.specs.Names.{Name, IsOrLeads, Renames}
use Rattle.schema_names.specs.Numbers.{HasNumber}
use Rattle.schema_names.specs.Schemas.{the_schema}
use Rattle.express_logic.specs.Views.{text_of}
use Rattle.rule_names.specs.steps.Naming.{says_one}
use Rattle.rule_names.proofs.types.says_definition.Given as goal

-- what is left decides
abbrev pub invariant-loop-other : goal.invariant-loop-other
invariant-loop-other l =
    (m : Name) → HasNumber (the_schema l.names) m l.number → (defined : Name → Name → Bool)
    → ((n : Name) → IsTrue (defined m n) ↔ IsOrLeads (Renames (the_schema l.names)) (named m) (named n))
    → says_one (the_schema l.names) defined (text_of l.text) m (drop l.other (the_schema l.names).declarations)
    ≡ says_one (the_schema l.names) defined (text_of l.text) m (the_schema l.names).declarations
