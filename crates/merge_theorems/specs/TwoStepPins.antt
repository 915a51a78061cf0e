-- Finding pins in two steps, with the table of the first step.
use Rattle.std.specs.Prelude.{ℕ, Bool, IsTrue, List, ◌⊎◌, ◌↔◌}
use Rattle.value_equality.specs.Rows.{Row, IsPopulation}
use Rattle.value_equality.specs.Tables.{Table, shares, IsValid}
use Rattle.express_syntax.specs.Schemas.{Schema}
use Rattle.schema_semantics.specs.Names.{OneOf}
use Rattle.conformance.specs.Choices.{MergeOptions}
use Rattle.conformance.specs.Populations.{Instance}
use Rattle.conformance.specs.Rules.{Rules, AreRules}
use Rattle.conformance.specs.Pins.{StandsBesideItsClass, IsWeaklyPinned}
use Rattle.conformance.specs.SchemaMeanings.{Said}
use Rattle.merge_theorems.specs.FilePins.{ArePins}

-- Let tests be true exactly of the weakly pinned instances, and of these together with each element
-- of a LIST or ARRAY OF UNIQUE that has another instance of its class beside it, by a table that is
-- valid under the weak pins. Then the second test is that of the pins.
abbrev pub PinsAreFound : Type 0
PinsAreFound = (s : Schema) (said : Said s) (chosen : MergeOptions) (is : List Instance) (P : List Row) (rules : Rules)
    (weak gentle : ℕ → Bool) (t : Table) → AreRules s said.domain rules → IsPopulation P
    → ((y : ℕ) → IsTrue (weak y) ↔ IsWeaklyPinned s said.domain said.entities rules chosen is y)
    → IsValid P weak t
    → ((y : ℕ) → IsTrue (gentle y)
    ↔ (IsTrue (weak y) ⊎ OneOf (StandsBesideItsClass s said.domain said.entities (shares t t.rounds) y) is))
    → ArePins s said chosen is P gentle
