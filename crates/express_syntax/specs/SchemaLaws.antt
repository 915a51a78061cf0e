-- Laws about the definitions: the schema that a text reads as, and its first fault.
use Rattle.std.specs.Prelude.{◌≡◌, ℕ, List, ◌⊎◌}
use Rattle.express_syntax.specs.declared.fault.FaultKind.{FaultKind}
use Rattle.express_syntax.specs.Schemas.{Schema}
use Rattle.express_syntax.specs.Texts.{ReadsAs, IsFirstFault}

-- A text reads as at most one schema.
abbrev pub ReadsOnce : Type 0
ReadsOnce = (text : List ℕ) (x y : Schema) → ReadsAs text x → ReadsAs text y → x ≡ y

-- A text that reads as a schema has no fault.
abbrev pub ReadsWithoutFault : Type 0
ReadsWithoutFault = (text : List ℕ) (x : Schema) (kind : FaultKind) (place : ℕ) → ReadsAs text x
    → IsFirstFault text kind place → ⊥

-- A text has at most one first fault.
abbrev pub FaultsOnce : Type 0
FaultsOnce = (text : List ℕ) (kind other : FaultKind) (place other_place : ℕ) → IsFirstFault text kind place
    → IsFirstFault text other other_place → (kind ≡ other) × (place ≡ other_place)

-- A text reads as a schema, or has a first fault.
abbrev pub ReadsOrFails : Type 0
ReadsOrFails = (text : List ℕ) → ((x : Schema) × ReadsAs text x)
    ⊎ ((kind : FaultKind) × (place : ℕ) × IsFirstFault text kind place)
