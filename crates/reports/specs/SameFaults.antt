-- When two faults of schemas are the same.
use Rattle.std.specs.Prelude.{◌≡◌}
use Rattle.std.specs.String.{string_bytes}
use Rattle.express_syntax.specs.declared.fault.SchemaFault.{SchemaFault}
use Rattle.express_syntax.specs.declared.fault.SchemaFault.TheVariants.{Name}

-- The faults of a schema are equal. Faults of a name are compared by its bytes, not by the string that holds them.
abbrev pub SameFault : SchemaFault → SchemaFault → Type 0
SameFault (Name kind name) (Name other again) = (kind ≡ other) × (string_bytes name ≡ string_bytes again)
SameFault f g = f ≡ g
