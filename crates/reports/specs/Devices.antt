-- When a returned fault is that of a device.
use Rattle.std.specs.Prelude.{◌≡◌, Bool, true, false, Result, Err}
use Rattle.files.specs.declared.fault.Role.{Role}
use Rattle.files.specs.declared.fault.Role.TheVariants as roles
use Rattle.reports.specs.declared.fault.Fault.{Fault}
use Rattle.reports.specs.declared.fault.Fault.TheVariants.{Schema, Unchecked, Device, Memory}

-- the roles are equal
abbrev pub is_role : Role → Role → Bool
is_role roles.Schema roles.Schema = true
is_role roles.File roles.File = true
is_role roles.Output roles.Output = true
is_role roles.Certificate roles.Certificate = true
is_role role other = false

-- the result is the fault of the device of this role
abbrev pub is_device : {T : Type 0} → Role → Result T Fault → Bool
is_device role (Err (Device other written)) = is_role role other
is_device role r = false

-- If each read of the schema fails (`true`), the result is the fault of the schema's device. If none does, it
-- isn't. Memory may run out first.
abbrev pub SchemaFailsAs : {T : Type 0} → Result T Fault → Bool → Type 0
SchemaFailsAs (Err Memory) each = Unit {0}
SchemaFailsAs r each = is_device roles.Schema r ≡ each

-- If each read of the file fails (`true`), the result is the fault of the file's device. If none does, it isn't.
-- Memory may run out first. A fault of the schema, or a strict choice, comes before the file is read.
abbrev pub FileFailsAs : {T : Type 0} → Result T Fault → Bool → Type 0
FileFailsAs (Err (Schema fault)) each = Unit {0}
FileFailsAs (Err (Unchecked parts)) each = Unit {0}
FileFailsAs (Err (Device roles.Schema written)) each = Unit {0}
FileFailsAs (Err Memory) each = Unit {0}
FileFailsAs r each = is_device roles.File r ≡ each
