-- The fault of a call for each fault below it.
use Rattle.std.specs.Prelude.{◌^◌}
use Rattle.step_structures.specs.declared.fault.FaultKind.TheVariants.{LeftOut}
use Rattle.step_structures.specs.declared.fault.LeftOut.TheVariants.{TooLarge}
use Rattle.express_syntax.specs.declared.fault.FaultKind.TheVariants as schema_kinds
use Rattle.express_syntax.specs.declared.fault.LeftOut.TheVariants as schema_left_out
use Rattle.express_syntax.specs.declared.fault.SchemaFault.{SchemaFault}
use Rattle.express_syntax.specs.declared.fault.SchemaFault.TheVariants as schemas
use Rattle.files.specs.declared.read.ReadFault.{ReadFault}
use Rattle.files.specs.declared.read.ReadFault.TheVariants as reads
use Rattle.files.specs.declared.fault.Role.{Role}
use Rattle.files.specs.declared.fault.Role.TheVariants as roles
use Rattle.files.specs.declared.fault.FileFault.{FileFault}
use Rattle.files.specs.declared.fault.FileFault.TheVariants as files
use Rattle.reports.specs.declared.fault.Fault.{Fault}
use Rattle.reports.specs.declared.fault.Fault.TheVariants.{Schema, Text, Device, Memory}

abbrev pub of_schema : SchemaFault → Fault
of_schema schemas.Memory = Memory
of_schema fault = Schema fault

abbrev pub of_file : FileFault → Fault
of_file (files.Text role kind place) = Text role kind place
of_file (files.Device role written) = Device role written
of_file files.Memory = Memory

-- a file in this role is larger than 2^40 bytes
abbrev pub too_large : Role → Fault
too_large roles.Schema = Schema (schemas.Text (schema_kinds.LeftOut schema_left_out.TooLarge) (2 ^ 40))
too_large role = Text role (LeftOut TooLarge) (2 ^ 40)

-- a source in this role isn't read to its end
abbrev pub unread : Role → ReadFault → Fault
unread role reads.Device = Device role 0
unread role reads.TooLarge = too_large role
unread role reads.Memory = Memory
