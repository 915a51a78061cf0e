-- The fault that is returned for a fault of a schema's text.
use Rattle.express_syntax.specs.declared.fault.SyntaxFault.{SyntaxFault}
use Rattle.express_syntax.specs.declared.fault.SyntaxFault.TheVariants as syntax
use Rattle.express_syntax.specs.declared.fault.SchemaFault.{SchemaFault}
use Rattle.express_syntax.specs.declared.fault.SchemaFault.TheVariants as faults

abbrev pub schema_fault : SyntaxFault → SchemaFault
schema_fault (syntax.Fault kind place) = faults.Text kind place
schema_fault syntax.Memory = faults.Memory
