-- The line of a schema's fault.
use Rattle.std.specs.Prelude.{ℕ, List, [], ◌∷◌, ◌++◌, codes, decimal}
use Rattle.std.specs.String.{string_bytes}
use Rattle.express_syntax.specs.declared.fault.LeftOut.{LeftOut}
use Rattle.express_syntax.specs.declared.fault.LeftOut.TheVariants as parts
use Rattle.express_syntax.specs.declared.fault.FaultKind.{FaultKind}
use Rattle.express_syntax.specs.declared.fault.FaultKind.TheVariants as kinds
use Rattle.express_syntax.specs.declared.fault.NameFault.{NameFault}
use Rattle.express_syntax.specs.declared.fault.NameFault.TheVariants as names
use Rattle.express_syntax.specs.declared.fault.SchemaFault.{SchemaFault}
use Rattle.express_syntax.specs.declared.fault.SchemaFault.TheVariants as faults

abbrev pub left_out_schema_text : LeftOut → List ℕ
left_out_schema_text parts.Use = codes "S8 LeftOut Use"
left_out_schema_text parts.Reference = codes "S8 LeftOut Reference"
left_out_schema_text parts.Renamed = codes "S8 LeftOut Renamed"
left_out_schema_text parts.Extensible = codes "S8 LeftOut Extensible"
left_out_schema_text parts.BasedOn = codes "S8 LeftOut BasedOn"
left_out_schema_text parts.GenericEntity = codes "S8 LeftOut GenericEntity"
left_out_schema_text parts.SecondSchema = codes "S8 LeftOut SecondSchema"
left_out_schema_text parts.TooLarge = codes "S8 LeftOut TooLarge"

abbrev pub fault_kind_text : FaultKind → List ℕ
fault_kind_text kinds.BadToken = codes "S1 BadToken"
fault_kind_text kinds.Expected = codes "S2 Expected"
fault_kind_text (kinds.LeftOut part) = left_out_schema_text part
fault_kind_text kinds.TooDeep = codes "S9 TooDeep"

abbrev pub name_fault_text : NameFault → List ℕ
name_fault_text names.UnknownName = codes "S3 UnknownName"
name_fault_text names.DuplicateName = codes "S4 DuplicateName"
name_fault_text names.SupertypeCycle = codes "S5 SupertypeCycle"
name_fault_text names.TypeCycle = codes "S6 TypeCycle"

-- the byte offset of a text fault, or the name that is at fault
abbrev pub schema_fault_text : SchemaFault → List ℕ
schema_fault_text (faults.Text kind place) =
    codes "schema: " ++ fault_kind_text kind ++ (codes " at byte " ++ decimal place)
schema_fault_text (faults.Name kind name) =
    codes "schema: " ++ name_fault_text kind ++ codes " " ++ string_bytes name
schema_fault_text faults.Memory = codes "memory"

-- the text of a fault and a line end
abbrev pub schema_line : SchemaFault → List ℕ
schema_line fault = schema_fault_text fault ++ 10 ∷ []
