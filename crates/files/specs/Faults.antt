-- The fault of a file for each fault below it.
use Rattle.std.specs.Prelude.{◌^◌}
use Rattle.step_structures.specs.declared.fault.FaultKind.TheVariants.{LeftOut}
use Rattle.step_structures.specs.declared.fault.LeftOut.TheVariants.{TooLarge}
use Rattle.step_structures.specs.declared.fault.TextFault.{TextFault}
use Rattle.step_structures.specs.declared.fault.TextFault.TheVariants as texts
use Rattle.devices.specs.declared.device.WriteFault.{WriteFault}
use Rattle.files.specs.declared.read.ReadFault.{ReadFault}
use Rattle.files.specs.declared.read.ReadFault.TheVariants as reads
use Rattle.files.specs.declared.fault.Role.{Role}
use Rattle.files.specs.declared.fault.FileFault.{FileFault}
use Rattle.files.specs.declared.fault.FileFault.TheVariants.{Text, Device, Memory}

-- a source in this role isn't read to its end
abbrev pub read_fault : Role → ReadFault → FileFault
read_fault role reads.Device = Device role 0
read_fault role reads.TooLarge = Text role (LeftOut TooLarge) (2 ^ 40)
read_fault role reads.Memory = Memory

abbrev pub text_fault : Role → TextFault → FileFault
text_fault role texts.Memory = Memory
text_fault role (texts.Fault kind place) = Text role kind place

-- a file in this role isn't written
abbrev pub write_fault : Role → WriteFault → FileFault
write_fault role fault = Device role fault.written
