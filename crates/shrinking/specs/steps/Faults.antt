-- The fault of a smaller file that isn't written.
use Rattle.files.specs.declared.fault.Role.TheVariants.{Output}
use Rattle.files.specs.declared.fault.FileFault.{FileFault}
use Rattle.files.specs.declared.fault.FileFault.TheVariants as faults
use Rattle.merge_output.specs.declared.fault.RewriteFault.{RewriteFault}
use Rattle.merge_output.specs.declared.fault.RewriteFault.TheVariants as rewriting

abbrev pub rewrite_fault : RewriteFault → FileFault
rewrite_fault (rewriting.Device written) = faults.Device Output written
rewrite_fault rewriting.Memory = faults.Memory
