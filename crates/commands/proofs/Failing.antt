-- Whether a source fails, by what `plain` answers.
use Rattle.std.proofs.Common.{◌≡◌, Bool, false, Option, None, Some, IfSome, Err, sym, subst}
use Rattle.devices.specs.declared.device.WriteFault.{WriteFault}
use Rattle.files.specs.declared.fault.Role.TheVariants as roles
use Rattle.files.specs.declared.fault.FileFault.{FileFault}
use Rattle.files.specs.Faults.{write_fault}
use Rattle.commands.specs.Plain.{FailsAs}

-- all was read, and the output fails
pub not_written : (told : Option Bool) (fault : WriteFault) (met : FileFault) → met ≡ write_fault roles.Output fault
    → IfSome told (λ each. false ≡ each) → IfSome told (FailsAs (Err met))
not_written told fault met is h = subst (λ (f : FileFault). IfSome told (FailsAs (Err f))) (sym is) (go told h)
  where
    go : (o : Option Bool) → IfSome o (λ each. false ≡ each) → IfSome o (FailsAs (Err (write_fault roles.Output fault)))
    go None h = tt
    go (Some each) h = h
