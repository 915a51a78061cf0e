-- What is answered to texts that were read is no device's fault.
use Rattle.std.specs.Prelude.{◌≡◌, ℕ, List, false, Result, Ok, Err}
use Rattle.std.proofs.Common.{refl}
use Rattle.conformance.specs.Choices.{Choice}
use Rattle.files.specs.declared.fault.Role.{Role}
use Rattle.reports.specs.Devices.{is_device}
use Rattle.reports.specs.declared.fault.Fault.{Fault}
use Rattle.reports.specs.declared.fault.Fault.TheVariants as faults
use Rattle.verifying.specs.Verifying.{Verifies}
use Rattle.verifying.specs.declared.proof.Proof.{Proof}

pub no_device : (schema input output certificate : List ℕ) (choice : Choice) (role : Role)
    (r : Result Proof Fault) → Verifies schema input output certificate choice r → is_device role r ≡ false
no_device schema input output certificate choice role (Err (faults.Device other written)) v = absurd v
no_device schema input output certificate choice role _ v = refl
