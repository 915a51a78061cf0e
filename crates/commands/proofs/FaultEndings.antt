-- How a run ends for which a file isn't checked, merged or verified: what its status says.
use Rattle.std.proofs.Common.{◌≡◌, Bool, true, false, Result, Ok, Err, IfSome, inl, inr, refl, sym, subst, ◌∙◌, true≢false, arith}
use Rattle.std.specs.Prelude.{◌⊎◌}
use Rattle.express_syntax.specs.declared.fault.SchemaFault.TheVariants as schemas
use Rattle.files.specs.Stores.{Stored}
use Rattle.files.specs.declared.fault.Role.{Role}
use Rattle.files.specs.declared.fault.Role.TheVariants as roles
use Rattle.reports.specs.Devices.{FileFailsAs, SchemaFailsAs, is_device}
use Rattle.reports.specs.declared.fault.Fault.{Fault}
use Rattle.reports.specs.declared.fault.Fault.TheVariants.{Certificate, Device, Findings, Memory, Refused, Schema, Text, Unchecked}
use Rattle.commands.specs.CommandLines.{CanFail}
use Rattle.commands.specs.Endings.{EndsAs, Exit}
use Rattle.commands.specs.Faults.{fault_ending}
use Rattle.commands.proofs.Endings.{IsFit, OneFailed, ends_by_devices, ends_in, four, wanted_of}

pub fault_fit : (fault : Fault) → IsFit (fault_ending fault)
fault_fit (Schema (schemas.Text kind place)) = inr (inr (inl refl))
fault_fit (Schema (schemas.Name kind name)) = inr (inr (inl refl))
fault_fit (Schema schemas.Memory) = inr (inr (inr (inr (inr (inl refl)))))
fault_fit (Text role kind place) = inr (inr (inl refl))
fault_fit (Unchecked parts) = inr refl
fault_fit (Findings report) = inr refl
fault_fit (Refused role findings rules) = inr (inl refl)
fault_fit (Certificate refusal) = inr (inr (inr (inr (inr (inr refl)))))
fault_fit (Device role written) = inr (inr (inr (inr (inl refl))))
fault_fit Memory = inr (inr (inr (inr (inr (inl refl)))))

module _ (T : Type 0) where
  -- the device of some role has failed, by the fault
  abbrev pub IsOfDevice : Fault → Type 0
  IsOfDevice fault = (role : Role) × (is_device {T = T} role (Err fault) ≡ true)

  -- a device's status is wanted for such a fault alone
  pub device_wanted : (fault : Fault) → IsOfDevice fault ⊎ (wanted_of (fault_ending fault) ≡ 4 → ⊥)
  device_wanted (Schema (schemas.Text kind place)) = inr (λ never. omega (arith, never))
  device_wanted (Schema (schemas.Name kind name)) = inr (λ never. omega (arith, never))
  device_wanted (Schema schemas.Memory) = inr (λ never. omega (arith, never))
  device_wanted (Text role kind place) = inr (λ never. omega (arith, never))
  device_wanted (Unchecked parts) = inr (λ never. omega (arith, never))
  device_wanted (Findings report) = inr (λ never. omega (arith, never))
  device_wanted (Refused role findings rules) = inr (λ never. omega (arith, never))
  device_wanted (Certificate refusal) = inr (λ never. omega (arith, never))
  device_wanted (Device roles.Schema written) = inl (roles.Schema, refl)
  device_wanted (Device roles.File written) = inl (roles.File, refl)
  device_wanted (Device roles.Output written) = inl (roles.Output, refl)
  device_wanted (Device roles.Certificate written) = inl (roles.Certificate, refl)
  device_wanted Memory = inr (λ never. omega (arith, never))

  -- the status of a device is wanted for each device's fault
  pub wants_device : (role : Role) (fault : Fault) → is_device {T = T} role (Err fault) ≡ true
      → wanted_of (fault_ending fault) ≡ 4
  wants_device role (Schema fault) is = absurd (true≢false (sym is))
  wants_device role (Text other kind place) is = absurd (true≢false (sym is))
  wants_device role (Unchecked parts) is = absurd (true≢false (sym is))
  wants_device role (Findings report) is = absurd (true≢false (sym is))
  wants_device role (Refused other findings rules) is = absurd (true≢false (sym is))
  wants_device role (Certificate refusal) is = absurd (true≢false (sym is))
  wants_device role (Device other written) is = refl
  wants_device role Memory is = absurd (true≢false (sym is))

  pub device_ends : (role : Role) (fault : Fault) (exit : Exit)
      → EndsAs (fault_ending fault) exit → is_device {T = T} role (Err fault) ≡ true → exit.status ≡ 4
  device_ends role fault exit ends is =
      four exit.status (subst (λ wanted. (exit.status ≡ wanted) ⊎ (exit.status ≡ 4)) (wants_device role fault is)
      (ends_in (fault_ending fault) exit ends))

  -- where the status is a device's, one of four has failed, by the fault, or an output
  pub one_failed : (fault : Fault) (exit : Exit) (s f o c : Bool)
      → s ≡ is_device {T = T} roles.Schema (Err fault) → f ≡ is_device {T = T} roles.File (Err fault)
      → o ≡ is_device {T = T} roles.Output (Err fault) → c ≡ is_device {T = T} roles.Certificate (Err fault)
      → EndsAs (fault_ending fault) exit → exit.status ≡ 4 → exit.out.before.has_failed ≡ false
      → exit.err.before.has_failed ≡ false
      → (s ≡ true) ⊎ (f ≡ true) ⊎ (o ≡ true) ⊎ (c ≡ true) ⊎ OneFailed exit
  one_failed fault exit s f o c es ef eo ec ends is fresh clean =
      elim (ends_by_devices (IsOfDevice fault) (fault_ending fault) exit ends (device_wanted fault) is
      fresh clean) [
        | inl met ↦ by met.0 met.1
        | inr failed ↦ inr (inr (inr (inr failed)))
      ]
    where
      by : (role : Role) → is_device {T = T} role (Err fault) ≡ true
          → (s ≡ true) ⊎ (f ≡ true) ⊎ (o ≡ true) ⊎ (c ≡ true) ⊎ OneFailed exit
      by roles.Schema e = inl (es ∙ e)
      by roles.File e = inr (inl (ef ∙ e))
      by roles.Output e = inr (inr (inl (eo ∙ e)))
      by roles.Certificate e = inr (inr (inr (inl (ec ∙ e))))

  -- it is none of a source that can't fail
  no_schema : (outcome : Result T Fault) → is_device roles.Schema outcome ≡ true → SchemaFailsAs outcome false → ⊥
  no_schema (Ok x) is h = true≢false (sym is)
  no_schema (Err (Schema fault)) is h = true≢false (sym is)
  no_schema (Err (Text role kind place)) is h = true≢false (sym is)
  no_schema (Err (Unchecked parts)) is h = true≢false (sym is)
  no_schema (Err (Findings report)) is h = true≢false (sym is)
  no_schema (Err (Refused role findings rules)) is h = true≢false (sym is)
  no_schema (Err (Certificate refusal)) is h = true≢false (sym is)
  no_schema (Err (Device role written)) is h = true≢false (sym is ∙ h)
  no_schema (Err Memory) is h = true≢false (sym is)

  no_file : (outcome : Result T Fault) → is_device roles.File outcome ≡ true → FileFailsAs outcome false → ⊥
  no_file (Ok x) is h = true≢false (sym is)
  no_file (Err (Schema fault)) is h = true≢false (sym is)
  no_file (Err (Text role kind place)) is h = true≢false (sym is)
  no_file (Err (Unchecked parts)) is h = true≢false (sym is)
  no_file (Err (Findings report)) is h = true≢false (sym is)
  no_file (Err (Refused role findings rules)) is h = true≢false (sym is)
  no_file (Err (Certificate refusal)) is h = true≢false (sym is)
  no_file (Err (Device roles.File written)) is h = true≢false h
  no_file (Err (Device roles.Schema written)) is h = true≢false (sym is)
  no_file (Err (Device roles.Output written)) is h = true≢false (sym is)
  no_file (Err (Device roles.Certificate written)) is h = true≢false (sym is)
  no_file (Err Memory) is h = true≢false (sym is)

  -- where the device of the schema, or of the file, has failed, by the answer, it can
  pub schema_can : (outcome : Result T Fault) (schema : Stored) → is_device roles.Schema outcome ≡ true
      → IfSome schema.fails (SchemaFailsAs outcome) → CanFail schema
  schema_can outcome schema met told = λ never.
      no_schema outcome met (subst (λ o. IfSome o (SchemaFailsAs outcome)) never told)

  pub file_can : (outcome : Result T Fault) (file : Stored) → is_device roles.File outcome ≡ true
      → IfSome file.fails (FileFailsAs outcome) → CanFail file
  file_can outcome file met told = λ never.
      no_file outcome met (subst (λ o. IfSome o (FileFailsAs outcome)) never told)
