-- Whether a source fails, by what is answered.
use Rattle.std.specs.Prelude.{◌≡◌, Option, None, Some, IfSome, Bool, true, false, Result, Ok, Err}
use Rattle.std.proofs.Common.{refl, sym, ap, ◌∙◌, subst}
use Rattle.express_syntax.specs.declared.fault.SchemaFault.{SchemaFault}
use Rattle.express_syntax.specs.declared.fault.SchemaFault.TheVariants as schemas
use Rattle.files.specs.steps.Reads.{DeviceFailsAs, device_failed}
use Rattle.files.specs.declared.read.ReadFault.{ReadFault}
use Rattle.files.specs.declared.read.ReadFault.TheVariants as reads
use Rattle.files.specs.declared.fault.Role.{Role}
use Rattle.files.specs.declared.fault.Role.TheVariants as roles
use Rattle.reports.specs.declared.fault.Fault.{Fault}
use Rattle.reports.specs.declared.fault.Fault.TheVariants as faults
use Rattle.reports.specs.Faults.{of_schema, unread}
use Rattle.reports.specs.Devices.{is_role, is_device, SchemaFailsAs, FileFailsAs}

module _ {T : Type 0} where
  -- the schema, where it is read
  pub schema_read : (told : Option Bool) (r : Result T Fault) → is_device roles.Schema r ≡ false
      → IfSome told (λ each. false ≡ each) → IfSome told (SchemaFailsAs r)
  schema_read None r is h = tt
  schema_read (Some each) (Ok x) is h = h
  schema_read (Some each) (Err (faults.Schema fault)) is h = h
  schema_read (Some each) (Err (faults.Text role kind place)) is h = h
  schema_read (Some each) (Err (faults.Unchecked parts)) is h = h
  schema_read (Some each) (Err (faults.Findings report)) is h = h
  schema_read (Some each) (Err (faults.Refused role findings rules)) is h = h
  schema_read (Some each) (Err (faults.Certificate refusal)) is h = h
  schema_read (Some each) (Err (faults.Device role written)) is h = is ∙ h
  schema_read (Some each) (Err faults.Memory) is h = tt

  -- the file, where it is
  pub file_read : (told : Option Bool) (r : Result T Fault) → is_device roles.File r ≡ false
      → IfSome told (λ each. false ≡ each) → IfSome told (FileFailsAs r)
  file_read None r is h = tt
  file_read (Some each) (Ok x) is h = h
  file_read (Some each) (Err (faults.Schema fault)) is h = tt
  file_read (Some each) (Err (faults.Text role kind place)) is h = h
  file_read (Some each) (Err (faults.Unchecked parts)) is h = tt
  file_read (Some each) (Err (faults.Findings report)) is h = h
  file_read (Some each) (Err (faults.Refused role findings rules)) is h = h
  file_read (Some each) (Err (faults.Certificate refusal)) is h = h
  file_read (Some each) (Err (faults.Device roles.Schema written)) is h = tt
  file_read (Some each) (Err (faults.Device roles.File written)) is h = is ∙ h
  file_read (Some each) (Err (faults.Device roles.Output written)) is h = h
  file_read (Some each) (Err (faults.Device roles.Certificate written)) is h = h
  file_read (Some each) (Err faults.Memory) is h = tt

same_role : (role : Role) → is_role role role ≡ true
same_role roles.Schema = refl
same_role roles.File = refl
same_role roles.Output = refl
same_role roles.Certificate = refl

module _ (T : Type 0) where
  -- a fault of the schema comes before the file is read
  pub schema_first : (told : Option Bool) (fault : SchemaFault) (f : Fault) → f ≡ of_schema fault
      → IfSome told (FileFailsAs {T = T} (Err f))
  schema_first told fault f is =
      subst (λ (x : Fault). IfSome told (FileFailsAs {T = T} (Err x))) (sym is) (by told fault)
    where
      by : (told : Option Bool) (fault : SchemaFault) → IfSome told (FileFailsAs {T = T} (Err (of_schema fault)))
      by None fault = tt
      by (Some each) (schemas.Text kind place) = tt
      by (Some each) (schemas.Name kind name) = tt
      by (Some each) schemas.Memory = tt

  -- a fault of the schema is no device's
  pub schema_alone : (role : Role) (fault : SchemaFault) (f : Fault) → f ≡ of_schema fault
      → is_device {T = T} role (Err f) ≡ false
  schema_alone role fault f is = ap (λ (x : Fault). is_device {T = T} role (Err x)) is ∙ by fault
    where
      by : (fault : SchemaFault) → is_device {T = T} role (Err (of_schema fault)) ≡ false
      by (schemas.Text kind place) = refl
      by (schemas.Name kind name) = refl
      by schemas.Memory = refl

  -- what isn't read to its end has failed, where the fault says so
  pub unread_device : (role : Role) (e : ReadFault) (f : Fault) → f ≡ unread role e → (U : Type 0)
      → device_failed {T = U} (Err e) ≡ is_device {T = T} role (Err f)
  unread_device role e f is U = by role e ∙ ap (λ (x : Fault). is_device {T = T} role (Err x)) (sym is)
    where
      by : (role : Role) (e : ReadFault) → device_failed {T = U} (Err e) ≡ is_device {T = T} role (Err (unread role e))
      by role reads.Device = sym (same_role role)
      by roles.Schema reads.TooLarge = refl
      by roles.File reads.TooLarge = refl
      by roles.Output reads.TooLarge = refl
      by roles.Certificate reads.TooLarge = refl
      by role reads.Memory = refl

  -- no device of another role has failed
  pub unread_other : (role : Role) (e : ReadFault) (f : Fault) → f ≡ unread role e → (other : Role)
      → is_role other role ≡ false → is_device {T = T} other (Err f) ≡ false
  unread_other role e f is other differs =
      ap (λ (x : Fault). is_device {T = T} other (Err x)) is ∙ by role e differs
    where
      by : (role : Role) (e : ReadFault) → is_role other role ≡ false
          → is_device {T = T} other (Err (unread role e)) ≡ false
      by role reads.Device differs = differs
      by roles.Schema reads.TooLarge differs = refl
      by roles.File reads.TooLarge differs = refl
      by roles.Output reads.TooLarge differs = refl
      by roles.Certificate reads.TooLarge differs = refl
      by role reads.Memory differs = refl

  -- what is told of a schema that isn't read to its end
  pub unread_schema : (e : ReadFault) (f : Fault) → f ≡ unread roles.Schema e → (U : Type 0) (told : Option Bool)
      → IfSome told (DeviceFailsAs {T = U} (Err e)) → IfSome told (SchemaFailsAs {T = T} (Err f))
  unread_schema e f is U told h =
      subst (λ (x : Fault). IfSome told (SchemaFailsAs {T = T} (Err x))) (sym is) (by told e h)
    where
      by : (told : Option Bool) (e : ReadFault) → IfSome told (DeviceFailsAs {T = U} (Err e))
          → IfSome told (SchemaFailsAs {T = T} (Err (unread roles.Schema e)))
      by None e h = tt
      by (Some each) reads.Device h = h
      by (Some each) reads.TooLarge h = h
      by (Some each) reads.Memory h = tt

  -- the file isn't read if the schema isn't read to its end
  pub unread_before : (e : ReadFault) (f : Fault) → f ≡ unread roles.Schema e → (told : Option Bool)
      → IfSome told (FileFailsAs {T = T} (Err f))
  unread_before e f is told = subst (λ (x : Fault). IfSome told (FileFailsAs {T = T} (Err x))) (sym is) (by told e)
    where
      by : (told : Option Bool) (e : ReadFault) → IfSome told (FileFailsAs {T = T} (Err (unread roles.Schema e)))
      by None e = tt
      by (Some each) reads.Device = tt
      by (Some each) reads.TooLarge = tt
      by (Some each) reads.Memory = tt

  -- what is told of a file that isn't read to its end
  pub unread_file : (e : ReadFault) (f : Fault) → f ≡ unread roles.File e → (U : Type 0) (told : Option Bool)
      → IfSome told (DeviceFailsAs {T = U} (Err e)) → IfSome told (FileFailsAs {T = T} (Err f))
  unread_file e f is U told h =
      subst (λ (x : Fault). IfSome told (FileFailsAs {T = T} (Err x))) (sym is) (by told e h)
    where
      by : (told : Option Bool) (e : ReadFault) → IfSome told (DeviceFailsAs {T = U} (Err e))
          → IfSome told (FileFailsAs {T = T} (Err (unread roles.File e)))
      by None e h = tt
      by (Some each) reads.Device h = h
      by (Some each) reads.TooLarge h = h
      by (Some each) reads.Memory h = tt
