-- How runs end: what their statuses say of the outputs.
use Rattle.std.proofs.Common.{◌≡◌, Bool, true, false, List, ℕ, Option, None, Some, Result, Ok, Err, inl, inr, refl, sym, ap, subst, ◌∙◌, true≢false}
use Rattle.std.specs.Prelude.{◌⊎◌, MatchBool}
use Rattle.std.specs.Io.KnownBytes.{Appends, Keeps}
use Rattle.files.specs.Lines.{line_of}
use Rattle.files.specs.declared.fault.FileFault.{FileFault}
use Rattle.files.specs.declared.fault.FileFault.TheVariants as faults
use Rattle.commands.specs.Endings.{AppendsFront, Ending, Ends, EndsAs, Exit, IsUntouched, Output, OutputState, Prints, Tells, on_both, on_error, on_output}
use Rattle.commands.specs.Statuses.{IsStatus, fault_status}

-- ---- one output

pub failed_twice : {A : Type 0} (out : Output) → IsUntouched out → out.before.has_failed ≡ false
    → out.after.has_failed ≡ true → A
failed_twice out same fresh fails =
    absurd (true≢false (sym fails ∙ ap (λ (o : OutputState). o.has_failed) same ∙ fresh))

keeps_self : (held : Option (List ℕ)) → Keeps held held
keeps_self None = tt
keeps_self (Some xs) = refl

pub keeps_same : (out : Output) → IsUntouched out → Keeps out.before.held out.after.held
keeps_same out same =
    subst (λ (o : OutputState). Keeps out.before.held o.held) (sym same) (keeps_self out.before.held)

-- ---- one text

abbrev Sent : Bool → Output → List ℕ → ℕ → ℕ → Type 0
Sent fails out text wanted status = MatchBool fails
    ((status ≡ 4) × AppendsFront out.before.held out.after.held text)
    ((status ≡ wanted) × Appends out.before.held out.after.held text)

-- the status is the one that is wanted, or a device's
pub status_printed : (out : Output) (text : List ℕ) (wanted status : ℕ) → Prints out text wanted status
    → (status ≡ wanted) ⊎ (status ≡ 4)
status_printed out text wanted status p = go p.fails p.sent
  where
    go : (b : Bool) → Sent b out text wanted status → (status ≡ wanted) ⊎ (status ≡ 4)
    go true s = inr s.0
    go false s = inl s.0

-- where the output fails the status is a device's
pub failure_printed : (out : Output) (text : List ℕ) (wanted status : ℕ) → Prints out text wanted status
    → out.before.has_failed ≡ false → out.after.has_failed ≡ true → status ≡ 4
failure_printed out text wanted status p fresh fails = go p.fails (sym (p.told fresh) ∙ fails) p.sent
  where
    go : (b : Bool) → b ≡ true → Sent b out text wanted status → status ≡ 4
    go true e s = s.0
    go false e s = absurd (true≢false (sym e))

-- where it is a device's, and another is wanted, the output has failed
pub device_printed : (out : Output) (text : List ℕ) (wanted status : ℕ) → Prints out text wanted status
    → (wanted ≡ 4 → ⊥) → status ≡ 4 → out.before.has_failed ≡ false → out.after.has_failed ≡ true
device_printed out text wanted status p other is fresh = go p.fails refl p.sent
  where
    go : (b : Bool) → p.fails ≡ b → Sent b out text wanted status → out.after.has_failed ≡ true
    go true e s = p.told fresh ∙ e
    go false e s = absurd (other (sym s.0 ∙ is))

pub four : (status : ℕ) → (status ≡ 4) ⊎ (status ≡ 4) → status ≡ 4
four status (inl e) = e
four status (inr e) = e

-- ---- the line of a fault

pub fault_is_status : (fault : FileFault) (status : ℕ) → (status ≡ fault_status fault) ⊎ (status ≡ 4) → IsStatus status
fault_is_status (faults.Text role kind place) status (inl e) = inr (inr (inl e))
fault_is_status (faults.Device role written) status (inl e) = inr (inr (inr (inr (inl e))))
fault_is_status faults.Memory status (inl e) = inr (inr (inr (inr (inr (inl e)))))
fault_is_status fault status (inr e) = inr (inr (inr (inr (inl e))))

pub ends_in_status : (outcome : Result Unit FileFault) (err : Output) (status : ℕ) → Ends outcome err status
    → IsStatus status
ends_in_status (Ok x) err status e = inl e.0
ends_in_status (Err fault) err status e = fault_is_status fault status
    (status_printed err (line_of fault) (fault_status fault) status e)

pub ends_failing : (outcome : Result Unit FileFault) (err : Output) (status : ℕ) → Ends outcome err status
    → err.before.has_failed ≡ false → err.after.has_failed ≡ true → status ≡ 4
ends_failing (Ok x) err status e fresh fails = failed_twice err e.1 fresh fails
ends_failing (Err fault) err status e fresh fails =
    failure_printed err (line_of fault) (fault_status fault) status e fresh fails

-- ---- an end of any kind

-- what goes out where the status isn't that of a run that was done, or of a device
abbrev pub Unwritten : Output → ℕ → Type 0
Unwritten out status =
    (status ≡ 0) ⊎ (status ≡ 1) ⊎ (status ≡ 4) ⊎ Keeps out.before.held out.after.held

-- the status that is wanted
abbrev pub wanted_of : Ending → ℕ
wanted_of (on_output text wanted) = wanted
wanted_of (on_error line wanted) = wanted
wanted_of (on_both text line wanted) = wanted

-- A text goes out only where all is done, or the file breaks its schema.
abbrev pub IsFit : Ending → Type 0
IsFit (on_output text wanted) = (wanted ≡ 0) ⊎ (wanted ≡ 1)
IsFit (on_error line wanted) = IsStatus wanted
IsFit (on_both text line wanted) = (wanted ≡ 0) ⊎ (wanted ≡ 1)

-- What is said beside what was done, but of devices.
pub record SaysAs (exit : Exit) : Type 0 where
  pub is_status : IsStatus exit.status
  pub unwritten : Unwritten exit.out exit.status
  pub out_failed : exit.out.before.has_failed ≡ false → exit.out.after.has_failed ≡ true → exit.status ≡ 4
  pub err_failed : exit.err.before.has_failed ≡ false → exit.err.after.has_failed ≡ true → exit.status ≡ 4

-- an output has failed
abbrev pub OneFailed : Exit → Type 0
OneFailed exit = (exit.out.after.has_failed ≡ true) ⊎ (exit.err.after.has_failed ≡ true)

told_status : (wanted : ℕ) (exit : Exit) → (wanted ≡ 0) ⊎ (wanted ≡ 1) → (exit.status ≡ wanted) ⊎ (exit.status ≡ 4)
    → IsStatus exit.status × Unwritten exit.out exit.status
told_status wanted exit (inl zero) (inl e) = (inl (e ∙ zero), inl (e ∙ zero))
told_status wanted exit (inr one) (inl e) = (inr (inl (e ∙ one)), inr (inl (e ∙ one)))
told_status wanted exit fit (inr e) = (inr (inr (inr (inr (inl e)))), inr (inr (inl e)))

-- a text alone
text_says : (text : List ℕ) (wanted : ℕ) (exit : Exit) → (wanted ≡ 0) ⊎ (wanted ≡ 1)
    → Prints exit.out text wanted exit.status → IsUntouched exit.err → SaysAs exit
text_says text wanted exit fit p same =
    let s = told_status wanted exit fit (status_printed exit.out text wanted exit.status p) in
    record {
      is_status = s.0;
      unwritten = s.1;
      out_failed = failure_printed exit.out text wanted exit.status p;
      err_failed = λ fresh fails. failed_twice exit.err same fresh fails;
    }

-- a text, and a line after it
module _ (text line : List ℕ) (wanted : ℕ) (exit : Exit) where
  abbrev Behind : Bool → Type 0
  Behind fails = MatchBool fails
      ((exit.status ≡ 4) × AppendsFront exit.out.before.held exit.out.after.held text × IsUntouched exit.err)
      (Appends exit.out.before.held exit.out.after.held text × Prints exit.err line wanted exit.status)

  tells_say : (wanted ≡ 0) ⊎ (wanted ≡ 1) → Tells text line wanted exit → SaysAs exit
  tells_say fit t = go t.fails t.told t.sent
    where
      go : (fails : Bool) → (exit.out.before.has_failed ≡ false → exit.out.after.has_failed ≡ fails) → Behind fails
          → SaysAs exit
      go false told ends =
          let s = told_status wanted exit fit (status_printed exit.err line wanted exit.status ends.1) in
          record {
            is_status = s.0;
            unwritten = s.1;
            out_failed = (λ fresh fails. absurd (true≢false (sym fails ∙ told fresh)));
            err_failed = failure_printed exit.err line wanted exit.status ends.1;
          }
      go true told ends = record {
        is_status = inr (inr (inr (inr (inl ends.0))));
        unwritten = inr (inr (inl ends.0));
        out_failed = (λ fresh fails. ends.0);
        err_failed = (λ fresh fails. ends.0);
      }

  tells_in : Tells text line wanted exit → (exit.status ≡ wanted) ⊎ (exit.status ≡ 4)
  tells_in t = go t.fails t.sent
    where
      go : (fails : Bool) → Behind fails → (exit.status ≡ wanted) ⊎ (exit.status ≡ 4)
      go false ends = status_printed exit.err line wanted exit.status ends.1
      go true ends = inr ends.0

  tells_device : (wanted ≡ 4 → ⊥) → Tells text line wanted exit → exit.status ≡ 4
      → exit.out.before.has_failed ≡ false → exit.err.before.has_failed ≡ false → OneFailed exit
  tells_device other t is fresh clean = go t.fails (t.told fresh) t.sent
    where
      go : (fails : Bool) → exit.out.after.has_failed ≡ fails → Behind fails → OneFailed exit
      go false told ends = inr (device_printed exit.err line wanted exit.status ends.1 other is clean)
      go true told ends = inl told

-- what is said where a run ends so
pub ends_say : (e : Ending) (exit : Exit) → IsFit e → EndsAs e exit → SaysAs exit
ends_say (on_output text wanted) exit fit ends = text_says text wanted exit fit ends.0 ends.1
ends_say (on_both text line wanted) exit fit ends = tells_say text line wanted exit fit ends
ends_say (on_error line wanted) exit fit ends = record {
  is_status = by (status_printed exit.err line wanted exit.status ends.1);
  unwritten = inr (inr (inr (keeps_same exit.out ends.0)));
  out_failed = (λ fresh fails. failed_twice exit.out ends.0 fresh fails);
  err_failed = failure_printed exit.err line wanted exit.status ends.1;
}
  where
    by : (exit.status ≡ wanted) ⊎ (exit.status ≡ 4) → IsStatus exit.status
    by (inl e) = subst IsStatus (sym e) fit
    by (inr e) = inr (inr (inr (inr (inl e))))

-- the status is the one that is wanted, or a device's
pub ends_in : (e : Ending) (exit : Exit) → EndsAs e exit → (exit.status ≡ wanted_of e) ⊎ (exit.status ≡ 4)
ends_in (on_output text wanted) exit ends = status_printed exit.out text wanted exit.status ends.0
ends_in (on_both text line wanted) exit ends = tells_in text line wanted exit ends
ends_in (on_error line wanted) exit ends = status_printed exit.err line wanted exit.status ends.1

-- a device's, where another is wanted, says that an output has failed
pub ends_device : (e : Ending) (exit : Exit) → EndsAs e exit → (wanted_of e ≡ 4 → ⊥) → exit.status ≡ 4
    → exit.out.before.has_failed ≡ false → exit.err.before.has_failed ≡ false → OneFailed exit
ends_device (on_output text wanted) exit ends other is fresh clean =
    inl (device_printed exit.out text wanted exit.status ends.0 other is fresh)
ends_device (on_both text line wanted) exit ends other is fresh clean =
    tells_device text line wanted exit other ends is fresh clean
ends_device (on_error line wanted) exit ends other is fresh clean =
    inr (device_printed exit.err line wanted exit.status ends.1 other is clean)

-- what holds of the status that is wanted, and of a device's, holds of the status
pub ends_among : (P : ℕ → Type 0) (e : Ending) (exit : Exit) → EndsAs e exit → P (wanted_of e) → P 4
    → P exit.status
ends_among P e exit ends wanted device =
    elim (ends_in e exit ends) [
      | inl is ↦ subst P (sym is) wanted
      | inr is ↦ subst P (sym is) device
    ]

-- a device's comes of what was met, or an output has failed
pub ends_by_devices : (A : Type 0) (e : Ending) (exit : Exit) → EndsAs e exit → A ⊎ (wanted_of e ≡ 4 → ⊥)
    → exit.status ≡ 4 → exit.out.before.has_failed ≡ false → exit.err.before.has_failed ≡ false
    → A ⊎ OneFailed exit
ends_by_devices A e exit ends (inl met) is fresh clean = inl met
ends_by_devices A e exit ends (inr other) is fresh clean = inr (ends_device e exit ends other is fresh clean)
