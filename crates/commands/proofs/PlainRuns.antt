-- What a run comes to that writes a normal text.
use Rattle.std.proofs.Common.{◌≡◌, Bool, true, false, List, [], ◌∷◌, ℕ, Option, None, Some, Result, Ok, Err, IfSome, inl, inr, sym, ap, subst, ◌∙◌, true≢false, arith}
use Rattle.std.specs.Prelude.{◌⊎◌}
use Rattle.command_line.specs.Commands.{Asks, Options, given_as, plain_command}
use Rattle.files.specs.Lines.{line_of}
use Rattle.files.specs.Stores.{Stored}
use Rattle.files.specs.declared.fault.Role.TheVariants as roles
use Rattle.files.specs.declared.fault.FileFault.{FileFault}
use Rattle.files.specs.declared.fault.FileFault.TheVariants as faults
use Rattle.command_line.specs.declared.command_words.Refusal.{Refusal}
use Rattle.command_line.specs.declared.command_words.Refusal.TheVariants.{Memory}
use Rattle.commands.specs.CommandLines.{IsDevices}
use Rattle.commands.specs.Endings.{Ends, Exit, Output, OutputState}
use Rattle.commands.specs.Merges.{Writers}
use Rattle.commands.specs.Plain.{FailsAs, Plain, is_output_fault}
use Rattle.commands.specs.Runs.{Refuses, RunsPlain}
use Rattle.commands.proofs.Endings.{SaysAs, Unwritten, device_printed, ends_failing, ends_in_status, four, keeps_same, status_printed}

unwritten_by : (coming : Option (List ℕ)) (out : Output) (outcome : Result Unit FileFault) (err : Output) (status : ℕ)
    → Plain coming out.before.held out.after.held outcome → Ends outcome err status → Unwritten out status
unwritten_by coming out (Ok x) err status plain e = inl e.0
unwritten_by coming out (Err (faults.Text roles.File kind place)) err status plain e = inr (inr (inr plain.1))
unwritten_by coming out (Err (faults.Text roles.Schema kind place)) err status plain e = absurd plain
unwritten_by coming out (Err (faults.Text roles.Output kind place)) err status plain e = absurd plain
unwritten_by coming out (Err (faults.Text roles.Certificate kind place)) err status plain e = absurd plain
unwritten_by coming out (Err (faults.Device role written)) err status plain e = inr (inr (inl (four status
    (status_printed err (line_of (faults.Device role written)) 4 status e))))
unwritten_by coming out (Err faults.Memory) err status plain e = inr (inr (inr plain))

output_failing : (outcome : Result Unit FileFault) (err : Output) (status : ℕ) → is_output_fault outcome ≡ true
    → Ends outcome err status → status ≡ 4
output_failing (Ok x) err status is e = absurd (true≢false (sym is))
output_failing (Err (faults.Text role kind place)) err status is e = absurd (true≢false (sym is))
output_failing (Err (faults.Device role written)) err status is e = four status
    (status_printed err (line_of (faults.Device role written)) 4 status e)
output_failing (Err faults.Memory) err status is e = absurd (true≢false (sym is))

file_failing : (outcome : Result Unit FileFault) (err : Output) (status : ℕ) → FailsAs outcome true
    → Ends outcome err status → (status ≡ 4) ⊎ (status ≡ 5)
file_failing (Ok x) err status is e = absurd (true≢false (sym is))
file_failing (Err (faults.Text role kind place)) err status is e = absurd (true≢false (sym is))
file_failing (Err (faults.Device role written)) err status is e = inl (four status
    (status_printed err (line_of (faults.Device role written)) 4 status e))
file_failing (Err faults.Memory) err status is e =
    elim (status_printed err (line_of faults.Memory) 5 status e) [
      | inl m ↦ inr m
      | inr d ↦ inl d
    ]

device_by : (writers : Writers) (words : List (List ℕ)) (files : List ℕ → Stored) (path : List ℕ)
    (options : Options) (exit : Exit) (outcome : Result Unit FileFault)
    → Asks words plain_command (given_as (path ∷ []) options)
    → Plain (files path).contents exit.out.before.held exit.out.after.held outcome
    → IfSome (files path).fails (FailsAs outcome)
    → (exit.out.before.has_failed ≡ false → exit.out.after.has_failed ≡ is_output_fault outcome)
    → Ends outcome exit.err exit.status → exit.status ≡ 4 → IsDevices writers words files exit
device_by writers words files path options exit (Ok x) asks plain told fails e is = absurd (omega (arith, e.0, is))
device_by writers words files path options exit (Err (faults.Text role kind place)) asks plain told fails e is =
    λ fresh clean. inr (inl (device_printed exit.err (line_of (faults.Text role kind place)) 2 exit.status e
    (λ no. omega (arith, no)) is clean))
device_by writers words files path options exit (Err (faults.Device roles.File written)) asks plain told fails e is =
    λ fresh clean. inr (inr (
      plain_command,
      given_as (path ∷ []) options,
      asks,
      λ never. absurd (true≢false (subst (λ o. IfSome o
          (FailsAs (Err (faults.Device roles.File written)))) never told)),
    ))
device_by writers words files path options exit (Err (faults.Device roles.Output written)) asks plain told fails e is =
    λ fresh clean. inl (fails fresh)
device_by writers words files path options exit (Err (faults.Device roles.Schema written)) asks plain told fails e is =
    absurd plain
device_by writers words files path options exit (Err (faults.Device roles.Certificate written)) asks plain told fails e is =
    absurd plain
device_by writers words files path options exit (Err faults.Memory) asks plain told fails e is =
    λ fresh clean. inr (inl (device_printed exit.err (line_of faults.Memory) 5 exit.status e
    (λ no. omega (arith, no)) is clean))

pub file_failed : (file : Stored) (exit : Exit)
    → RunsPlain file exit → file.fails ≡ Some true → (exit.status ≡ 4) ⊎ (exit.status ≡ 5)
file_failed file exit r is = file_failing r.outcome exit.err exit.status
    (subst (λ o. IfSome o (FailsAs r.outcome)) is r.file_fails) r.ends

pub plain_says : (file : Stored) (exit : Exit)
    → RunsPlain file exit → SaysAs exit
plain_says file exit r = record {
  is_status = ends_in_status r.outcome exit.err exit.status r.ends;
  unwritten = unwritten_by file.contents exit.out r.outcome exit.err exit.status r.plain r.ends;
  out_failed = (λ fresh fails. output_failing r.outcome exit.err exit.status (sym (r.output_fails fresh) ∙ fails) r.ends);
  err_failed = ends_failing r.outcome exit.err exit.status r.ends;
}

pub plain_device : (writers : Writers) (words : List (List ℕ)) (files : List ℕ → Stored)
    (path : List ℕ) (options : Options) (exit : Exit) → Asks words plain_command (given_as (path ∷ []) options)
    → RunsPlain (files path) exit → exit.status ≡ 4 → IsDevices writers words files exit
plain_device writers words files path options exit asks r =
    device_by writers words files path options exit r.outcome asks r.plain r.file_fails r.output_fails
    r.ends

-- words that ask for something are refused for want of memory alone
pub memory_runs : (refusal : Refusal) (file : Stored) (exit : Exit) → refusal ≡ Memory
    → Refuses refusal exit → RunsPlain file exit
memory_runs refusal file exit is refuses =
    let r = subst (λ m. Refuses m exit) is refuses in
    record {
      outcome = Err faults.Memory;
      plain = keeps_same exit.out r.0;
      file_fails = nothing_told file.fails;
      output_fails = (λ fresh. ap (λ (o : OutputState). o.has_failed) r.0 ∙ fresh);
      ends = r.1;
    }
  where
    nothing_told : (o : Option Bool) → IfSome o (FailsAs (Err faults.Memory))
    nothing_told None = tt
    nothing_told (Some each) = tt
