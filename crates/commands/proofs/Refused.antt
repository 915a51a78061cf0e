-- How a run ends that does nothing.
use Rattle.std.proofs.Common.{◌≡◌, List, ℕ, inl, inr, refl, arith}
use Rattle.std.specs.Prelude.{◌⊎◌, string_bytes}
use Rattle.command_line.specs.declared.command_words.Refusal.{Refusal}
use Rattle.command_line.specs.declared.command_words.Refusal.TheVariants.{Shown, Usage, Memory}
use Rattle.files.specs.Lines.{line_of}
use Rattle.files.specs.Stores.{Stored}
use Rattle.files.specs.declared.fault.FileFault.TheVariants as faults
use Rattle.commands.specs.CommandLines.{IsDevices}
use Rattle.commands.specs.Endings.{Exit, on_error}
use Rattle.commands.specs.Merges.{Writers}
use Rattle.commands.specs.Runs.{Refuses}
use Rattle.commands.specs.Statuses.{IsStatus}
use Rattle.commands.proofs.Endings.{SaysAs, Unwritten, device_printed, ends_say, failed_twice, failure_printed, status_printed}

abbrev Text : Type 0
Text = List ℕ

pub refused_device : (writers : Writers) (words : List Text) (files : List ℕ → Stored)
    (refusal : Refusal)
    (exit : Exit) → Refuses refusal exit → exit.status ≡ 4
    → IsDevices writers words files exit
refused_device writers words files (Shown text) exit r is = λ fresh clean.
    inl (device_printed exit.out (string_bytes text) 0 exit.status r.0 (λ no. omega (arith, no)) is fresh)
refused_device writers words files (Usage text) exit r is = λ fresh clean.
    inr (inl (device_printed exit.err (string_bytes text) 3 exit.status r.1 (λ no. omega (arith, no)) is clean))
refused_device writers words files Memory exit r is = λ fresh clean.
    inr (inl (device_printed exit.err (line_of faults.Memory) 5 exit.status r.1 (λ no. omega (arith, no)) is clean))

-- what is said of the outputs where nothing is done
pub refused_says : (refusal : Refusal) (exit : Exit)
    → Refuses refusal exit → SaysAs exit
refused_says (Shown text) exit r = go (status_printed exit.out (string_bytes text) 0 exit.status r.0)
  where
    by : IsStatus exit.status → Unwritten exit.out exit.status → SaysAs exit
    by known unwritten = record {
      is_status = known;
      unwritten = unwritten;
      out_failed = failure_printed exit.out (string_bytes text) 0 exit.status r.0;
      err_failed = (λ fresh fails. failed_twice exit.err r.1 fresh fails);
    }

    go : (exit.status ≡ 0) ⊎ (exit.status ≡ 4) → SaysAs exit
    go (inl e) = by (inl e) (inl e)
    go (inr e) = by (inr (inr (inr (inr (inl e))))) (inr (inr (inl e)))
refused_says (Usage text) exit r =
    ends_say (on_error (string_bytes text) 3) exit (inr (inr (inr (inl refl)))) r
refused_says Memory exit r =
    ends_say (on_error (line_of faults.Memory) 5) exit (inr (inr (inr (inr (inr (inl refl)))))) r
