-- How a run ends: what is printed on the output and on the error output, and the status.
use Rattle.std.specs.Prelude.{◌≡◌, ◌++◌, ℕ, List, Option, None, Some, Bool, false, Result, Ok, Err, MatchBool, MatchResult, is_err}
use Rattle.std.specs.Io.KnownBytes.{Appends}
use Rattle.devices.specs.Emits.{Emits}
use Rattle.devices.specs.declared.device.WriteFault.{WriteFault}
use Rattle.files.specs.Faults.{write_fault}
use Rattle.files.specs.Lines.{line_of}
use Rattle.files.specs.declared.fault.FileFault.{FileFault}
use Rattle.files.specs.declared.fault.Role.TheVariants as roles
use Rattle.commands.specs.Statuses.{fault_status}

-- What an output holds, if it reveals that, and whether it has failed.
pub record OutputState : Type 0 where
  pub held : Option (List ℕ)
  pub has_failed : Bool

-- An output before and after a run.
pub record Output : Type 0 where
  pub before : OutputState
  pub after : OutputState

-- What a run leaves: the output, the error output, and its exit status.
pub record Exit : Type 0 where
  pub out : Output
  pub err : Output
  pub status : ℕ

-- the state of an output, and the states of an output before and after a run
abbrev pub state_seen : {S : Type 0} → (S → Option (List ℕ)) → (S → Bool) → S → OutputState
state_seen held has_failed sink = record { held = held sink; has_failed = has_failed sink }

abbrev pub output_seen : {S : Type 0} → (S → Option (List ℕ)) → (S → Bool) → S → S → Output
output_seen held has_failed old new =
    record { before = state_seen held has_failed old; after = state_seen held has_failed new }

abbrev pub exit_of : Output → Output → ℕ → Exit
exit_of out err status = record { out = out; err = err; status = status }

-- The output is unchanged.
abbrev pub IsUntouched : Output → Type 0
IsUntouched out = out.after ≡ out.before

-- A prefix of the text was written.
abbrev pub AppendsFront : Option (List ℕ) → Option (List ℕ) → List ℕ → Type 0
AppendsFront old new text = (sent : List ℕ) × (left : List ℕ) × (text ≡ sent ++ left) × Appends old new sent

-- Either the text was written, and the status is `wanted`, or the output failed after a prefix of the text, and the
-- status is 4.
pub record Prints (out : Output) (text : List ℕ) (wanted status : ℕ) : Type 0 where
  pub fails : Bool
  pub told : out.before.has_failed ≡ false → out.after.has_failed ≡ fails
  pub sent : MatchBool fails ((status ≡ 4) × AppendsFront out.before.held out.after.held text)
      ((status ≡ wanted) × Appends out.before.held out.after.held text)

-- What a run leaves on its error output for the outcome of a command: nothing, or the line of the fault.
abbrev pub Ends : Result Unit FileFault → Output → ℕ → Type 0
Ends (Ok _) err status = (status ≡ 0) × IsUntouched err
Ends (Err fault) err status = Prints err (line_of fault) (fault_status fault) status

-- How a run is to end, and with which status: a text on the output, a line on the error output, or both, the text
-- first.
pub data Ending : Type 0 where
  on_output : List ℕ → ℕ → Ending
  on_error : List ℕ → ℕ → Ending
  on_both : List ℕ → List ℕ → ℕ → Ending

-- Either the text was written, and after it the line on the error output, or the output failed after a prefix of the
-- text. In that case the status is 4, and nothing more is printed.
pub record Tells (text line : List ℕ) (wanted : ℕ) (exit : Exit) : Type 0 where
  pub fails : Bool
  pub told : exit.out.before.has_failed ≡ false → exit.out.after.has_failed ≡ fails
  pub sent : MatchBool fails
      ((exit.status ≡ 4) × AppendsFront exit.out.before.held exit.out.after.held text × IsUntouched exit.err)
      (Appends exit.out.before.held exit.out.after.held text × Prints exit.err line wanted exit.status)

-- A run ended in this way.
abbrev pub EndsAs : Ending → Exit → Type 0
EndsAs (on_output text wanted) exit = Prints exit.out text wanted exit.status × IsUntouched exit.err
EndsAs (on_error line wanted) exit = IsUntouched exit.out × Prints exit.err line wanted exit.status
EndsAs (on_both text line wanted) exit = Tells text line wanted exit
