-- The effect of a printer on the text that it is given.
use Rattle.std.specs.Prelude.{◌≡◌, ℕ, ◌+◌, ◌-◌, ◌^◌, min, max, Bool, true, false, List, [], ◌++◌, length, Option, Result, MatchBool, MatchResult}
use Rattle.std.specs.Io.KnownBytes.{Appends}
use Rattle.devices.specs.declared.device.WriteFault.{WriteFault}

-- A printer as callers see it: the bytes in its buffer, the number of bytes written (at most 2^64 - 1), and
-- whether it has stopped.
pub record Printing : Type 0 where
  pub waiting : List ℕ
  pub written : ℕ
  pub stopped : Bool

-- a printer that was given nothing yet
abbrev pub fresh : Printing
fresh = record { waiting = []; written = 0; stopped = false }

-- the count after these bytes were written; it stops growing at 2^64 - 1
abbrev pub counted : ℕ → List ℕ → ℕ
counted count sent = min (count + length sent) (max count (2 ^ 64 - 1))

-- The bytes sent and then those left are the bytes that waited and then the text.
pub record Sends (old new : Option (List ℕ)) (waiting : List ℕ) (before after : ℕ) (text left : List ℕ) : Type 0 where
  pub sent : List ℕ
  pub whole : waiting ++ text ≡ sent ++ left
  pub told : Appends old new sent
  pub count : after ≡ counted before sent

-- all of the text was written or is in the buffer
abbrev pub Whole : Option (List ℕ) → Option (List ℕ) → Printing → Printing → List ℕ → Type 0
Whole old new p q text = Sends old new p.waiting p.written q.written text q.waiting

-- a prefix of the buffer and the text was written
abbrev pub Cut : Option (List ℕ) → Option (List ℕ) → Printing → Printing → List ℕ → Type 0
Cut old new p q text = (left : List ℕ) × Sends old new p.waiting p.written q.written text left

-- The text is printed to a sink that holds bytes and may fail. If the printer had stopped, nothing happens.
-- Otherwise all of the text is written or buffered, or a prefix of it is written and the printer stops. The
-- printer has stopped exactly if the sink has failed, provided that this held before.
pub record Prints {S : Type 0} (held : S → Option (List ℕ)) (failed : S → Bool) (a b : S) (p q : Printing)
    (text : List ℕ) : Type 0 where
  pub idle : p.stopped ≡ true → (q ≡ p) × (b ≡ a)
  pub runs : p.stopped ≡ false → MatchBool q.stopped (Cut (held a) (held b) p q text) (Whole (held a) (held b) p q text)
  pub agrees : failed a ≡ p.stopped → failed b ≡ q.stopped

-- The result of printing: Ok if the buffer is empty, otherwise the fault with the count of bytes written.
abbrev pub Answers : Printing → Result Unit WriteFault → Type 0
Answers q result = MatchResult result (λ _. (q.stopped ≡ false) × (q.waiting ≡ [])) (λ fault. (q.stopped ≡ true)
    × (fault.written ≡ q.written))

-- The buffer is written, and the result reports whether that succeeded.
pub record Finishes {S : Type 0} (held : S → Option (List ℕ)) (failed : S → Bool) (a b : S) (p : Printing)
    (result : Result Unit WriteFault) : Type 0 where
  pub last : Printing
  pub prints : Prints held failed a b p last []
  pub answers : Answers last result
