-- The result of a function that writes a text.
use Rattle.std.specs.Prelude.{◌≡◌, ℕ, ◌-◌, ◌^◌, min, List, ◌++◌, length, Option, Result, MatchResult}
use Rattle.std.specs.Io.KnownBytes.{Appends}
use Rattle.devices.specs.declared.device.WriteFault.{WriteFault}

-- A prefix of the text was written, and `written` is its length, at most 2^64 - 1.
pub record EmitsFront (old new : Option (List ℕ)) (text : List ℕ) (written : ℕ) : Type 0 where
  pub sent : List ℕ
  pub left : List ℕ
  pub front : text ≡ sent ++ left
  pub told : Appends old new sent
  pub count : written ≡ min (length sent) (2 ^ 64 - 1)

-- Ok: the whole text was written. Err: a prefix was written, and the fault has its length.
abbrev pub Emits : Option (List ℕ) → Option (List ℕ) → List ℕ → Result Unit WriteFault → Type 0
Emits old new text result = MatchResult result (λ _. Appends old new text)
    (λ fault. EmitsFront old new text fault.written)
