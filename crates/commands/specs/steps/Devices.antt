-- The devices of a run, and which of them fail.
use Rattle.std.specs.Prelude.{◌≡◌, ◌⊎◌, ⊤, ℕ, Bool, true, false, List, [], ◌∷◌}

-- whether a device had failed before a run, and whether it has failed after it
pub record Device : Type 0 where
  pub before : Bool
  pub after : Bool

abbrev pub device_seen : {S : Type 0} → (S → Bool) → S → S → Device
device_seen has_failed old new = record { before = has_failed old; after = has_failed new }

-- None of these devices had failed before the run.
abbrev pub AreFresh : List Device → Type 0
AreFresh [] = ⊤
AreFresh (d ∷ ds) = (d.before ≡ false) × AreFresh ds

-- One of these devices has failed after the run.
abbrev pub OneFails : List Device → Type 0
OneFails [] = ⊥
OneFails (d ∷ ds) = (d.after ≡ true) ⊎ OneFails ds

-- The status is 4 only if one of these devices fails in the run, unless one had failed before.
abbrev pub OnlyByDevices : ℕ → List Device → Type 0
OnlyByDevices status devices = status ≡ 4 → AreFresh devices → OneFails devices
