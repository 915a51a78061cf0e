-- What reading a source to its end returns.
use Rattle.std.specs.Prelude.{◌≡◌, ◌<◌, ◌++◌, ℕ, List, length, Option, IfSome, Bool, true, false, Result, Ok, Err}
use Rattle.std.specs.Io.KnownBytes.{Consumes, IsAtEnd}
use Rattle.files.specs.declared.read.ReadFault.{ReadFault}
use Rattle.files.specs.declared.read.ReadFault.TheVariants.{Device, TooLarge, Memory}

-- the fault is that of the device
abbrev pub is_device : ReadFault → Bool
is_device Device = true
is_device TooLarge = false
is_device Memory = false

-- the result is the fault of the device
abbrev pub device_failed : {T : Type 0} → Result T ReadFault → Bool
device_failed (Ok x) = false
device_failed (Err fault) = is_device fault

-- If each read fails (`true`), the result is the fault of the device. If none does, it isn't. Memory may run out
-- first.
abbrev pub DeviceFailsAs : {T : Type 0} → Result T ReadFault → Bool → Type 0
DeviceFailsAs (Err Memory) each = Unit {0}
DeviceFailsAs result each = device_failed result ≡ each

-- `count` bytes were read and appended to `earlier`: `coming` was to come before the read, `left` is to come after
-- it.
abbrev pub ReadsBehind : Option (List ℕ) → Option (List ℕ) → List ℕ → List ℕ → ℕ → Type 0
ReadsBehind coming left earlier bytes count = (got : List ℕ) × (bytes ≡ earlier ++ got) × (length got ≡ count)
    × Consumes coming left got

-- `bytes` were read, and nothing is left to come.
abbrev pub ReadsWhole : Option (List ℕ) → Option (List ℕ) → List ℕ → Type 0
ReadsWhole coming left bytes = Consumes coming left bytes × IsAtEnd left

-- More bytes than the limit are to come, if the source reveals them.
abbrev pub IsBeyond : ℕ → Option (List ℕ) → Type 0
IsBeyond limit coming = IfSome coming (λ bytes. limit < length bytes)
