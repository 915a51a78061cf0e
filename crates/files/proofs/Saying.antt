-- The words of lines.
use Rattle.std.proofs.Common.{◌≡◌, ℕ, ◌++◌, true, refl}
use Rattle.std.specs.Prelude.{codes, decimal}
use Rattle.files.specs.Lines.{count_text, is_counted}
use Rattle.files.specs.declared.fault.Role.{Role}

pub count_told : (role : Role) (written : ℕ) → is_counted role ≡ true
    → codes " after " ++ decimal written ++ codes " bytes" ≡ count_text role written
count_told role written e = rw e refl
