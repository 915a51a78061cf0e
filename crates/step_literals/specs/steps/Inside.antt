-- A piece with several characters, some of which are already read.
use Rattle.std.specs.Prelude.{ℕ, Bool, true, ◌&&◌, nat_le, List, if◌then◌else◌}
use Rattle.std.specs.Str.{is_utf8}
use Rattle.step_literals.specs.steps.Characters.{high_run}
use Rattle.step_literals.specs.declared.literal.rest.Inside.{Inside}
use Rattle.step_literals.specs.declared.literal.rest.Inside.TheVariants.{Nothing, Groups, Characters, Bytes}

-- a clean string can continue inside of this piece
abbrev pub is_sound : Inside → List ℕ → Bool
is_sound Nothing bs = true
is_sound (Groups w) bs = nat_le 1 w && nat_le w 8
is_sound Characters bs = is_utf8 (high_run bs)
is_sound Bytes bs = true

-- a run of bytes from 128 up continues as UTF-8 or as bytes, whichever it is
abbrev pub run_inside : List ℕ → Inside
run_inside bs = if is_utf8 (high_run bs) then Characters else Bytes
