-- The text of the smaller file, and the result of `rewrite`.
use Rattle.std.specs.Prelude.{ℕ, List, Option, Result, Ok, Err, Bool, true, false, map}
use Rattle.std.specs.Io.KnownBytes.{Appends, Keeps}
use Rattle.devices.specs.Emits.{EmitsFront}
use Rattle.value_equality.specs.Images.{head_of}
use Rattle.value_equality.specs.Tables.{Table, shares}
use Rattle.step_exchange.specs.Exchanges.{structure}
use Rattle.step_exchange.specs.declared.structure.Exchange.{Exchange}
use Rattle.step_structures.specs.MergedTexts.{merged_text}
use Rattle.merge_output.specs.declared.fault.RewriteFault.{RewriteFault}
use Rattle.merge_output.specs.declared.fault.RewriteFault.TheVariants.{Device, Memory}

-- the members of a table
abbrev pub members : Table → List ℕ
members t = map (λ m. m.0) t.members

-- the first member of the class of a name at the last round; the name itself if it is in no class
abbrev pub first_of_class : Table → ℕ → ℕ
first_of_class t y = head_of (members t) (shares t t.rounds) y

-- the normal text of an exchange structure that keeps only the first instance of each class, with
-- each reference to the first instance of its class
abbrev pub smaller_text : Exchange → Table → List ℕ
smaller_text x t = merged_text (first_of_class t) x.header_bytes.now (structure x).sections

-- Ok: the whole text was written. Otherwise a prefix of it was written, whose length the fault has,
-- or nothing.
abbrev pub Rewrites : Option (List ℕ) → Option (List ℕ) → List ℕ → Result Unit RewriteFault → Type 0
Rewrites old new text (Ok _) = Appends old new text
Rewrites old new text (Err (Device written)) = EmitsFront old new text written
Rewrites old new text (Err Memory) = Keeps old new

-- whether the fault is one of the device
abbrev pub is_device : Result Unit RewriteFault → Bool
is_device (Err (Device written)) = true
is_device r = false
