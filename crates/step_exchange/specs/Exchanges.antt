-- The exchange structure of a program's value, and its normal text.
use Rattle.std.specs.Prelude.{◌≡◌, ◌<◌, ◌^◌, ◌==◌, ℕ, List, map, length}
use Rattle.std.specs.List.{IsDistinct}
use Rattle.step_exchange.specs.declared.structure.Exchange.{Exchange}
use Rattle.step_structures.specs.Trees.{File, ExchangeRow, rows_of}
use Rattle.step_structures.specs.Normal.{plain_text}
use Rattle.step_exchange.specs.Sections.{file_of}

-- the structure that was read
abbrev pub structure : Exchange → File
structure x = file_of x.header_len x.trees x.names x.sections.items

-- the normal text of the structure that was read
abbrev pub normal_text : Exchange → List ℕ
normal_text x = plain_text x.header_bytes.now (structure x).sections

-- what was read is this structure, with these header bytes
abbrev pub IsExchange : List ℕ → File → Exchange → Type 0
IsExchange header_bytes file x = (x.header_bytes.now ≡ header_bytes) × (structure x ≡ file)

-- The names of a structure that was read are those of its instances, in order. They are distinct, and there are
-- fewer than 2^32.
abbrev pub ExchangesAreNamed : Type 0
ExchangesAreNamed = (x : Exchange) → (map (λ (r : ExchangeRow). r.name) (rows_of (structure x).sections) ≡ x.names)
    × IsDistinct (◌==◌) x.names × (length x.names < 2 ^ 32)
