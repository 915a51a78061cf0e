-- The records and instances of trees (ISO 10303-21, 8 and 11).
use Rattle.std.specs.Prelude.{ℕ, Bool, true, false, if◌then◌else◌, List, [], ◌∷◌, map}
use Rattle.step_structures.specs.Words.{keyword}
use Rattle.step_structures.specs.Trees.{Tree, leaf, none, Record, Form, internal, external, ExchangeRow}
use Rattle.step_records.specs.Cells.{all_of}
use Rattle.step_records.specs.Params.{parts_of, keyword_of}

-- a keyword, then parameters
abbrev pub record_of : List Tree → Record
record_of [] = record { keyword = []; values = none }
record_of (k ∷ xs) = record { keyword = keyword_of k; values = all_of xs }

abbrev pub record_in : Tree → Record
record_in x = record_of (parts_of x)

abbrev pub begins_with_keyword : List Tree → Bool
begins_with_keyword (leaf (keyword text) ∷ xs) = true
begins_with_keyword _ = false

-- a record if a keyword comes first, otherwise partial records
abbrev pub form_of : List Tree → Form
form_of xs = if begins_with_keyword xs then internal (record_of xs) else external (map record_in xs)

abbrev pub form_in : Tree → Form
form_in x = form_of (parts_of x)

-- instances with these names, and the forms of these trees
abbrev pub rows_with : List ℕ → List Tree → List ExchangeRow
rows_with (n ∷ ns) (x ∷ xs) = record { name = n; form = form_in x } ∷ rows_with ns xs
rows_with _ _ = []
