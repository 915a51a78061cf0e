-- Rows of what was found, by their ids.
use Rattle.std.proofs.Common.{◌≡◌, ◌∙◌, ◌||◌, ◌++◌, List, [], ◌∷◌, Option, Some, None, Bool, true, false, cond, refl, ap, append-nil, option_map, true≢false}
use Rattle.std.specs.Prelude.{find, is_some, option_and_then, slice_get}
use Rattle.std.specs.Str.{bytes_eq}
use Rattle.clap.specs.Walk.{Row, Text, at_row, first_of, has_row, more_values, with_values, without}
use Rattle.clap.specs.declared.builder.value_parser.Reading.TheVariants as reading
use Rattle.clap.specs.declared.parser.matches.ValueSource.TheVariants.{CommandLine}

-- the row of this id
abbrev pub found : Text → List Row → Option Row
found id rows = find (λ r. bytes_eq r.id id) rows

-- the row of an argument whose value stands in the words
abbrev pub given_row : Text → Text → Row
given_row id text = record {
  id = id;
  values = text ∷ [];
  count = None;
  source = Some CommandLine;
  reading = reading.AsWritten;
}

some_row : (r : Row) → Some r ≡ None → ⊥
some_row r e = true≢false (ap is_some e)

pub at_end : (id : Text) (change : Row → List Row) (missing rows : List Row) → found id rows ≡ None
    → at_row id change missing rows ≡ rows ++ missing
at_end id change missing [] none = refl
at_end id change missing (r ∷ rs) none = go (bytes_eq r.id id) (at_end id change missing rs) none
  where
    go : (b : Bool) → (found id rs ≡ None → at_row id change missing rs ≡ rs ++ missing)
        → cond b (Some r) (found id rs) ≡ None
        → cond b (change r ++ rs) (r ∷ at_row id change missing rs) ≡ r ∷ (rs ++ missing)
    go true e hit = absurd (some_row r hit)
    go false e miss = ap (λ ws. r ∷ ws) (e miss)

pub has_found : (id : Text) (rows : List Row) → has_row id rows ≡ is_some (found id rows)
has_found id [] = refl
has_found id (r ∷ rs) = go (bytes_eq r.id id) (has_found id rs)
  where
    go : (b : Bool) → has_row id rs ≡ is_some (found id rs)
        → (b || has_row id rs) ≡ is_some (cond b (Some r) (found id rs))
    go true e = refl
    go false e = e

-- a row more is of no other id
pub found_kept : (id : Text) (rows : List Row) (row : Row) → bytes_eq row.id id ≡ false
    → found id (rows ++ row ∷ []) ≡ found id rows
found_kept id [] row other = ap (λ b. cond b (Some row) None) other
found_kept id (r ∷ rs) row other = ap (λ o. cond (bytes_eq r.id id) (Some r) o) (found_kept id rs row other)

pub found_new : (id : Text) (rows : List Row) (row : Row) → bytes_eq row.id id ≡ true → found id rows ≡ None
    → found id (rows ++ row ∷ []) ≡ Some row
found_new id [] row same none = ap (λ b. cond b (Some row) None) same
found_new id (r ∷ rs) row same none = go (bytes_eq r.id id) (found_new id rs row same) none
  where
    go : (b : Bool) → (found id rs ≡ None → found id (rs ++ row ∷ []) ≡ Some row)
        → cond b (Some r) (found id rs) ≡ None → cond b (Some r) (found id (rs ++ row ∷ [])) ≡ Some row
    go true e hit = absurd (some_row r hit)
    go false e miss = e miss

-- the first use of an argument adds a row
pub used_fresh : (id text : Text) (rows : List Row) → found id rows ≡ None
    → with_values id reading.AsWritten CommandLine (text ∷ []) (without id rows) ≡ rows ++ given_row id text ∷ []
used_fresh id text rows none =
    ap (with_values id reading.AsWritten CommandLine (text ∷ []))
    (at_end id (λ _. []) [] rows none ∙ append-nil rows) ∙ at_end id (more_values CommandLine (text ∷ [])) (given_row id text ∷ []) rows none

-- what is read of such a row
pub first_given : (id : Text) (rows : List Row) (o : Option Text) → found id rows ≡ option_map (given_row id) o
    → first_of id rows ≡ o
first_given id rows o is = ap (option_and_then (λ (r : Row). slice_get r.values 0)) is ∙ read o
  where
    read : (o : Option Text) → option_and_then (λ (r : Row). slice_get r.values 0) (option_map (given_row id) o) ≡ o
    read None = refl
    read (Some text) = refl
