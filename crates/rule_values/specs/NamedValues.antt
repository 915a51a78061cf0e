-- The types that names stand for, in a map from words.
use Rattle.std.specs.Prelude.{ℕ, Bool, false, List, Option, None, Some, unwrap_or, bytes_eq, slice_get}
use Rattle.std.specs.HashMap.{HashMap}
use Rattle.indexmap.specs.IndexMap.{get_by}
use Rattle.step_literals.specs.declared.literal.Word.{Word}
use Rattle.step_values.specs.Views.{word_of}
use Rattle.express_syntax.specs.Schemas.{Schema, Declaration}
use Rattle.schema_semantics.specs.Names.{Name, declared_name, is_named}
use Rattle.schema_underlying_types.specs.declared.base.Base.{Base}
use Rattle.schema_underlying_types.specs.declared.base.Base.TheVariants.{Integer}
use Rattle.schema_underlying_types.specs.BaseEntries.{entry}

-- the number of a name, whatever the case of the letters of the word
abbrev pub found : {S : Type 0} → HashMap Word ℕ S → Name → Option ℕ
found m n = get_by (λ w. bytes_eq n (word_of w)) m

abbrev pub or_integer : Option Base → Base
or_integer o = unwrap_or o Integer

-- the entry of a declaration, if there is one
abbrev pub entry_in : List Base → Option ℕ → Option Base
entry_in declared None = None
entry_in declared (Some i) = Some (entry declared i)

abbrev pub names : Option Declaration → Name → Bool
names None n = false
names (Some d) n = is_named n (declared_name d)

-- the declaration numbered i has the name n
abbrev pub names_entry : Schema → ℕ → Name → Bool
names_entry s i n = names (slice_get s.declarations i) n
