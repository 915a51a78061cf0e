-- The options of a merge: the chosen entities, what stands alone in a SET or BAG, and other names of the
-- schema.
use Rattle.std.specs.Prelude.{ℕ, Bool, not, ◌||◌, cond, List, [], ◌∷◌, ◌++◌, map, filter, find, flat_map, Option, Some, None, is_some, unwrap_or, codes, bytes_eq}
use Rattle.step_literals.specs.Words.{upper}
use Rattle.express_syntax.specs.Schemas.{Schema}
use Rattle.schema_semantics.specs.Names.{Name}
use Rattle.conformance.specs.ParameterFits.{entity_names, is_entity}
use Rattle.conformance.specs.Presets.{usual_names, style_names, geometry_names}

-- The choice of these entities: the usual names, or given words.
pub data ChosenNames : Type 0 where
  usual : ChosenNames
  given : List (List ℕ) → ChosenNames

-- What a user chooses: entities, whether what stands alone in a SET or BAG may be merged too, and other
-- names by which the file may call the schema.
pub record Choice : Type 0 where
  pub names : ChosenNames
  pub in_sets : Bool
  pub other_names : List Name

-- The options of a merge by a schema. Instances of these entities may be merged. If `in_sets` is true,
-- these may stand in a SET or BAG of one value. The file may call the schema by these other names.
pub record MergeOptions : Type 0 where
  pub entities : List Name
  pub in_sets : Bool
  pub other_names : List Name

-- The names that are entities of the schema.
abbrev pub present : Schema → List Name → List Name
present s names = filter (is_entity s) names

-- The entities of a preset, if the word, in capitals, is one.
abbrev pub preset : Schema → List ℕ → Option (List Name)
preset s word =
    cond (bytes_eq word (codes "@POINTS")) (Some (present s usual_names))
    (cond (bytes_eq word (codes "@STYLES")) (Some (present s style_names))
    (cond (bytes_eq word (codes "@GEOMETRY")) (Some (present s (usual_names ++ geometry_names)))
    (cond (bytes_eq word (codes "@ALL")) (Some (entity_names s)) None)))

-- The names that a word, in capitals, chooses: those of the preset, or itself.
abbrev pub names_by : Schema → List ℕ → List Name
names_by s word = unwrap_or (preset s word) (word ∷ [])

-- The chosen names, in capitals. Names of presets that aren't entities of the schema are left out.
abbrev pub chosen_names : Schema → ChosenNames → List Name
chosen_names s usual = present s usual_names
chosen_names s (given words) = flat_map (names_by s) (map upper words)

-- The first given word that is neither a preset nor an entity of the schema, if any.
abbrev pub unknown_name : Schema → ChosenNames → Option Name
unknown_name s usual = None
unknown_name s (given words) = find (λ n. not (is_some (preset s n) || is_entity s n)) (map upper words)

abbrev pub unknown_choice : Schema → Choice → Option Name
unknown_choice s choice = unknown_name s choice.names

abbrev pub merge_options : Schema → Choice → MergeOptions
merge_options s choice = record {
  entities = chosen_names s choice.names;
  in_sets = choice.in_sets;
  other_names = choice.other_names;
}
