-- What `presets` prints.
use Rattle.std.specs.Prelude.{◌⊎◌, List, [], ◌∷◌, ◌++◌, ℕ, flat_map, codes}
use Rattle.schema_semantics.specs.Names.{Name}
use Rattle.conformance.specs.Presets.{usual_names, style_names, geometry_names}
use Rattle.command_line.specs.declared.command_words.Refusal.TheVariants.{Memory}
use Rattle.commands.specs.Endings.{EndsAs, Exit, on_output}
use Rattle.commands.specs.Runs.{Refuses}

-- the line of a preset, and an indented line for each name that it has
abbrev pub preset_text : List ℕ → List Name → List ℕ
preset_text preset names = preset ++ (codes "\n" ++ flat_map (λ (n : Name). codes "  " ++ (n ++ codes "\n")) names)

-- The presets, as far as a schema has their names. `@all` has every entity of the schema.
abbrev pub presets_text : List ℕ
presets_text =
    preset_text (codes "@points") usual_names ++ (preset_text (codes "@styles") style_names
    ++ (preset_text (codes "@geometry") (usual_names ++ geometry_names) ++ codes "@all\n  every entity of the schema\n"))

-- The presets were listed, or memory ran out before.
abbrev pub ListsPresets : Exit → Type 0
ListsPresets exit = EndsAs (on_output presets_text 0) exit ⊎ Refuses Memory exit
