-- The entities that a choice names, by the numbers of their declarations.
use Rattle.std.specs.Prelude.{◌≡◌, ℕ, Bool, true, false, ◌||◌, cond, IsTrue, List, map, get_or, Some, String, string_bytes, bytes_eq, codes}
use Rattle.std.specs.List.{list_any}
use Rattle.step_literals.specs.Words.{upper}
use Rattle.express_syntax.specs.Schemas.{Schema, Declaration, type, entity, skipped, Entity}
use Rattle.express_syntax.specs.declared.fault.NameFault.TheVariants.{UnknownName}
use Rattle.express_syntax.specs.declared.fault.SchemaFault.{SchemaFault}
use Rattle.express_syntax.specs.declared.fault.SchemaFault.TheVariants.{Text, Name as Faulted, Memory}
use Rattle.schema_semantics.specs.Names.{Name, IsEntity}
use Rattle.schema_names.specs.Numbers.{HasNumber, IsAt}
use Rattle.schema_names.specs.Schemas.{the_schema}
use Rattle.schema_names.specs.declared.names.Names as names
use Rattle.conformance.specs.OtherNames.{other_names}
use Rattle.conformance.specs.ParameterFits.{is_listed}
use Rattle.conformance.specs.Choices as choices
use Rattle.conformance.specs.Choices.{ChosenNames, usual, given, MergeOptions, unknown_choice}
use Rattle.conformance.specs.Presets.{usual_names, style_names, geometry_names}
use Rattle.merge_choices.specs.declared.choice.Names.{Names}
use Rattle.merge_choices.specs.declared.choice.Names.TheVariants.{Usual, Given}
use Rattle.merge_choices.specs.declared.choice.Choice.{Choice}
use Rattle.merge_choices.specs.declared.choice.Chosen.{Chosen}

abbrev pub in_capitals : {Z : Type 0} → String Z → Name
in_capitals text = upper (string_bytes text)

abbrev pub names_of : Names → ChosenNames
names_of Usual = usual
names_of (Given names) = given (map string_bytes names.items)

-- the choice that a value of the program represents
abbrev pub choice_of : Choice → choices.Choice
choice_of c = record {
  names = names_of c.names;
  in_sets = c.in_sets;
  other_names = map string_bytes c.other_names.items;
}

-- whether a word, in capitals, is a preset
abbrev pub is_preset : List ℕ → Bool
is_preset word =
    bytes_eq word (codes "@POINTS") || (bytes_eq word (codes "@STYLES")
    || (bytes_eq word (codes "@GEOMETRY") || bytes_eq word (codes "@ALL")))

-- whether a word, in capitals, chooses the entity with this name, whether or not a schema has it
abbrev pub chosen_by : Name → List ℕ → Bool
chosen_by n word =
    cond (bytes_eq word (codes "@POINTS")) (is_listed n usual_names)
    (cond (bytes_eq word (codes "@STYLES")) (is_listed n style_names)
    (cond (bytes_eq word (codes "@GEOMETRY")) (is_listed n usual_names || is_listed n geometry_names)
    (cond (bytes_eq word (codes "@ALL")) true (bytes_eq n word))))

-- whether the names choose the entity with this name, whether or not a schema has it
abbrev pub is_chosen_name : ChosenNames → Name → Bool
is_chosen_name usual n = is_listed n usual_names
is_chosen_name (given words) n = list_any (chosen_by n) (map upper words)

-- whether the declaration is an entity of this name
abbrev pub has_name : Name → Declaration → Bool
has_name n (type t) = false
has_name n (entity e) = bytes_eq n e.name
has_name n (skipped p) = false

-- whether the declaration is an entity that the names choose
abbrev pub is_marked : ChosenNames → Declaration → Bool
is_marked names (type t) = false
is_marked names (entity e) = is_chosen_name names e.name
is_marked names (skipped p) = false

-- whether the number is chosen; false for a number that no declaration has
abbrev pub is_chosen : Chosen → ℕ → Bool
is_chosen c i = get_or c.marks.items i false

-- An entity is chosen exactly if its name is one of these.
abbrev pub AreMarked : Schema → List Name → Chosen → Type 0
AreMarked s names c = (n : Name) (i : ℕ) → IsEntity s n → HasNumber s n i → is_chosen c i ≡ is_listed n names

-- These entities are chosen, and the choice says the same of SETs and BAGs of one value.
abbrev pub AreChosen : Schema → MergeOptions → Chosen → Type 0
AreChosen s those c = AreMarked s those.entities c × (c.in_sets ≡ those.in_sets)

-- These are the options of a merge of the chosen entities, if the file may call the schema by these other names.
abbrev pub AreOptions : Schema → List Name → MergeOptions → Chosen → Type 0
AreOptions s others those c = AreChosen s those c × (those.other_names ≡ others)

-- These are the options of a merge of the chosen entities of the schema to which the names belong.
abbrev pub AreOptionsOf : names.Names → MergeOptions → Chosen → Type 0
AreOptionsOf n those c = AreOptions (the_schema n) (other_names n.schema.now) those c

-- The declaration at each chosen number is an entity.
abbrev pub AreOfEntities : Schema → Chosen → Type 0
AreOfEntities s c = (i : ℕ) → IsTrue (is_chosen c i) → (x : Entity) × IsAt s i (entity x)

-- The fault names the first given name that is no entity, in capitals; or memory ran out.
abbrev pub IsChoiceFault : Schema → choices.Choice → SchemaFault → Type 0
IsChoiceFault s choice (Text k place) = ⊥
IsChoiceFault s choice (Faulted kind text) = (kind ≡ UnknownName) × (unknown_choice s choice ≡ Some (string_bytes text))
IsChoiceFault s choice Memory = Unit {0}
