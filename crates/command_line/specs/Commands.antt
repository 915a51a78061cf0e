-- The arguments of the command line.
use Rattle.std.specs.Prelude.{◌≡◌, ◌==◌, ◌||◌, ◌&&◌, ℕ, List, [], ◌∷◌, ◌++◌, String, Bool, true, false, not, Option, Some, None, codes, get_or, if◌then◌else◌, length, map, string_bytes}
use Rattle.std.specs.Char.{to_ascii_lowercase}
use Rattle.std.specs.List.{list_any, slice_split}
use Rattle.std.specs.Str.{bytes_eq}

-- the bytes of each argument
abbrev pub texts : {Z : Type 0} → List (String Z) → List (List ℕ)
texts words = map string_bytes words

-- The argument isn't an option: it doesn't begin with a hyphen (45), or is a hyphen alone.
abbrev pub IsOperand : List ℕ → Type 0
IsOperand (first ∷ second ∷ rest) = first ≡ 45 → ⊥
IsOperand word = Unit {0}

-- the argument after which each argument is an operand
abbrev pub dashes : List ℕ
dashes = codes "--"

-- the commands
pub data Command : Type 0 where
  plain_command : Command
  check_command : Command
  shrink_command : Command
  verify_command : Command
  presets_command : Command

abbrev pub command_name : Command → List ℕ
command_name plain_command = codes "plain"
command_name check_command = codes "check"
command_name shrink_command = codes "shrink"
command_name verify_command = codes "verify"
command_name presets_command = codes "presets"

-- the names of a command's operands, in order
abbrev pub operand_names : Command → List (List ℕ)
operand_names plain_command = codes "FILE" ∷ []
operand_names check_command = codes "SCHEMA" ∷ codes "FILE" ∷ []
operand_names shrink_command = codes "SCHEMA" ∷ codes "FILE" ∷ codes "OUT" ∷ codes "CERT" ∷ []
operand_names verify_command = codes "SCHEMA" ∷ codes "FILE" ∷ codes "OUT" ∷ codes "CERT" ∷ []
operand_names presets_command = []

-- the options with a value
pub data Valued : Type 0 where
  merge_option : Valued
  alias_option : Valued

abbrev pub value_name : Valued → List ℕ
value_name merge_option = codes "merge"
value_name alias_option = codes "schema-alias"

-- the options without a value
pub data Flag : Type 0 where
  in_sets_flag : Flag
  strict_flag : Flag

abbrev pub flag_name : Flag → List ℕ
flag_name in_sets_flag = codes "in-sets"
flag_name strict_flag = codes "strict"

-- whether a command takes this option
abbrev pub takes_value : Command → Valued → Bool
takes_value check_command alias_option = true
takes_value shrink_command option = true
takes_value verify_command option = true
takes_value command option = false

abbrev pub takes_flag : Command → Flag → Bool
takes_flag shrink_command flag = true
takes_flag verify_command in_sets_flag = true
takes_flag command flag = false

-- the values of `--merge` and `--schema-alias`, and whether `--in-sets` and `--strict` are present
pub record Options : Type 0 where
  pub merge : Option (List ℕ)
  pub schema_alias : Option (List ℕ)
  pub in_sets : Bool
  pub strict : Bool

abbrev pub no_options : Options
no_options = record { merge = None; schema_alias = None; in_sets = false; strict = false }

abbrev pub value_of : Valued → Options → Option (List ℕ)
value_of merge_option options = options.merge
value_of alias_option options = options.schema_alias

abbrev pub has_flag : Flag → Options → Bool
has_flag in_sets_flag options = options.in_sets
has_flag strict_flag options = options.strict

-- the options, with this value
abbrev pub with_option : Valued → List ℕ → Options → Options
with_option merge_option names options = record options { merge = Some names }
with_option alias_option names options = record options { schema_alias = Some names }

-- the options, with this flag
abbrev pub with_flag : Flag → Options → Options
with_flag in_sets_flag options = record options { in_sets = true }
with_flag strict_flag options = record options { strict = true }

-- what arguments give: operands in order, and options
pub record Given : Type 0 where
  pub operands : List (List ℕ)
  pub options : Options

abbrev pub given_as : List (List ℕ) → Options → Given
given_as operands options = record { operands = operands; options = options }

-- `Gives before words after`: what was given is `before`, and `after` once `words` are added. Operands and options
-- come in any order, each option at most once, and after `--` there are only operands. A value is the next argument,
-- or stands in the same one after `=` (61).
pub data Gives : Given → List (List ℕ) → Given → Type 0 where
  nothing : {all : Given} → Gives all [] all
  one_operand : {operands : List (List ℕ)} {options : Options} {after : Given} {word : List ℕ}
      {rest : List (List ℕ)} → IsOperand word
      → Gives (given_as (operands ++ word ∷ []) options) rest after
      → Gives (given_as operands options) (word ∷ rest) after
  one_flag : {operands : List (List ℕ)} {options : Options} {after : Given} {rest : List (List ℕ)} (flag : Flag)
      → has_flag flag options ≡ false
      → Gives (given_as operands (with_flag flag options)) rest after
      → Gives (given_as operands options) ((dashes ++ flag_name flag) ∷ rest) after
  one_value : {operands : List (List ℕ)} {options : Options} {after : Given} {value : List ℕ}
      {rest : List (List ℕ)} (option : Valued) → value_of option options ≡ None → IsOperand value
      → Gives (given_as operands (with_option option value options)) rest after
      → Gives (given_as operands options) ((dashes ++ value_name option) ∷ value ∷ rest) after
  one_joined : {operands : List (List ℕ)} {options : Options} {after : Given} {rest : List (List ℕ)}
      (option : Valued) (value : List ℕ) → value_of option options ≡ None
      → Gives (given_as operands (with_option option value options)) rest after
      → Gives (given_as operands options) ((dashes ++ (value_name option ++ 61 ∷ value)) ∷ rest) after
  only_operands : {operands : List (List ℕ)} {options : Options} {more : List (List ℕ)}
      → Gives (given_as operands options) (dashes ∷ more) (given_as (operands ++ more) options)

-- The command has no option that it doesn't take.
abbrev pub TakesOptions : Command → Options → Type 0
TakesOptions command options =
    ((option : Valued) → takes_value command option ≡ false → value_of option options ≡ None)
    × ((flag : Flag) → takes_flag command flag ≡ false → has_flag flag options ≡ false)

-- The arguments name this command, and those after it give this: as many operands as the command has, and options
-- that it takes.
abbrev pub AreOfCommand : List (List ℕ) → Command → Given → Type 0
AreOfCommand words command all = (program : List ℕ) × (rest : List (List ℕ))
    × (words ≡ program ∷ command_name command ∷ rest) × Gives (given_as [] no_options) rest all
    × (length all.operands ≡ length (operand_names command)) × TakesOptions command all.options

-- the pieces of NAMES between its commas (44)
abbrev pub pieces : List ℕ → List (List ℕ)
pieces names = slice_split (λ byte. byte == 44) names

-- one of the names in NAMES is empty
abbrev pub has_empty_name : Option (List ℕ) → Bool
has_empty_name None = false
has_empty_name (Some names) = list_any (λ name. length name == 0) (pieces names)

-- whether two words are equal, regardless of case
abbrev pub is_same_word : List ℕ → List ℕ → Bool
is_same_word word other = bytes_eq (map to_ascii_lowercase word) (map to_ascii_lowercase other)

-- the word is the name of a preset
abbrev pub is_preset : List ℕ → Bool
is_preset word =
    is_same_word word (codes "@points") || (is_same_word word (codes "@styles")
    || (is_same_word word (codes "@geometry") || is_same_word word (codes "@all")))

-- the word begins with `@` (64), and isn't the name of a preset
abbrev pub is_unknown_preset : List ℕ → Bool
is_unknown_preset word = (get_or word 0 0 == 64) && not (is_preset word)

-- one of the names in NAMES begins with `@`, and isn't the name of a preset
abbrev pub has_unknown_preset : Option (List ℕ) → Bool
has_unknown_preset None = false
has_unknown_preset (Some names) = list_any is_unknown_preset (pieces names)

-- the message if two of the paths are equal. OUT may equal FILE, which it replaces. SCHEMA and FILE, which are only
-- read, may be equal too.
abbrev pub path_clash : List (List ℕ) → Option (List ℕ)
path_clash (schema ∷ file ∷ output ∷ certificate ∷ []) =
    if bytes_eq output certificate then Some (codes "error: OUT and CERT are the same\n")
    else (if bytes_eq schema output then Some (codes "error: SCHEMA and OUT are the same\n")
    else (if bytes_eq schema certificate then Some (codes "error: SCHEMA and CERT are the same\n")
    else (if bytes_eq file certificate then Some (codes "error: FILE and CERT are the same\n") else None)))
path_clash operands = None

-- the message if a name is empty, or a name of `--merge` begins with `@` and isn't that of a preset
abbrev pub name_clash : Option (List ℕ) → Option (List ℕ) → Option (List ℕ)
name_clash merge schema_alias =
    if has_empty_name merge then Some (codes "error: a name in NAMES is empty\n")
    else (if has_empty_name schema_alias then Some (codes "error: a name in NAMES is empty\n")
    else (if has_unknown_preset merge then
    Some (codes "error: a preset in NAMES isn't one of @points, @styles, @geometry, @all\n") else None))

-- the first message, otherwise the second
abbrev pub said_first : Option (List ℕ) → Option (List ℕ) → Option (List ℕ)
said_first None second = second
said_first (Some first) second = Some first

-- the message for arguments that clap accepts although they are wrong
abbrev pub clash : Given → Option (List ℕ)
clash all = said_first (path_clash all.operands) (name_clash all.options.merge all.options.schema_alias)

-- The arguments request that this command runs with what they give.
abbrev pub Asks : List (List ℕ) → Command → Given → Type 0
Asks words command all = AreOfCommand words command all × (clash all ≡ None)

-- The arguments, the program's own name first, request the normal text of the file at this path.
abbrev pub AsksPlain : List (List ℕ) → List ℕ → Type 0
AsksPlain words path = Asks words plain_command (given_as (path ∷ []) no_options)

-- The arguments request whether the file at the second path conforms to the schema at the first.
abbrev pub AsksCheck : List (List ℕ) → List ℕ → List ℕ → Options → Type 0
AsksCheck words schema file options = Asks words check_command (given_as (schema ∷ file ∷ []) options)

-- four operands and these options
abbrev pub four : List ℕ → List ℕ → List ℕ → List ℕ → Options → Given
four schema file output certificate options = given_as (schema ∷ file ∷ output ∷ certificate ∷ []) options

-- The arguments request a smaller file at `output` and its certificate at `certificate`.
abbrev pub AsksShrink : List (List ℕ) → List ℕ → List ℕ → List ℕ → List ℕ → Options → Type 0
AsksShrink words schema file output certificate options =
    Asks words shrink_command (four schema file output certificate options)

-- The arguments request whether this certificate proves this output of this file.
abbrev pub AsksVerify : List (List ℕ) → List ℕ → List ℕ → List ℕ → List ℕ → Options → Type 0
AsksVerify words schema file output certificate options =
    Asks words verify_command (four schema file output certificate options)

-- The arguments request the list of presets.
abbrev pub AsksPresets : List (List ℕ) → Type 0
AsksPresets words = Asks words presets_command (given_as [] no_options)

-- The arguments are those of a command, but the program refuses them with this message.
abbrev pub AsksClashing : List (List ℕ) → List ℕ → Type 0
AsksClashing words said = (command : Command) × (all : Given) × AreOfCommand words command all
    × (clash all ≡ Some said)

-- The arguments request something: `plain`, `check`, `shrink`, `verify` or `presets`.
pub data IsAskedFor (words : List (List ℕ)) : Type 0 where
  for_plain : (path : List ℕ) → AsksPlain words path → IsAskedFor words
  for_check : (schema file : List ℕ) (options : Options) → AsksCheck words schema file options → IsAskedFor words
  for_shrink : (schema file output certificate : List ℕ) (options : Options)
      → AsksShrink words schema file output certificate options → IsAskedFor words
  for_verify : (schema file output certificate : List ℕ) (options : Options)
      → AsksVerify words schema file output certificate options → IsAskedFor words
  for_presets : AsksPresets words → IsAskedFor words

-- The arguments request nothing.
abbrev pub AsksNothing : List (List ℕ) → Type 0
AsksNothing words = IsAskedFor words → ⊥
