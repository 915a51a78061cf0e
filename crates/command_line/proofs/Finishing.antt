-- What clap makes of the words behind a command, in the end.
use Rattle.std.proofs.Common.{◌≡◌, ◌∙◌, ◌≤◌, ◌||◌, ◌++◌, List, [], ◌∷◌, Option, Some, None, Bool, true, false, refl, sym, ap, ap₂, codes, subst, arith, option_map, map}
use Rattle.std.specs.Prelude.{if◌then◌else◌, is_some, length, not, option_and_then, slice_get, take, unwrap_or}
use Rattle.std.specs.List.{fold}
use Rattle.std.specs.Option.{option_map_or}
use Rattle.std.specs.Str.{bytes_eq}
use Rattle.std.proofs.lemmas.Slice.Eq.{bytes_eq-Decides}
use Rattle.clap.specs.Facts.{explicit_source}
use Rattle.clap.specs.Kinds.{Kinds, check_kinds, or_else}
use Rattle.clap.specs.Walk.{Held, Row, Rule, Text, default_rows, finished, first_of, has_row, is_empty, more_values, nothing_held, one_of, reading_by, row_text, rows_after, settled, settled_rows, walk, walk_from, walked, with_default, with_values}
use Rattle.clap.specs.Simple.{entered, filled, help_rule, subcommand_of, with_index, built}
use Rattle.clap.specs.Faults.{check_fault, default_fault, defaults_fault, fault_of, level_fault, settle_fault, walk_fault}
use Rattle.clap.proofs.OnLiterals.{clap_on_literals}
use Rattle.clap.specs.declared.builder.value_parser.Reading.TheVariants as reading
use Rattle.clap.specs.declared.parser.matches.ValueSource.TheVariants.{DefaultValue}
use Rattle.command_line.specs.Clap.{HasGiven, HasValues, stepmin_app}
use Rattle.command_line.specs.Commands.{Command, Flag, Given, Gives, Options, Valued, alias_option, check_command, command_name, flag_name, given_as, has_flag, merge_option, no_options, operand_names, plain_command, presets_command, shrink_command, value_name, value_of, verify_command}
use Rattle.command_line.proofs.Rows.{at_end, found, found_kept, found_new, given_row, has_found}
use Rattle.command_line.proofs.Levels.{Holds, TakesFlag, count, flag_built, flag_taken, level, rules, shrink_in_sets, shrink_strict, stands_nothing, text_at, verify_in_sets}
use Rattle.command_line.proofs.Giving.{Fitting, ends, gives}
use Rattle.command_line.proofs.Walking.{AreTexts, after, fault_after, fold_stopped, names, none_first, none_second, only_first, some_kind, stopped, top, waits, walk_stopped}

-- ---- defaults

no_default : (rows : List Row) (a : Rule) → a.defaults ≡ [] → with_default rows a ≡ rows
no_default rows a none = go (has_row a.id rows)
  where
    go : (b : Bool) → (if b then rows else default_rows a.id (reading_by a) a.defaults rows) ≡ rows
    go true = refl
    go false = ap (λ values. default_rows a.id (reading_by a) values rows) none

no_default_fault : (rows : List Row) (a : Rule) → a.defaults ≡ [] → default_fault rows a ≡ []
no_default_fault rows a none = go _ (has_row a.id rows) (is_empty a.defaults) (ap is_empty none)
  where
    go : (k : Kinds) (b e : Bool) → e ≡ true → (if b || e then [] else k) ≡ []
    go k true e is = refl
    go k false e is = ap (λ e. if e then [] else k) is

-- none of these has a default
abbrev NoDefaults : List Rule → Type 0
NoDefaults [] = Unit {0}
NoDefaults (a ∷ more) = (a.defaults ≡ []) × NoDefaults more

passed : (rows : List Row) (first last : List Rule) → NoDefaults first
    → fold with_default rows (first ++ last) ≡ fold with_default rows last
passed rows [] last none = refl
passed rows (a ∷ more) last none =
    ap (λ r. fold with_default r (more ++ last)) (no_default rows a none.0) ∙ passed rows more last none.1

passed_fault : (rows : List Row) (first last : List Rule) → NoDefaults first
    → defaults_fault rows (first ++ last) ≡ defaults_fault rows last
unfolding defaults_fault
passed_fault rows [] last none = refl
passed_fault rows (a ∷ more) last none =
    ap₂ or_else (no_default_fault rows a none.0) (ap (λ r. defaults_fault r (more ++ last)) (no_default rows a none.0))
    ∙ passed_fault rows more last none.1

-- the names of the flags of a command, which stand behind its other arguments
abbrev flag_names : Command → List Text
flag_names shrink_command = codes "in-sets" ∷ codes "strict" ∷ []
flag_names verify_command = codes "in-sets" ∷ []
flag_names b = []

abbrev ending : List Text → List Rule
ending flags = map flag_built flags ++ with_index 1 (filled help_rule) ∷ []

-- the rules before the flags
abbrev before_flags : Command → List Rule
before_flags plain_command = take 1 (rules plain_command)
before_flags check_command = take 3 (rules check_command)
before_flags shrink_command = take 6 (rules shrink_command)
before_flags verify_command = take 6 (rules verify_command)
before_flags presets_command = []

no_defaults_before : (b : Command) → NoDefaults (before_flags b)
no_defaults_before plain_command = (refl, tt)
no_defaults_before check_command = (refl, (refl, (refl, tt)))
no_defaults_before shrink_command = (refl, (refl, (refl, (refl, (refl, (refl, tt))))))
no_defaults_before verify_command = (refl, (refl, (refl, (refl, (refl, (refl, tt))))))
no_defaults_before presets_command = tt

rules_are : (b : Command) → rules b ≡ before_flags b ++ ending (flag_names b)
rules_are plain_command = refl
rules_are check_command = refl
rules_are shrink_command = refl
rules_are verify_command = refl
rules_are presets_command = refl

abbrev no_kinds : Kinds
no_kinds = []

either_way : (b : Bool) → (if b || false then no_kinds else no_kinds) ≡ no_kinds
either_way true = refl
either_way false = refl

flag_default_fits : (rows : List Row) (name : Text) → default_fault rows (flag_built name) ≡ []
flag_default_fits rows name = either_way (has_row name rows)

ending_fits : (rows : List Row) (flags : List Text) → defaults_fault rows (ending flags) ≡ []
unfolding defaults_fault
ending_fits rows [] = ap (λ k. or_else k []) (no_default_fault rows (with_index 1 (filled help_rule)) refl)
ending_fits rows (name ∷ more) =
    ap₂ or_else (flag_default_fits rows name) (ending_fits (with_default rows (flag_built name)) more)

defaults_fit : (b : Command) (rows : List Row) → defaults_fault rows (rules b) ≡ []
defaults_fit b rows = ap (defaults_fault rows) (rules_are b)
    ∙ passed_fault rows (before_flags b) (ending (flag_names b)) (no_defaults_before b) ∙ ending_fits rows (flag_names b)

-- ---- the rows in the end

abbrev default_row : Text → Row
default_row id = record {
  id = id;
  values = codes "false" ∷ [];
  count = None;
  source = Some DefaultValue;
  reading = reading.AsWritten;
}

-- what is found once a flag has its default
abbrev default_at : Text → (Text → Option Row) → Text → Option Row
default_at name before id = if bytes_eq name id then Some (unwrap_or (before id) (default_row id)) else before id

abbrev defaulted : List Text → (Text → Option Row) → Text → Option Row
defaulted [] before = before
defaulted (name ∷ more) before = defaulted more (default_at name before)

-- this is found in the rows
abbrev Finds : (Text → Option Row) → List Row → Type 0
Finds texts rows = (id : Text) → found id rows ≡ texts id

flag_rows : (name : Text) (rows : List Row) (o : Option Row) → found name rows ≡ o → with_default rows (flag_built name)
    ≡ (if is_some o then rows else with_values name reading.AsWritten DefaultValue (codes "false" ∷ []) rows)
flag_rows name rows o is = ap (λ (b : Bool). if b then rows
    else with_values name reading.AsWritten DefaultValue (codes "false" ∷ []) rows)
    (has_found name rows ∙ ap is_some is)

finds_default : (name : Text) (before : Text → Option Row) (rows : List Row) → Finds before rows
    → Finds (default_at name before) (with_default rows (flag_built name))
finds_default name before rows finds id = go (before name) (finds name) (bytes_eq name id) refl
  where
    go : (o : Option Row) → found name rows ≡ o → (b : Bool) → bytes_eq name id ≡ b
        → found id (with_default rows (flag_built name))
        ≡ (if b then Some (unwrap_or (before id) (default_row id)) else before id)
    go (Some r) has true e =
        let same = (bytes_eq-Decides name id).0 e in
        let here : found id rows ≡ Some r = subst (λ x. found x rows ≡ Some r) same has in
        ap (found id) (flag_rows name rows (Some r) has) ∙ here
        ∙ ap (λ o. Some (unwrap_or o (default_row id))) (sym here ∙ finds id)
    go (Some r) has false e = ap (found id) (flag_rows name rows (Some r) has) ∙ finds id
    go None has true e =
        let same = (bytes_eq-Decides name id).0 e in
        let here : found id rows ≡ None = subst (λ x. found x rows ≡ None) same has in
        ap (found id) (flag_rows name rows None has
        ∙ at_end name (more_values DefaultValue (codes "false" ∷ [])) (default_row name ∷ []) rows has)
        ∙ found_new id rows (default_row name) e here ∙ ap (λ x. Some (default_row x)) same
        ∙ ap (λ o. Some (unwrap_or o (default_row id))) (sym here ∙ finds id)
    go None has false e =
        ap (found id) (flag_rows name rows None has
        ∙ at_end name (more_values DefaultValue (codes "false" ∷ [])) (default_row name ∷ []) rows has)
        ∙ found_kept id rows (default_row name) e ∙ finds id

finds_ending : (flags : List Text) (before : Text → Option Row) (rows : List Row) → Finds before rows
    → Finds (defaulted flags before) (fold with_default rows (ending flags))
finds_ending [] before rows finds id =
    ap (found id) (no_default rows (with_index 1 (filled help_rule)) refl) ∙ finds id
finds_ending (name ∷ more) before rows finds id = finds_ending more (default_at name before)
    (with_default rows (flag_built name)) (finds_default name before rows finds) id

-- the rows of a command at the end
abbrev row_at : Command → Given → Text → Option Row
row_at b all = defaulted (flag_names b) (λ id. option_map (given_row id) (text_at b all id))

abbrev Final : Command → Given → List Row → Type 0
Final b all rows = Finds (row_at b all) rows

final_rows : (b : Command) (all : Given) (rows : List Row) → Holds b all rows
    → Final b all (fold with_default rows (rules b))
final_rows b all rows holds id =
    ap (found id) (ap (fold with_default rows) (rules_are b)
    ∙ passed rows (before_flags b) (ending (flag_names b)) (no_defaults_before b))
    ∙ finds_ending (flag_names b) (λ id. option_map (given_row id) (text_at b all id)) rows holds id

-- ---- the values

read_given : (id : Text) (o : Option Text)
    → option_and_then (λ (r : Row). slice_get r.values 0) (option_map (given_row id) o) ≡ o
read_given id None = refl
read_given id (Some text) = refl

first_at : (b : Command) (all : Given) (rows : List Row) (id : Text) → Final b all rows
    → first_of id rows ≡ option_and_then (λ (r : Row). slice_get r.values 0) (row_at b all id)
first_at b all rows id final = ap (option_and_then (λ (r : Row). slice_get r.values 0)) (final id)

value_is : (b : Command) (o : Valued) (all : Given) (rows : List Row) → Final b all rows
    → first_of (value_name o) rows ≡ value_of o all.options
value_is plain_command merge_option all rows f =
    first_at plain_command all rows (codes "merge") f ∙ read_given (codes "merge") all.options.merge
value_is check_command merge_option all rows f =
    first_at check_command all rows (codes "merge") f ∙ read_given (codes "merge") all.options.merge
value_is shrink_command merge_option all rows f =
    first_at shrink_command all rows (codes "merge") f ∙ read_given (codes "merge") all.options.merge
value_is verify_command merge_option all rows f =
    first_at verify_command all rows (codes "merge") f ∙ read_given (codes "merge") all.options.merge
value_is presets_command merge_option all rows f =
    first_at presets_command all rows (codes "merge") f ∙ read_given (codes "merge") all.options.merge
value_is plain_command alias_option all rows f =
    first_at plain_command all rows (codes "schema-alias") f ∙ read_given (codes "schema-alias") all.options.schema_alias
value_is check_command alias_option all rows f =
    first_at check_command all rows (codes "schema-alias") f ∙ read_given (codes "schema-alias") all.options.schema_alias
value_is shrink_command alias_option all rows f =
    first_at shrink_command all rows (codes "schema-alias") f
    ∙ read_given (codes "schema-alias") all.options.schema_alias
value_is verify_command alias_option all rows f =
    first_at verify_command all rows (codes "schema-alias") f
    ∙ read_given (codes "schema-alias") all.options.schema_alias
value_is presets_command alias_option all rows f =
    first_at presets_command all rows (codes "schema-alias") f
    ∙ read_given (codes "schema-alias") all.options.schema_alias

flag_read : (id : Text) (present : Bool)
    → option_and_then row_text (Some (unwrap_or (option_map (given_row id)
    (if present then Some (codes "true") else None)) (default_row id)))
    ≡ Some (if present then codes "true" else codes "false")
flag_read id true = refl
flag_read id false = refl

flag_is_read : {b : Command} {f : Flag} → TakesFlag b f → (all : Given) (rows : List Row) → Final b all rows
    → one_of (flag_name f) rows ≡ Some (if has_flag f all.options then codes "true" else codes "false")
flag_is_read shrink_in_sets all rows f =
    ap (option_and_then row_text) (f (codes "in-sets")) ∙ flag_read (codes "in-sets") all.options.in_sets
flag_is_read shrink_strict all rows f =
    ap (option_and_then row_text) (f (codes "strict")) ∙ flag_read (codes "strict") all.options.strict
flag_is_read verify_in_sets all rows f =
    ap (option_and_then row_text) (f (codes "in-sets")) ∙ flag_read (codes "in-sets") all.options.in_sets

operand_is : (b : Command) (name : Text) (all : Given) (rows : List Row) (o : Option Text) → Final b all rows
    → row_at b all name ≡ option_map (given_row name) o → first_of name rows ≡ o
operand_is b name all rows o f is = first_at b all rows name f
    ∙ ap (option_and_then (λ (r : Row). slice_get r.values 0)) is ∙ read_given name o

operands_are : (b : Command) (os : List Text) (all : Options) (rows : List Row) → Final b (given_as os all) rows
    → length os ≡ count b → map (λ name. first_of name rows) (operand_names b) ≡ map (λ text. Some text) os
operands_are plain_command (x ∷ []) all rows f are = λ i.
    operand_is plain_command (codes "FILE") (given_as (x ∷ []) all) rows (Some x) f refl i ∷ []
operands_are check_command (x ∷ y ∷ []) all rows f are = λ i.
    operand_is check_command (codes "SCHEMA") (given_as (x ∷ y ∷ []) all) rows (Some x) f refl i
    ∷ operand_is check_command (codes "FILE") (given_as (x ∷ y ∷ []) all) rows (Some y) f refl i ∷ []
operands_are shrink_command (x ∷ y ∷ z ∷ w ∷ []) all rows f are = λ i.
    operand_is shrink_command (codes "SCHEMA") (given_as (x ∷ y ∷ z ∷ w ∷ []) all) rows (Some x) f refl i
    ∷ operand_is shrink_command (codes "FILE") (given_as (x ∷ y ∷ z ∷ w ∷ []) all) rows (Some y) f refl i
    ∷ operand_is shrink_command (codes "OUT") (given_as (x ∷ y ∷ z ∷ w ∷ []) all) rows (Some z) f refl i
    ∷ operand_is shrink_command (codes "CERT") (given_as (x ∷ y ∷ z ∷ w ∷ []) all) rows (Some w) f refl i ∷ []
operands_are verify_command (x ∷ y ∷ z ∷ w ∷ []) all rows f are = λ i.
    operand_is verify_command (codes "SCHEMA") (given_as (x ∷ y ∷ z ∷ w ∷ []) all) rows (Some x) f refl i
    ∷ operand_is verify_command (codes "FILE") (given_as (x ∷ y ∷ z ∷ w ∷ []) all) rows (Some y) f refl i
    ∷ operand_is verify_command (codes "OUT") (given_as (x ∷ y ∷ z ∷ w ∷ []) all) rows (Some z) f refl i
    ∷ operand_is verify_command (codes "CERT") (given_as (x ∷ y ∷ z ∷ w ∷ []) all) rows (Some w) f refl i ∷ []
operands_are presets_command [] all rows f are = refl
operands_are plain_command [] all rows f are = absurd (omega (arith, are))
operands_are plain_command (x ∷ y ∷ os) all rows f are = absurd (omega (arith, are))
operands_are check_command [] all rows f are = absurd (omega (arith, are))
operands_are check_command (x ∷ []) all rows f are = absurd (omega (arith, are))
operands_are check_command (x ∷ y ∷ z ∷ os) all rows f are = absurd (omega (arith, are))
operands_are shrink_command [] all rows f are = absurd (omega (arith, are))
operands_are shrink_command (x ∷ []) all rows f are = absurd (omega (arith, are))
operands_are shrink_command (x ∷ y ∷ []) all rows f are = absurd (omega (arith, are))
operands_are shrink_command (x ∷ y ∷ z ∷ []) all rows f are = absurd (omega (arith, are))
operands_are shrink_command (x ∷ y ∷ z ∷ w ∷ v ∷ os) all rows f are = absurd (omega (arith, are))
operands_are verify_command [] all rows f are = absurd (omega (arith, are))
operands_are verify_command (x ∷ []) all rows f are = absurd (omega (arith, are))
operands_are verify_command (x ∷ y ∷ []) all rows f are = absurd (omega (arith, are))
operands_are verify_command (x ∷ y ∷ z ∷ []) all rows f are = absurd (omega (arith, are))
operands_are verify_command (x ∷ y ∷ z ∷ w ∷ v ∷ os) all rows f are = absurd (omega (arith, are))
operands_are presets_command (x ∷ os) all rows f are = absurd (omega (arith, are))

has_given : (b : Command) (all : Given) (rows : List Row) → Final b all rows → length all.operands ≡ count b
    → HasGiven rows b all
has_given b all rows f are = record {
  operands = operands_are b all.operands all.options rows f are;
  values = λ o. value_is b o all rows f;
  flags = λ x e. flag_is_read (flag_taken b x e) all rows f;
}

-- ---- what is required

abbrev lacks : Option Row → Bool
lacks o = not (option_map_or (λ (r : Row). explicit_source r.source) o false)

abbrev lacks_any : List Text → (Text → Option Row) → Bool
lacks_any [] rows = false
lacks_any (name ∷ more) rows = lacks (rows name) || lacks_any more rows

abbrev missing : Command → (Text → Option Row) → Kinds
missing b rows = check_kinds false false (lacks_any (operand_names b) rows)

check_is : (b : Command) (rows : List Row) → check_fault (level b) rows false ≡ missing b (λ id. found id rows)
check_is plain_command rows = refl
check_is check_command rows = refl
check_is shrink_command rows = refl
check_is verify_command rows = refl
check_is presets_command rows = refl

checks : (b : Command) (all : Given) (rows : List Row) → Final b all rows
    → check_fault (level b) rows false ≡ missing b (row_at b all)
checks b all rows f = check_is b rows ∙ (λ i. missing b (λ id. f id i))

-- an operand that wasn't given is missed
all_needed : (b : Command) (os : List Text) (all : Options) → length os ≤ count b
    → missing b (row_at b (given_as os all)) ≡ [] → length os ≡ count b
all_needed plain_command [] all few e = absurd (some_kind _ _ e)
all_needed plain_command (x ∷ []) all few e = refl
all_needed plain_command (x ∷ y ∷ os) all few e = absurd (omega (arith, few))
all_needed check_command [] all few e = absurd (some_kind _ _ e)
all_needed check_command (x ∷ []) all few e = absurd (some_kind _ _ e)
all_needed check_command (x ∷ y ∷ []) all few e = refl
all_needed check_command (x ∷ y ∷ z ∷ os) all few e = absurd (omega (arith, few))
all_needed shrink_command [] all few e = absurd (some_kind _ _ e)
all_needed shrink_command (x ∷ []) all few e = absurd (some_kind _ _ e)
all_needed shrink_command (x ∷ y ∷ []) all few e = absurd (some_kind _ _ e)
all_needed shrink_command (x ∷ y ∷ z ∷ []) all few e = absurd (some_kind _ _ e)
all_needed shrink_command (x ∷ y ∷ z ∷ w ∷ []) all few e = refl
all_needed shrink_command (x ∷ y ∷ z ∷ w ∷ v ∷ os) all few e = absurd (omega (arith, few))
all_needed verify_command [] all few e = absurd (some_kind _ _ e)
all_needed verify_command (x ∷ []) all few e = absurd (some_kind _ _ e)
all_needed verify_command (x ∷ y ∷ []) all few e = absurd (some_kind _ _ e)
all_needed verify_command (x ∷ y ∷ z ∷ []) all few e = absurd (some_kind _ _ e)
all_needed verify_command (x ∷ y ∷ z ∷ w ∷ []) all few e = refl
all_needed verify_command (x ∷ y ∷ z ∷ w ∷ v ∷ os) all few e = absurd (omega (arith, few))
all_needed presets_command [] all few e = refl
all_needed presets_command (x ∷ os) all few e = absurd (omega (arith, few))

none_missed : (b : Command) (os : List Text) (all : Options) → length os ≡ count b
    → missing b (row_at b (given_as os all)) ≡ []
none_missed plain_command [] all are = absurd (omega (arith, are))
none_missed plain_command (x ∷ os) all are = refl
none_missed check_command [] all are = absurd (omega (arith, are))
none_missed check_command (x ∷ []) all are = absurd (omega (arith, are))
none_missed check_command (x ∷ y ∷ os) all are = refl
none_missed shrink_command [] all are = absurd (omega (arith, are))
none_missed shrink_command (x ∷ []) all are = absurd (omega (arith, are))
none_missed shrink_command (x ∷ y ∷ []) all are = absurd (omega (arith, are))
none_missed shrink_command (x ∷ y ∷ z ∷ []) all are = absurd (omega (arith, are))
none_missed shrink_command (x ∷ y ∷ z ∷ w ∷ os) all are = refl
none_missed verify_command [] all are = absurd (omega (arith, are))
none_missed verify_command (x ∷ []) all are = absurd (omega (arith, are))
none_missed verify_command (x ∷ y ∷ []) all are = absurd (omega (arith, are))
none_missed verify_command (x ∷ y ∷ z ∷ []) all are = absurd (omega (arith, are))
none_missed verify_command (x ∷ y ∷ z ∷ w ∷ os) all are = refl
none_missed presets_command os all are = refl

-- ---- the level

abbrev pub below : Command → List Text → Kinds
below b words = level_fault (level b) [] nothing_held words false []

-- what is left to fail at the end of the words
abbrev end_fault : Command → Held → Kinds
end_fault b h = or_else (settle_fault (rules b) false h) (or_else (defaults_fault (settled (rules b) h).rows (rules b))
    (check_fault (level b) (finished (rules b) h) false))

abbrev end_of : Command → List Text → Held
end_of b words = (fold (walked (rules b) []) (walk_from nothing_held) words).held

below_is : (b : Command) (words : List Text) → below b words
    ≡ or_else (walk_fault (level b) [] (walk_from nothing_held) words) (end_fault b (end_of b words))
below_is plain_command words = refl
below_is check_command words = refl
below_is shrink_command words = refl
below_is verify_command words = refl
below_is presets_command words = refl

-- where what a command needs is given, clap finds no fault, and finds these values
pub given_fits : (b : Command) (words : List Text) (all : Given) → Gives (given_as [] no_options) words all
    → Fitting b all → length all.operands ≡ count b
    → (below b words ≡ []) × HasGiven (rows_after (rules b) [] words) b all
given_fits b words all by fits are =
    let e = ends b by fits [] None (stands_nothing b) in
    let rows = settled_rows (rules b) e.pending e.rows in
    let f = final_rows b all rows e.stands.holds in
    let ending : end_fault b (waits e.rows e.pending) ≡ [] =
    ap₂ or_else e.stands.fits (ap₂ or_else (defaults_fit b rows)
    (checks b all (fold with_default rows (rules b)) f ∙ none_missed b all.operands all.options are)) in (
      below_is b words ∙ ap₂ or_else e.fits (ap (end_fault b) e.held ∙ ending),
      subst (λ (h : Held). HasGiven (finished (rules b) h) b all) (sym e.held)
          (has_given b all (fold with_default rows (rules b)) f are),
    )

-- where clap finds no fault, what the command needs is given
pub given_by : (b : Command) (words : List Text) → AreTexts words → below b words ≡ []
    → (all : Given) × Gives (given_as [] no_options) words all × Fitting b all × (length all.operands ≡ count b)
given_by b words texts none =
    let e : or_else (walk_fault (level b) [] (walk_from nothing_held) words) (end_fault b (end_of b words)) ≡ [] =
    sym (below_is b words) ∙ none in
    let walks = none_first _ (end_fault b (end_of b words)) e in
    let ending = none_second (walk_fault (level b) [] (walk_from nothing_held) words) _ e in
    let held = none_first (settle_fault (rules b) false (end_of b words)) _ ending in
    let checked = none_second (defaults_fault (settled (rules b) (end_of b words)).rows (rules b)) _
    (none_second (settle_fault (rules b) false (end_of b words)) _ ending) in
    let found = gives b words texts (record { fits = walks; ends = held }) in
    let all = found.0 in
    let done = ends b found.1 found.2 [] None (stands_nothing b) in
    let rows = settled_rows (rules b) done.pending done.rows in (
      all,
      found.1,
      found.2,
      all_needed b all.operands all.options found.2.0
          (sym (checks b all (fold with_default rows (rules b)) (final_rows b all rows done.stands.holds))
          ∙ sym (ap (λ (h : Held). check_fault (level b) (finished (rules b) h) false) done.held) ∙ checked),
    )

-- ---- the commands

walk_command : (b : Command) (rest : List Text)
    → walk top.rules names nothing_held (command_name b ∷ rest) ≡ stopped (command_name b) rest
unfolding clap_on_literals
walk_command plain_command rest = fold_stopped top.rules names (codes "plain") [] rest
walk_command check_command rest = fold_stopped top.rules names (codes "check") [] rest
walk_command shrink_command rest = fold_stopped top.rules names (codes "shrink") [] rest
walk_command verify_command rest = fold_stopped top.rules names (codes "verify") [] rest
walk_command presets_command rest = fold_stopped top.rules names (codes "presets") [] rest

walk_command_fault : (b : Command) (rest : List Text)
    → walk_fault top names (walk_from nothing_held) (command_name b ∷ rest) ≡ []
unfolding clap_on_literals
walk_command_fault plain_command rest = walk_stopped top names (codes "plain") [] rest
walk_command_fault check_command rest = walk_stopped top names (codes "check") [] rest
walk_command_fault shrink_command rest = walk_stopped top names (codes "shrink") [] rest
walk_command_fault verify_command rest = walk_stopped top names (codes "verify") [] rest
walk_command_fault presets_command rest = walk_stopped top names (codes "presets") [] rest

after_command : (b : Command) (rest : List Text)
    → after (stopped (command_name b) rest) [] ≡ or_else (below b rest) []
unfolding clap_on_literals
after_command plain_command rest = refl
after_command check_command rest = refl
after_command shrink_command rest = refl
after_command verify_command rest = refl
after_command presets_command rest = refl

pub command_fault : (b : Command) (program : Text) (rest : List Text)
    → fault_of stepmin_app (program ∷ command_name b ∷ rest) ≡ below b rest
command_fault b program rest =
    fault_after program (command_name b ∷ rest) ∙ ap₂ after (walk_command b rest) (walk_command_fault b rest)
    ∙ after_command b rest ∙ only_first (below b rest)

entered_rows : (b : Command) (rest : List Text)
    → entered (built stepmin_app) (Some (command_name b, rest))
    ≡ Some (command_name b, rows_after (rules b) [] rest)
unfolding clap_on_literals
entered_rows plain_command rest = refl
entered_rows check_command rest = refl
entered_rows shrink_command rest = refl
entered_rows verify_command rest = refl
entered_rows presets_command rest = refl

pub command_values : (b : Command) (program : Text) (rest : List Text) (all : Given)
    → HasGiven (rows_after (rules b) [] rest) b all
    → HasValues (subcommand_of stepmin_app (program ∷ command_name b ∷ rest)) b all
command_values b program rest all has = (
  rows_after (rules b) [] rest,
  ap (λ w. entered (built stepmin_app) w.stopped) (walk_command b rest) ∙ entered_rows b rest,
  has,
)
