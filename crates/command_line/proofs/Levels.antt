-- The level of a command, as clap reads it.
use Rattle.std.proofs.Common.{◌≡◌, ◌∙◌, ◌&&◌, ◌++◌, ◌+◌, ◌<◌, ℕ, List, [], ◌∷◌, Option, Some, None, Bool, true, false, refl, sym, ap, codes, option_map, subst, arith, true≢false}
use Rattle.std.specs.Prelude.{if◌then◌else◌, is_some, length, min, not, slice_get, suc, unwrap_or}
use Rattle.std.specs.Str.{bytes_eq}
use Rattle.std.proofs.lemmas.Slice.Eq.{bytes_eq-Decides}
use Rattle.clap.specs.Lexer.{usize_max}
use Rattle.clap.specs.Kinds.{Kinds, or_else}
use Rattle.clap.specs.Walk.{Held, Row, Rule, Text, Walk, arg_by_id, arg_by_index, has_row, is_pending, pushed, settled, settled_rows, to_positional, used, used_by_id, value, walk_from, with_values, without}
use Rattle.clap.specs.Simple.{Shape, built_leaf, filled, inherited, new_rule, with_index}
use Rattle.std.specs.Option.{option_map_or}
use Rattle.clap.specs.Faults.{positional_fault, settle_fault, step_fault, stray_fault, use_fault}
use Rattle.clap.specs.declared.builder.action.ArgAction.TheVariants.{Set, SetTrue}
use Rattle.clap.specs.declared.builder.value_parser.Reading.TheVariants as reading
use Rattle.clap.specs.declared.error.kind.ErrorKind.TheVariants as kind
use Rattle.clap.specs.declared.parser.matches.ValueSource.TheVariants.{CommandLine}
use Rattle.command_line.specs.Clap.{check_app, plain_app, presets_app, shrink_app, stepmin_app, verify_app}
use Rattle.command_line.specs.Commands.{Command, Flag, Given, Options, Valued, alias_option, check_command, flag_name, given_as, has_flag, in_sets_flag, merge_option, no_options, operand_names, plain_command, presets_command, shrink_command, strict_flag, takes_flag, takes_value, value_name, value_of, verify_command, with_flag, with_option}
use Rattle.command_line.proofs.Rows.{found, found_kept, found_new, given_row, has_found, used_fresh}
use Rattle.command_line.proofs.Walking.{waits}

abbrev pub level : Command → Shape
level plain_command = built_leaf (inherited stepmin_app.top plain_app.top)
level check_command = built_leaf (inherited stepmin_app.top check_app.top)
level shrink_command = built_leaf (inherited stepmin_app.top shrink_app.top)
level verify_command = built_leaf (inherited stepmin_app.top verify_app.top)
level presets_command = built_leaf (inherited stepmin_app.top presets_app.top)

abbrev pub rules : Command → List Rule
rules b = (level b).rules

-- an option with a value, by its name
abbrev pub value_built : Text → Rule
value_built name =
    with_index 1 (filled (record (new_rule name) { long = Some name; value_names = 1; action = Some Set }))

-- an option without a value, by its name
abbrev pub flag_built : Text → Rule
flag_built name = with_index 1 (filled (record (new_rule name) { long = Some name; action = Some SetTrue }))

-- the operand of this name at this place
abbrev pub operand_rule : Text → ℕ → Rule
operand_rule id place = with_index place (filled (record (new_rule id) { required = true; action = Some Set }))

-- how many operands a command has
abbrev pub count : Command → ℕ
count b = length (operand_names b)

-- the name of the operand behind these
abbrev pub next : Command → List Text → Text
next b os = unwrap_or (slice_get (operand_names b) (length os)) []

-- ---- the options that a command takes

pub data TakesValue : Command → Valued → Type 0 where
  check_alias : TakesValue check_command alias_option
  shrink_merge : TakesValue shrink_command merge_option
  shrink_alias : TakesValue shrink_command alias_option
  verify_merge : TakesValue verify_command merge_option
  verify_alias : TakesValue verify_command alias_option

pub data TakesFlag : Command → Flag → Type 0 where
  shrink_in_sets : TakesFlag shrink_command in_sets_flag
  shrink_strict : TakesFlag shrink_command strict_flag
  verify_in_sets : TakesFlag verify_command in_sets_flag

pub value_taken : (b : Command) (o : Valued) → takes_value b o ≡ true → TakesValue b o
value_taken plain_command merge_option e = absurd (true≢false (sym e))
value_taken plain_command alias_option e = absurd (true≢false (sym e))
value_taken check_command merge_option e = absurd (true≢false (sym e))
value_taken check_command alias_option e = check_alias
value_taken shrink_command merge_option e = shrink_merge
value_taken shrink_command alias_option e = shrink_alias
value_taken verify_command merge_option e = verify_merge
value_taken verify_command alias_option e = verify_alias
value_taken presets_command merge_option e = absurd (true≢false (sym e))
value_taken presets_command alias_option e = absurd (true≢false (sym e))

pub flag_taken : (b : Command) (f : Flag) → takes_flag b f ≡ true → TakesFlag b f
flag_taken plain_command in_sets_flag e = absurd (true≢false (sym e))
flag_taken plain_command strict_flag e = absurd (true≢false (sym e))
flag_taken check_command in_sets_flag e = absurd (true≢false (sym e))
flag_taken check_command strict_flag e = absurd (true≢false (sym e))
flag_taken shrink_command in_sets_flag e = shrink_in_sets
flag_taken shrink_command strict_flag e = shrink_strict
flag_taken verify_command in_sets_flag e = verify_in_sets
flag_taken verify_command strict_flag e = absurd (true≢false (sym e))
flag_taken presets_command in_sets_flag e = absurd (true≢false (sym e))
flag_taken presets_command strict_flag e = absurd (true≢false (sym e))

pub value_is_taken : {b : Command} {o : Valued} → TakesValue b o → takes_value b o ≡ true
value_is_taken check_alias = refl
value_is_taken shrink_merge = refl
value_is_taken shrink_alias = refl
value_is_taken verify_merge = refl
value_is_taken verify_alias = refl

pub flag_is_taken : {b : Command} {f : Flag} → TakesFlag b f → takes_flag b f ≡ true
flag_is_taken shrink_in_sets = refl
flag_is_taken shrink_strict = refl
flag_is_taken verify_in_sets = refl

-- clap finds the option by its id
pub value_found : {b : Command} {o : Valued} → TakesValue b o
    → arg_by_id (rules b) (value_name o) ≡ Some (value_built (value_name o))
value_found check_alias = refl
value_found shrink_merge = refl
value_found shrink_alias = refl
value_found verify_merge = refl
value_found verify_alias = refl

-- ---- what stands for an id

abbrev flag_text : Bool → Option Text
flag_text present = if present then Some (codes "true") else None

-- the operands of these names, from this place on
abbrev operand_at_id : List Text → ℕ → List Text → Text → Option Text
operand_at_id [] n os id = None
operand_at_id (name ∷ names) n os id =
    if bytes_eq name id then slice_get os n else operand_at_id names (suc n) os id

-- the text that was given for an id: that of an option, or that of an operand
abbrev pub text_at : Command → Given → Text → Option Text
text_at b all id =
    if bytes_eq (codes "merge") id then all.options.merge
    else (if bytes_eq (codes "schema-alias") id then all.options.schema_alias
    else (if bytes_eq (codes "in-sets") id then flag_text all.options.in_sets
    else (if bytes_eq (codes "strict") id then flag_text all.options.strict
    else operand_at_id (operand_names b) 0 all.operands id)))

-- one more text
abbrev pub put : Text → Text → (Text → Option Text) → Text → Option Text
put name text before id = if bytes_eq name id then Some text else before id

-- what agrees at one id, and at all others
at_or_not : (name id : Text) (f g : Text → Option Text) → f name ≡ g name
    → (bytes_eq name id ≡ false → f id ≡ g id) → f id ≡ g id
at_or_not name id f g here there = go (bytes_eq name id) refl
  where
    go : (b : Bool) → bytes_eq name id ≡ b → f id ≡ g id
    go true e = subst (λ x. f x ≡ g x) ((bytes_eq-Decides name id).0 e) here
    go false e = there e

pub value_put : (b : Command) (os : List Text) (all : Options) (o : Valued) (v id : Text)
    → text_at b (given_as os (with_option o v all)) id ≡ put (value_name o) v (text_at b (given_as os all)) id
value_put b os all merge_option v id = at_or_not (codes "merge") id
    (text_at b (given_as os (with_option merge_option v all))) (put (codes "merge") v (text_at b (given_as os all))) refl
    (λ e. rw e refl)
value_put b os all alias_option v id = at_or_not (codes "schema-alias") id
    (text_at b (given_as os (with_option alias_option v all))) (put (codes "schema-alias") v (text_at b (given_as os all))) refl
    (λ e. rw e refl)

pub flag_put : (b : Command) (os : List Text) (all : Options) (f : Flag) (id : Text)
    → text_at b (given_as os (with_flag f all)) id ≡ put (flag_name f) (codes "true") (text_at b (given_as os all)) id
flag_put b os all in_sets_flag id = at_or_not (codes "in-sets") id
    (text_at b (given_as os (with_flag in_sets_flag all))) (put (codes "in-sets") (codes "true") (text_at b (given_as os all)))
    refl (λ e. rw e refl)
flag_put b os all strict_flag id = at_or_not (codes "strict") id
    (text_at b (given_as os (with_flag strict_flag all))) (put (codes "strict") (codes "true") (text_at b (given_as os all)))
    refl (λ e. rw e refl)

pub value_at : (b : Command) (all : Given) (o : Valued) → text_at b all (value_name o) ≡ value_of o all.options
value_at b all merge_option = refl
value_at b all alias_option = refl

pub flag_at : (b : Command) (all : Given) (f : Flag) → text_at b all (flag_name f) ≡ flag_text (has_flag f all.options)
flag_at b all in_sets_flag = refl
flag_at b all strict_flag = refl

-- ---- operands

-- the command has an operand behind these
pub data Room : Command → List Text → Type 0 where
  plain_none : Room plain_command []
  check_none : Room check_command []
  check_one : {a : Text} → Room check_command (a ∷ [])
  shrink_none : Room shrink_command []
  shrink_one : {a : Text} → Room shrink_command (a ∷ [])
  shrink_two : {a c : Text} → Room shrink_command (a ∷ c ∷ [])
  shrink_three : {a c d : Text} → Room shrink_command (a ∷ c ∷ d ∷ [])
  verify_none : Room verify_command []
  verify_one : {a : Text} → Room verify_command (a ∷ [])
  verify_two : {a c : Text} → Room verify_command (a ∷ c ∷ [])
  verify_three : {a c d : Text} → Room verify_command (a ∷ c ∷ d ∷ [])

pub room : (b : Command) (os : List Text) → length os < count b → Room b os
room plain_command [] few = plain_none
room plain_command (a ∷ os) few = absurd (omega (arith, few))
room check_command [] few = check_none
room check_command (a ∷ []) few = check_one
room check_command (a ∷ c ∷ os) few = absurd (omega (arith, few))
room shrink_command [] few = shrink_none
room shrink_command (a ∷ []) few = shrink_one
room shrink_command (a ∷ c ∷ []) few = shrink_two
room shrink_command (a ∷ c ∷ d ∷ []) few = shrink_three
room shrink_command (a ∷ c ∷ d ∷ e ∷ os) few = absurd (omega (arith, few))
room verify_command [] few = verify_none
room verify_command (a ∷ []) few = verify_one
room verify_command (a ∷ c ∷ []) few = verify_two
room verify_command (a ∷ c ∷ d ∷ []) few = verify_three
room verify_command (a ∷ c ∷ d ∷ e ∷ os) few = absurd (omega (arith, few))
room presets_command os few = absurd (omega (arith, few))

-- clap finds the next operand by its id and by its place, and nothing was given for it
record IsNext (b : Command) (os : List Text) : Type 0 where
  by_id : arg_by_id (rules b) (next b os) ≡ Some (operand_rule (next b os) (length os + 1))
  by_place : arg_by_index (rules b) (length os + 1) ≡ Some (operand_rule (next b os) (length os + 1))
  none : (all : Options) → text_at b (given_as os all) (next b os) ≡ None
  more : (w : Text) → min (length os + 1 + 1) usize_max ≡ length (os ++ w ∷ []) + 1

is_next : {b : Command} {os : List Text} → Room b os → IsNext b os
is_next plain_none = record { by_id = refl; by_place = refl; none = λ all. refl; more = λ w. refl }
is_next check_none = record { by_id = refl; by_place = refl; none = λ all. refl; more = λ w. refl }
is_next check_one = record { by_id = refl; by_place = refl; none = λ all. refl; more = λ w. refl }
is_next shrink_none = record { by_id = refl; by_place = refl; none = λ all. refl; more = λ w. refl }
is_next shrink_one = record { by_id = refl; by_place = refl; none = λ all. refl; more = λ w. refl }
is_next shrink_two = record { by_id = refl; by_place = refl; none = λ all. refl; more = λ w. refl }
is_next shrink_three = record { by_id = refl; by_place = refl; none = λ all. refl; more = λ w. refl }
is_next verify_none = record { by_id = refl; by_place = refl; none = λ all. refl; more = λ w. refl }
is_next verify_one = record { by_id = refl; by_place = refl; none = λ all. refl; more = λ w. refl }
is_next verify_two = record { by_id = refl; by_place = refl; none = λ all. refl; more = λ w. refl }
is_next verify_three = record { by_id = refl; by_place = refl; none = λ all. refl; more = λ w. refl }

-- the text at an id once an operand more is given, and that before it
abbrev Puts : Command → List Text → Options → Text → Text → Type 0
Puts b os all w id = text_at b (given_as (os ++ w ∷ []) all) id ≡ put (next b os) w (text_at b (given_as os all)) id

puts : (b : Command) (os : List Text) (all : Options) (w id : Text)
    → text_at b (given_as (os ++ w ∷ []) all) (next b os) ≡ put (next b os) w (text_at b (given_as os all)) (next b os)
    → (bytes_eq (next b os) id ≡ false → Puts b os all w id) → Puts b os all w id
puts b os all w id here there = at_or_not (next b os) id (text_at b (given_as (os ++ w ∷ []) all))
    (put (next b os) w (text_at b (given_as os all))) here there

operand_put : {b : Command} {os : List Text} → Room b os → (all : Options) (w id : Text) → Puts b os all w id
operand_put plain_none all w id = puts plain_command [] all w id refl (λ e. rw e refl)
operand_put check_none all w id = puts check_command [] all w id refl (λ e. rw e refl)
operand_put (check_one {a = a}) all w id = puts check_command (a ∷ []) all w id refl (λ e. rw e refl)
operand_put shrink_none all w id = puts shrink_command [] all w id refl (λ e. rw e refl)
operand_put (shrink_one {a = a}) all w id = puts shrink_command (a ∷ []) all w id refl (λ e. rw e refl)
operand_put (shrink_two {a = a} {c = c}) all w id = puts shrink_command (a ∷ c ∷ []) all w id refl (λ e. rw e refl)
operand_put (shrink_three {a = a} {c = c} {d = d}) all w id = puts shrink_command (a ∷ c ∷ d ∷ []) all w id refl (λ e. rw e refl)
operand_put verify_none all w id = puts verify_command [] all w id refl (λ e. rw e refl)
operand_put (verify_one {a = a}) all w id = puts verify_command (a ∷ []) all w id refl (λ e. rw e refl)
operand_put (verify_two {a = a} {c = c}) all w id = puts verify_command (a ∷ c ∷ []) all w id refl (λ e. rw e refl)
operand_put (verify_three {a = a} {c = c} {d = d}) all w id = puts verify_command (a ∷ c ∷ d ∷ []) all w id refl (λ e. rw e refl)

-- ---- rows

-- the rows have these texts
abbrev pub Shows : (Text → Option Text) → List Row → Type 0
Shows texts rows = (id : Text) → found id rows ≡ option_map (given_row id) (texts id)

-- the rows hold what was given
abbrev pub Holds : Command → Given → List Row → Type 0
Holds b all rows = Shows (text_at b all) rows

shows_put : (name text : Text) (texts : Text → Option Text) (rows : List Row) → texts name ≡ None → Shows texts rows
    → Shows (put name text texts) (rows ++ given_row name text ∷ [])
shows_put name text texts rows none shows id = go (bytes_eq name id) refl
  where
    go : (b : Bool) → bytes_eq name id ≡ b → found id (rows ++ given_row name text ∷ [])
        ≡ option_map (given_row id) (if b then Some text else texts id)
    go true e =
        let same = (bytes_eq-Decides name id).0 e in
        found_new id rows (given_row name text) e (shows id ∙ ap (option_map (given_row id))
        (subst (λ x. texts x ≡ None) same none)) ∙ ap (λ x. Some (given_row x text)) same
    go false e = found_kept id rows (given_row name text) e ∙ shows id

-- ---- uses

-- what a use gives, by whether there was one before
abbrev pub one_use : Bool → Kinds
one_use again = or_else (if again && not false then kind.ArgumentConflict ∷ [] else []) []

pub fresh : (id : Text) (rows : List Row) → found id rows ≡ None → one_use (has_row id rows) ≡ []
fresh id rows none = ap (λ o. one_use o) (has_found id rows ∙ ap is_some none)

-- the argument of this id takes one value
pub record Single (b : Command) (id : Text) : Type 0 where
  pub fault : (w : Text) (rows : List Row)
      → settle_fault (rules b) false (waits rows (Some (id, w ∷ []))) ≡ one_use (has_row id rows)
  pub rows : (w : Text) (rows : List Row) → settled_rows (rules b) (Some (id, w ∷ [])) rows
      ≡ with_values id reading.AsWritten CommandLine (w ∷ []) (without id rows)

single_operand : (b : Command) (id : Text) (p : ℕ) → arg_by_id (rules b) id ≡ Some (operand_rule id p) → Single b id
single_operand b id p e = record {
  fault = λ w rows. ap (λ (o : Option Rule). option_map_or (λ a. use_fault false a (w ∷ []) rows) o []) e;
  rows = λ w rows. ap (λ (o : Option Rule). used_by_id o (w ∷ []) rows) e;
}

pub single_value : {b : Command} {o : Valued} → TakesValue b o → Single b (value_name o)
single_value {b} {o} t = record {
  fault = λ w rows. ap (λ (r : Option Rule). option_map_or (λ a. use_fault false a (w ∷ []) rows) r []) (value_found t);
  rows = λ w rows. ap (λ (r : Option Rule). used_by_id r (w ∷ []) rows) (value_found t);
}

-- what is held stands for what was given
pub record Stands (b : Command) (all : Given) (rows : List Row) (pending : Option (Text × List Text)) : Type 0 where
  pub fits : settle_fault (rules b) false (waits rows pending) ≡ []
  pub holds : Holds b all (settled_rows (rules b) pending rows)

nothing_from : (names : List Text) (n : ℕ) (id : Text) → operand_at_id names n [] id ≡ None
nothing_from [] n id = refl
nothing_from (name ∷ names) n id = go (bytes_eq name id) (nothing_from names (suc n) id)
  where
    go : (x : Bool) → operand_at_id names (suc n) [] id ≡ None
        → (if x then slice_get [] n else operand_at_id names (suc n) [] id) ≡ None
    go true e = refl
    go false e = e

nothing_at : (b : Command) (id : Text) → text_at b (given_as [] no_options) id ≡ None
nothing_at b id = go (bytes_eq (codes "merge") id) (bytes_eq (codes "schema-alias") id)
    (bytes_eq (codes "in-sets") id) (bytes_eq (codes "strict") id) (nothing_from (operand_names b) 0 id)
  where
    go : (m a i s : Bool) {o : Option Text} → o ≡ None → (if m then None else (if a then None
        else (if i then None else (if s then None else o)))) ≡ None
    go true a i s e = refl
    go false true i s e = refl
    go false false true s e = refl
    go false false false true e = refl
    go false false false false e = e

pub stands_nothing : (b : Command) → Stands b (given_as [] no_options) [] None
stands_nothing b = record { fits = refl; holds = λ id. sym (ap (option_map (given_row id)) (nothing_at b id)) }

-- a text more stands, once clap holds it
abbrev Adds : Command → Given → Given → Text → Text → Type 0
Adds b before after name w = (text_at b before name ≡ None)
    × ((id : Text) → text_at b after id ≡ put name w (text_at b before) id)

holds_more : (b : Command) (before after : Given) (name w : Text) (rows : List Row) → Adds b before after name w
    → Holds b before rows → Holds b after (rows ++ given_row name w ∷ [])
holds_more b before after name w rows adds holds id =
    shows_put name w (text_at b before) rows adds.0 holds id ∙ sym (ap (option_map (given_row id)) (adds.1 id))

empty_row : (b : Command) (before : Given) (name : Text) (rows : List Row) → text_at b before name ≡ None
    → Holds b before rows → found name rows ≡ None
empty_row b before name rows none holds = holds name ∙ ap (option_map (given_row name)) none

-- what waits is used once more words come
stands_waiting : (b : Command) (before after : Given) (name w : Text) (rows : List Row)
    (pending : Option (Text × List Text)) → Single b name → Adds b before after name w → Stands b before rows pending
    → Stands b after (settled_rows (rules b) pending rows) (Some (name, w ∷ []))
stands_waiting b before after name w rows pending single adds h =
    let old = settled_rows (rules b) pending rows in
    let none = empty_row b before name old adds.0 h.holds in
    record {
      fits = single.fault w old ∙ fresh name old none;
      holds = subst (Holds b after) (sym (single.rows w old ∙ used_fresh name w old none))
          (holds_more b before after name w old adds h.holds);
    }

-- what was used at once
stands_used : (b : Command) (before after : Given) (name w : Text) (rows : List Row)
    (pending : Option (Text × List Text)) → Adds b before after name w → Stands b before rows pending
    → Stands b after (with_values name reading.AsWritten CommandLine (w ∷ [])
    (without name (settled_rows (rules b) pending rows))) None
stands_used b before after name w rows pending adds h =
    let old = settled_rows (rules b) pending rows in
    let none = empty_row b before name old adds.0 h.holds in
    record {
      fits = refl;
      holds = subst (Holds b after) (sym (used_fresh name w old none))
          (holds_more b before after name w old adds h.holds);
    }

pub stands_operand : (b : Command) (os : List Text) (all : Options) (rows : List Row)
    (pending : Option (Text × List Text)) (w : Text) → length os < count b → Stands b (given_as os all) rows pending
    → Stands b (given_as (os ++ w ∷ []) all) (settled_rows (rules b) pending rows) (Some (next b os, w ∷ []))
stands_operand b os all rows pending w few h =
    let r = room b os few in
    stands_waiting b (given_as os all) (given_as (os ++ w ∷ []) all) (next b os) w rows pending
    (single_operand b (next b os) (length os + 1) (is_next r).by_id)
    ((is_next r).none all, λ id. operand_put r all w id) h

value_adds : (b : Command) (os : List Text) (all : Options) (o : Valued) (v : Text) → value_of o all ≡ None
    → Adds b (given_as os all) (given_as os (with_option o v all)) (value_name o) v
value_adds b os all o v none = (value_at b (given_as os all) o ∙ none, λ id. value_put b os all o v id)

pub value_absent : (b : Command) (os : List Text) (all : Options) (o : Valued) (rows : List Row)
    → Holds b (given_as os all) rows → value_of o all ≡ None → found (value_name o) rows ≡ None
value_absent b os all o rows holds none =
    empty_row b (given_as os all) (value_name o) rows (value_at b (given_as os all) o ∙ none) holds

flag_none : (b : Command) (os : List Text) (all : Options) (f : Flag) → has_flag f all ≡ false
    → text_at b (given_as os all) (flag_name f) ≡ None
flag_none b os all f none = flag_at b (given_as os all) f ∙ ap flag_text none

pub flag_absent : (b : Command) (os : List Text) (all : Options) (f : Flag) (rows : List Row)
    → Holds b (given_as os all) rows → has_flag f all ≡ false → found (flag_name f) rows ≡ None
flag_absent b os all f rows holds none =
    empty_row b (given_as os all) (flag_name f) rows (flag_none b os all f none) holds

pub stands_value : {b : Command} {o : Valued} → TakesValue b o → (os : List Text) (all : Options) (rows : List Row)
    (pending : Option (Text × List Text)) (v : Text) → value_of o all ≡ None → Stands b (given_as os all) rows pending
    → Stands b (given_as os (with_option o v all)) (settled_rows (rules b) pending rows) (Some (value_name o, v ∷ []))
stands_value {b} {o} t os all rows pending v none h = stands_waiting b (given_as os all) (given_as os (with_option o v all))
    (value_name o) v rows pending (single_value t) (value_adds b os all o v none) h

pub stands_joined : (b : Command) (o : Valued) (os : List Text) (all : Options) (rows : List Row)
    (pending : Option (Text × List Text)) (v : Text) → value_of o all ≡ None → Stands b (given_as os all) rows pending
    → Stands b (given_as os (with_option o v all))
    (used (value_built (value_name o)) (v ∷ []) (settled_rows (rules b) pending rows)) None
stands_joined b o os all rows pending v none h = stands_used b (given_as os all) (given_as os (with_option o v all))
    (value_name o) v rows pending (value_adds b os all o v none) h

pub stands_flag : (b : Command) (f : Flag) (os : List Text) (all : Options) (rows : List Row)
    (pending : Option (Text × List Text)) → has_flag f all ≡ false → Stands b (given_as os all) rows pending
    → Stands b (given_as os (with_flag f all))
    (used (flag_built (flag_name f)) [] (settled_rows (rules b) pending rows)) None
stands_flag b f os all rows pending none h = stands_used b (given_as os all) (given_as os (with_flag f all))
    (flag_name f) (codes "true") rows pending (flag_none b os all f none, λ id. flag_put b os all f id) h

-- ---- operands that clap takes

-- a walk that waits for no option, with or without `--` before it
abbrev pub stand : Bool → Held → ℕ → Walk
stand trailing h p = record (walk_from h) { position = p; is_trailing = trailing }

and_false : {X : Type 0} (b : Bool) (x y : X) → (if b && false then x else y) ≡ y
and_false true x y = refl
and_false false x y = refl

no_operand_at : (b : Command) → arg_by_index (rules b) (count b + 1) ≡ None
no_operand_at plain_command = refl
no_operand_at check_command = refl
no_operand_at shrink_command = refl
no_operand_at verify_command = refl
no_operand_at presets_command = refl

-- no use of an argument overrides another
pub never_again : (b : Command) → (level b).args_override_self ≡ false
never_again plain_command = refl
never_again check_command = refl
never_again shrink_command = refl
never_again verify_command = refl
never_again presets_command = refl

stray : (b : Command) → stray_fault (level b) ≡ kind.UnknownArgument ∷ []
stray plain_command = refl
stray check_command = refl
stray shrink_command = refl
stray verify_command = refl
stray presets_command = refl

settles : (b : Command) (id : Text) (p : ℕ) (rows : List Row) (pending : Option (Text × List Text))
    → positional_fault (rules b) (level b).args_override_self (operand_rule id p) (waits rows pending)
    ≡ settle_fault (rules b) false (waits rows pending)
settles b id p rows pending = and_false (is_pending (operand_rule id p) pending) [] _
    ∙ ap (λ again. settle_fault (rules b) again (waits rows pending)) (never_again b)

-- what clap makes of the operand that it takes at a place, if there is one
abbrev at_place : Command → Held → Option Rule → Kinds
at_place b h o = option_map_or (λ (a : Rule). positional_fault (rules b) (level b).args_override_self a h) o
    (stray_fault (level b))

moves : (c : List Rule) (id : Text) (trailing : Bool) (rows : List Row) (pending : Option (Text × List Text)) (p : ℕ)
    (w : Text) → to_positional c (Some (operand_rule id p)) w (stand trailing (waits rows pending) p)
    (waits rows pending) ≡ stand trailing (waits (settled_rows c pending rows) (Some (id, w ∷ [])))
    (min (p + 1) usize_max)
moves c id true rows pending p w = ap (λ (h : Held). stand true (pushed id w h) (min (p + 1) usize_max))
    (and_false (is_pending (operand_rule id p) pending) (waits rows pending) (settled c (waits rows pending)))
moves c id false rows pending p w = ap (λ (h : Held). stand false (pushed id w h) (min (p + 1) usize_max))
    (and_false (is_pending (operand_rule id p) pending) (waits rows pending) (settled c (waits rows pending)))

-- an operand is taken, once what waits fits
pub operand_fits : (b : Command) (os : List Text) (rows : List Row) (pending : Option (Text × List Text))
    → length os < count b → step_fault (level b) (length os + 1) (waits rows pending) value
    ≡ settle_fault (rules b) false (waits rows pending)
operand_fits b os rows pending few =
    ap (at_place b (waits rows pending)) (is_next (room b os few)).by_place
    ∙ settles b (next b os) (length os + 1) rows pending

pub operand_moves : (b : Command) (trailing : Bool) (os : List Text) (rows : List Row)
    (pending : Option (Text × List Text)) (w : Text) → length os < count b
    → to_positional (rules b) (arg_by_index (rules b) (length os + 1)) w
    (stand trailing (waits rows pending) (length os + 1)) (waits rows pending)
    ≡ stand trailing (waits (settled_rows (rules b) pending rows) (Some (next b os, w ∷ [])))
    (length (os ++ w ∷ []) + 1)
operand_moves b trailing os rows pending w few =
    let is = is_next (room b os few) in
    ap (λ o. to_positional (rules b) o w (stand trailing (waits rows pending) (length os + 1)) (waits rows pending))
    is.by_place
    ∙ moves (rules b) (next b os) trailing rows pending (length os + 1) w
    ∙ ap (stand trailing (waits (settled_rows (rules b) pending rows) (Some (next b os, w ∷ [])))) (is.more w)

-- one too many isn't
pub operand_refused : (b : Command) (os : List Text) (h : Held) → length os ≡ count b
    → step_fault (level b) (length os + 1) h value ≡ kind.UnknownArgument ∷ []
operand_refused b os h is =
    ap (at_place b h) (ap (λ n. arg_by_index (rules b) (n + 1)) is ∙ no_operand_at b) ∙ stray b
