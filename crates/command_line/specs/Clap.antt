-- The command line as clap parses it.
use Rattle.std.specs.Prelude.{◌≡◌, true, codes, if◌then◌else◌, Option, List, map, Some}
use Rattle.clap.specs.Walk.{Row, Rule, Text, first_of, one_of}
use Rattle.clap.specs.Simple.{App, new_app, new_rule, on_top, with_rule, with_subcommand}
use Rattle.command_line.specs.Commands.{Command, Flag, Given, Valued, command_name, flag_name, has_flag, operand_names, takes_flag, value_name, value_of}
use Rattle.clap.specs.declared.builder.action.ArgAction.TheVariants.{Set, SetTrue}

-- the argument FILE
abbrev pub file_rule : Rule
file_rule = record (new_rule (codes "FILE")) { required = true; action = Some Set }

-- the command `plain`
abbrev pub plain_app : App
plain_app = with_rule (new_app (codes "plain")) file_rule

-- the argument SCHEMA
abbrev pub schema_rule : Rule
schema_rule = record (new_rule (codes "SCHEMA")) { required = true; action = Some Set }

-- the option `--schema-alias NAMES`
abbrev pub alias_rule : Rule
alias_rule =
    record (new_rule (codes "schema-alias")) { long = Some (codes "schema-alias"); value_names = 1; action = Some Set }

-- a command with SCHEMA and FILE
abbrev pub reading_app : Text → App
reading_app name = with_rule (with_rule (new_app name) schema_rule) file_rule

-- the command `check`
abbrev pub check_app : App
check_app = with_rule (reading_app (codes "check")) alias_rule

-- the argument OUT
abbrev pub output_rule : Rule
output_rule = record (new_rule (codes "OUT")) { required = true; action = Some Set }

-- the argument CERT
abbrev pub certificate_rule : Rule
certificate_rule = record (new_rule (codes "CERT")) { required = true; action = Some Set }

-- the option `--merge NAMES`
abbrev pub merge_rule : Rule
merge_rule = record (new_rule (codes "merge")) { long = Some (codes "merge"); value_names = 1; action = Some Set }

-- the option `--strict`
abbrev pub strict_rule : Rule
strict_rule = record (new_rule (codes "strict")) { long = Some (codes "strict"); action = Some SetTrue }

-- the option `--in-sets`
abbrev pub in_sets_rule : Rule
in_sets_rule = record (new_rule (codes "in-sets")) { long = Some (codes "in-sets"); action = Some SetTrue }

-- a command with SCHEMA, FILE, OUT and CERT
abbrev pub writing_app : Text → App
writing_app name = with_rule (with_rule (reading_app name) output_rule) certificate_rule

-- a command with SCHEMA, FILE, OUT, CERT, `--merge`, `--schema-alias` and `--in-sets`
abbrev pub merging_app : Text → App
merging_app name = with_rule (with_rule (with_rule (writing_app name) merge_rule) alias_rule) in_sets_rule

-- the command `shrink`, which has `--strict` too
abbrev pub shrink_app : App
shrink_app = with_rule (merging_app (codes "shrink")) strict_rule

-- the command `verify`
abbrev pub verify_app : App
verify_app = merging_app (codes "verify")

-- the command `presets`
abbrev pub presets_app : App
presets_app = new_app (codes "presets")

-- the program, which has a version and requires a command
abbrev pub stepmin_app : App
stepmin_app = with_subcommand (with_subcommand (with_subcommand (with_subcommand (with_subcommand
    (on_top (λ s. record s { has_version = true; subcommand_required = true }) (new_app (codes "stepmin")))
    plain_app.top) check_app.top) shrink_app.top) verify_app.top) presets_app.top

-- The arguments of this command have the values that were given.
pub record HasGiven (rows : List Row) (command : Command) (all : Given) : Type 0 where
  pub operands : map (λ name. first_of name rows) (operand_names command) ≡ map (λ text. Some text) all.operands
  pub values : (option : Valued) → first_of (value_name option) rows ≡ value_of option all.options
  pub flags : (flag : Flag) → takes_flag command flag ≡ true
      → one_of (flag_name flag) rows ≡ Some (if has_flag flag all.options then codes "true" else codes "false")

-- The command that was found is this one, and its arguments have the values that were given.
abbrev pub HasValues : Option (Text × List Row) → Command → Given → Type 0
HasValues met command all = (rows : List Row) × (met ≡ Some (command_name command, rows)) × HasGiven rows command all
