-- The words of the command line, on examples.
use Rattle.std.proofs.Common.{◌≡◌, ℕ, List, [], ◌∷◌, Option, Some, None, false, true, codes, refl, arith, true≢false}
use Rattle.clap.specs.Faults.{fault_of}
use Rattle.clap.specs.declared.error.kind.ErrorKind.TheVariants as kind
use Rattle.clap.proofs.OnLiterals.{clap_on_literals}
use Rattle.command_line.specs.Clap.{stepmin_app}
use Rattle.command_line.specs.Commands.{AsksCheck, AsksPlain, AsksPresets, AsksShrink, Command, Flag, Given, Options, TakesOptions, Valued, alias_option, check_command, clash, four, given_as, has_flag, in_sets_flag, merge_option, no_options, nothing, one_flag, one_joined, one_operand, one_value, only_operands, plain_command, presets_command, strict_flag, takes_flag, takes_value, value_of}

abbrev program : List ℕ
program = codes "stepmin"

-- no option is given that a command doesn't take
none_taken : (b : Command) → TakesOptions b no_options
none_taken b = (λ o e. value o, λ f e. flag f)
  where
    value : (o : Valued) → value_of o no_options ≡ None
    value merge_option = refl
    value alias_option = refl

    flag : (f : Flag) → has_flag f no_options ≡ false
    flag in_sets_flag = refl
    flag strict_flag = refl

-- `stepmin plain -- -F` asks for the file `-F`
hyphen_behind_dashes : AsksPlain (program ∷ codes "plain" ∷ codes "--" ∷ codes "-F" ∷ []) (codes "-F")
hyphen_behind_dashes = ((program, _, refl, only_operands, refl, none_taken plain_command), refl)

-- a single hyphen is a path
hyphen_alone : AsksPlain (program ∷ codes "plain" ∷ codes "-" ∷ []) (codes "-")
hyphen_alone = ((program, _, refl, one_operand tt nothing, refl, none_taken plain_command), refl)

-- `stepmin presets`
no_operands : AsksPresets (program ∷ codes "presets" ∷ [])
no_operands = ((program, _, refl, nothing, refl, none_taken presets_command), refl)

path_of_presets : fault_of stepmin_app (program ∷ codes "presets" ∷ codes "F" ∷ []) ≡ kind.UnknownArgument ∷ []
unfolding clap_on_literals
path_of_presets = refl

no_command : fault_of stepmin_app (program ∷ []) ≡ kind.MissingSubcommand ∷ []
unfolding clap_on_literals
no_command = refl

no_file : fault_of stepmin_app (program ∷ codes "plain" ∷ []) ≡ kind.MissingRequiredArgument ∷ []
unfolding clap_on_literals
no_file = refl

hyphen_first : fault_of stepmin_app (program ∷ codes "plain" ∷ codes "-F" ∷ []) ≡ kind.UnknownArgument ∷ []
unfolding clap_on_literals
hyphen_first = refl

flag_for_help : fault_of stepmin_app (program ∷ codes "--help" ∷ []) ≡ kind.DisplayHelp ∷ []
unfolding clap_on_literals
flag_for_help = refl

flag_for_version : fault_of stepmin_app (program ∷ codes "-V" ∷ []) ≡ kind.DisplayVersion ∷ []
unfolding clap_on_literals
flag_for_version = refl

-- the version is the program's, no command's
version_below : fault_of stepmin_app (program ∷ codes "plain" ∷ codes "--version" ∷ []) ≡ kind.UnknownArgument ∷ []
unfolding clap_on_literals
version_below = refl

help_below : fault_of stepmin_app (program ∷ codes "plain" ∷ codes "F" ∷ codes "-h" ∷ []) ≡ kind.DisplayHelp ∷ []
unfolding clap_on_literals
help_below = refl

-- `stepmin shrink S --strict F --merge P,Q O --schema-alias=A --in-sets -- -C`
options_anywhere : AsksShrink (program ∷ codes "shrink" ∷ codes "S" ∷ codes "--strict" ∷ codes "F" ∷ codes "--merge"
    ∷ codes "P,Q" ∷ codes "O" ∷ codes "--schema-alias=A" ∷ codes "--in-sets" ∷ codes "--" ∷ codes "-C" ∷ [])
    (codes "S") (codes "F") (codes "O") (codes "-C")
    (record { merge = Some (codes "P,Q"); schema_alias = Some (codes "A"); in_sets = true; strict = true })
options_anywhere = (
  (
    program,
    _,
    refl,
    one_operand tt (one_flag strict_flag refl (one_operand tt
        (one_value merge_option refl (λ e. omega (arith, e)) (one_operand tt
        (one_joined alias_option (codes "A") refl (one_flag in_sets_flag refl only_operands)))))),
    refl,
    ((λ o e. absurd (true≢false e)), (λ f e. absurd (true≢false e))),
  ),
  refl,
)

abbrev alias : Options
alias = record no_options { schema_alias = Some (codes "A,B") }

-- `stepmin check --schema-alias A,B S F`
alias_of_check : AsksCheck (program ∷ codes "check" ∷ codes "--schema-alias" ∷ codes "A,B" ∷ codes "S" ∷ codes "F" ∷ [])
    (codes "S") (codes "F") alias
alias_of_check = (
  (
    program,
    _,
    refl,
    one_value alias_option refl (λ e. omega (arith, e)) (one_operand tt (one_operand tt nothing)),
    refl,
    (value, flag),
  ),
  refl,
)
  where
    value : (o : Valued) → takes_value check_command o ≡ false → value_of o alias ≡ None
    value merge_option e = refl
    value alias_option e = absurd (true≢false e)

    flag : (f : Flag) → takes_flag check_command f ≡ false → has_flag f alias ≡ false
    flag in_sets_flag e = refl
    flag strict_flag e = refl

merge_of_check : fault_of stepmin_app (program ∷ codes "check" ∷ codes "--merge=P" ∷ codes "S" ∷ codes "F" ∷ [])
    ≡ kind.UnknownArgument ∷ []
unfolding clap_on_literals
merge_of_check = refl

alias_twice : fault_of stepmin_app (program ∷ codes "check" ∷ codes "--schema-alias=A" ∷ codes "S" ∷ codes "F"
    ∷ codes "--schema-alias" ∷ codes "B" ∷ []) ≡ kind.ArgumentConflict ∷ []
unfolding clap_on_literals
alias_twice = refl

-- these four paths and these names
abbrev paths : List ℕ → List ℕ → List ℕ → List ℕ → Option (List ℕ) → Given
paths schema file output certificate merge = four schema file output certificate (record no_options { merge = merge })

empty_alias : clash (given_as (codes "S" ∷ codes "F" ∷ []) (record no_options { schema_alias = Some (codes "A,") }))
    ≡ Some (codes "error: a name in NAMES is empty\n")
empty_alias = refl

-- no name of `--schema-alias` is a preset
alias_at : clash (given_as (codes "S" ∷ codes "F" ∷ []) (record no_options { schema_alias = Some (codes "@lines") })) ≡ None
alias_at = refl

one_path_for_both : clash (paths (codes "S") (codes "F") (codes "O") (codes "O") None)
    ≡ Some (codes "error: OUT and CERT are the same\n")
one_path_for_both = refl

output_in_place : clash (paths (codes "S") (codes "F") (codes "F") (codes "C") None) ≡ None
output_in_place = refl

certificate_in_place : clash (paths (codes "S") (codes "F") (codes "O") (codes "F") None)
    ≡ Some (codes "error: FILE and CERT are the same\n")
certificate_in_place = refl

empty_name : clash (paths (codes "S") (codes "F") (codes "O") (codes "C") (Some (codes "P,,Q")))
    ≡ Some (codes "error: a name in NAMES is empty\n")
empty_name = refl

no_names : clash (paths (codes "S") (codes "F") (codes "O") (codes "C") (Some []))
    ≡ Some (codes "error: a name in NAMES is empty\n")
no_names = refl

preset_in_capitals : clash (paths (codes "S") (codes "F") (codes "O") (codes "C") (Some (codes "@Points,@STYLES,P"))) ≡ None
preset_in_capitals = refl

unknown_preset : clash (paths (codes "S") (codes "F") (codes "O") (codes "C") (Some (codes "@lines")))
    ≡ Some (codes "error: a preset in NAMES isn't one of @points, @styles, @geometry, @all\n")
unknown_preset = refl

in_sets_twice : fault_of stepmin_app (program ∷ codes "verify" ∷ codes "--in-sets" ∷ codes "S" ∷ codes "F" ∷ codes "O"
    ∷ codes "C" ∷ codes "--in-sets" ∷ []) ≡ kind.ArgumentConflict ∷ []
unfolding clap_on_literals
in_sets_twice = refl

strict_verify : fault_of stepmin_app (program ∷ codes "verify" ∷ codes "S" ∷ codes "F" ∷ codes "O" ∷ codes "C"
    ∷ codes "--strict" ∷ []) ≡ kind.UnknownArgument ∷ []
unfolding clap_on_literals
strict_verify = refl

merge_twice : fault_of stepmin_app (program ∷ codes "shrink" ∷ codes "--merge=P" ∷ codes "S" ∷ codes "F" ∷ codes "O"
    ∷ codes "C" ∷ codes "--merge" ∷ codes "Q" ∷ []) ≡ kind.ArgumentConflict ∷ []
unfolding clap_on_literals
merge_twice = refl

names_left_out : fault_of stepmin_app (program ∷ codes "shrink" ∷ codes "S" ∷ codes "F" ∷ codes "O" ∷ codes "C"
    ∷ codes "--merge" ∷ []) ≡ kind.InvalidValue ∷ []
unfolding clap_on_literals
names_left_out = refl
