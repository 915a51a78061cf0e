-- What a command that was carried out comes to.
use Rattle.std.proofs.Common.{◌≡◌, List, [], ◌∷◌, ℕ, Option, inl, inr, refl, arith}
use Rattle.command_line.specs.Commands.{Asks, Command, Options, given_as, plain_command, check_command, shrink_command, verify_command, presets_command}
use Rattle.command_line.specs.declared.command_words.Refusal.TheVariants.{Memory}
use Rattle.files.specs.Stores.{Stored}
use Rattle.commands.specs.CommandLines.{IsCarriedOut, IsDevices, written_at}
use Rattle.commands.specs.Endings.{Exit, on_output}
use Rattle.commands.specs.Merges.{Writers, asked_choice, asked_other_names}
use Rattle.commands.specs.PresetLists.{ListsPresets, presets_text}
use Rattle.commands.proofs.CheckRuns.{check_device, check_says}
use Rattle.commands.proofs.Endings.{SaysAs, device_printed, ends_say}
use Rattle.commands.proofs.MergeRuns.{shrink_device, smaller_says}
use Rattle.commands.proofs.PlainRuns.{plain_device, plain_says}
use Rattle.commands.proofs.Refused.{refused_device, refused_says}
use Rattle.commands.proofs.VerifyRuns.{verify_device, verify_says}

abbrev Text : Type 0
Text = List ℕ

-- the paths that a command has
pub data Shape : Command → List Text → Type 0 where
  of_plain : (path : Text) → Shape plain_command (path ∷ [])
  of_check : (schema file : Text) → Shape check_command (schema ∷ file ∷ [])
  of_shrink : (schema file output certificate : Text)
      → Shape shrink_command (schema ∷ file ∷ output ∷ certificate ∷ [])
  of_verify : (schema file output certificate : Text)
      → Shape verify_command (schema ∷ file ∷ output ∷ certificate ∷ [])
  of_presets : Shape presets_command []

presets_say : (exit : Exit) → ListsPresets exit → SaysAs exit
presets_say exit (inl lists) = ends_say (on_output presets_text 0) exit (inl refl) lists
presets_say exit (inr refuses) = refused_says Memory exit refuses

presets_device : (writers : Writers) (words : List Text) (files : List ℕ → Stored) (exit : Exit) → ListsPresets exit
    → exit.status ≡ 4 → IsDevices writers words files exit
presets_device writers words files exit (inl lists) is = λ fresh clean.
    inl (device_printed exit.out presets_text 0 exit.status lists.0 (λ no. omega (arith, no)) is fresh)
presets_device writers words files exit (inr refuses) is = refused_device writers words files Memory exit refuses is

module _ (writers : Writers) (files : List ℕ → Stored) (holds : List ℕ → Option (List ℕ)) (exit : Exit) where
  abbrev Does : Command → List Text → Options → Type 0
  Does = IsCarriedOut writers files holds exit

  pub shape : (command : Command) (paths : List Text) (options : Options) → Does command paths options
      → Shape command paths
  shape plain_command [] options does = absurd does
  shape plain_command (path ∷ []) options does = of_plain path
  shape plain_command (path ∷ x ∷ more) options does = absurd does
  shape check_command [] options does = absurd does
  shape check_command (schema ∷ []) options does = absurd does
  shape check_command (schema ∷ file ∷ []) options does = of_check schema file
  shape check_command (schema ∷ file ∷ x ∷ more) options does = absurd does
  shape shrink_command [] options does = absurd does
  shape shrink_command (schema ∷ []) options does = absurd does
  shape shrink_command (schema ∷ file ∷ []) options does = absurd does
  shape shrink_command (schema ∷ file ∷ output ∷ []) options does = absurd does
  shape shrink_command (schema ∷ file ∷ output ∷ certificate ∷ []) options does =
      of_shrink schema file output certificate
  shape shrink_command (schema ∷ file ∷ output ∷ certificate ∷ x ∷ more) options does = absurd does
  shape verify_command [] options does = absurd does
  shape verify_command (schema ∷ []) options does = absurd does
  shape verify_command (schema ∷ file ∷ []) options does = absurd does
  shape verify_command (schema ∷ file ∷ output ∷ []) options does = absurd does
  shape verify_command (schema ∷ file ∷ output ∷ certificate ∷ []) options does =
      of_verify schema file output certificate
  shape verify_command (schema ∷ file ∷ output ∷ certificate ∷ x ∷ more) options does = absurd does
  shape presets_command [] options does = of_presets
  shape presets_command (x ∷ more) options does = absurd does

  -- what is said of the outputs
  pub carried_says : {command : Command} {paths : List Text} → Shape command paths → (options : Options)
      → Does command paths options → SaysAs exit
  carried_says (of_plain path) options does = plain_says (files path) exit does
  carried_says (of_check schema file) options does =
      check_says (asked_other_names options.schema_alias) (files schema) (files file) exit does
  carried_says (of_shrink schema file output certificate) options does =
      smaller_says writers (asked_choice options) options.strict (files schema) (files file)
      (written_at files holds output) (written_at files holds certificate) exit does
  carried_says (of_verify schema file output certificate) options does =
      verify_says (asked_choice options) (files schema) (files file) (files output) (files certificate) exit does
  carried_says of_presets options does = presets_say exit does

  pub carried_device : (words : List Text) {command : Command} {paths : List Text} → Shape command paths
      → (options : Options) → Asks words command (given_as paths options) → Does command paths options
      → exit.status ≡ 4 → IsDevices writers words files exit
  carried_device words (of_plain path) options asks does =
      plain_device writers words files path options exit asks does
  carried_device words (of_check schema file) options asks does = check_device writers words files
      (asked_other_names options.schema_alias) schema file options exit asks does
  carried_device words (of_shrink schema file output certificate) options asks does = shrink_device writers words
      files holds schema file output certificate options exit asks does
  carried_device words (of_verify schema file output certificate) options asks does = verify_device writers words
      files schema file output certificate options (asked_choice options) exit asks does
  carried_device words of_presets options asks does = presets_device writers words files exit does
