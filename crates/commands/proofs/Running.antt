-- What a run of the command line comes to.
use Rattle.std.proofs.Common.{◌≡◌, List, [], ◌∷◌, ℕ, Option, inl, inr, subst}
use Rattle.std.specs.Prelude.{◌⊎◌}
use Rattle.command_line.specs.Commands.{AsksNothing, Command, Given, IsAskedFor, check_command, for_check, for_plain, for_presets, for_shrink, for_verify, four, given_as, no_options, plain_command, presets_command, shrink_command, verify_command}
use Rattle.command_line.specs.Requests.{AskFor, CallFor}
use Rattle.command_line.specs.declared.command_words.Request.{Request}
use Rattle.command_line.specs.declared.command_words.Refusal.{Refusal}
use Rattle.command_line.specs.declared.command_words.Refusal.TheVariants.{Memory}
use Rattle.files.specs.Stores.{Stored}
use Rattle.commands.specs.CommandLines.{IsCarriedOut, IsWantOfMemory, Runs, written_at}
use Rattle.commands.specs.steps.ComputedRequests.{Does, command_of, given_of}
use Rattle.commands.specs.Endings.{Exit}
use Rattle.commands.specs.Merges.{Writers, asked_choice, asked_other_names}
use Rattle.commands.specs.Runs.{Refuses}
use Rattle.commands.proofs.CheckRuns.{refused_checks}
use Rattle.commands.proofs.MergeRuns.{refused_smaller}
use Rattle.commands.proofs.PlainRuns.{memory_runs}
use Rattle.commands.proofs.Requested.{asks_for}
use Rattle.commands.proofs.VerifyRuns.{refused_verifies}

abbrev Text : Type 0
Text = List ℕ

-- no file was opened, and why
pub refused_opens : (words : List Text) → IsAskedFor words ⊎ AsksNothing words → (refusal : Refusal)
    → (IsAskedFor words → refusal ≡ Memory) → (exit : Exit) → Refuses refusal exit
    → AsksNothing words ⊎ IsWantOfMemory exit.err exit.status
refused_opens words (inl asked) refusal granted exit r =
    inr (subst (λ m. Refuses m exit) (granted asked) r).1
refused_opens words (inr none) refusal granted exit r = inl none

module _ (writers : Writers) (words : List Text) (files : List ℕ → Stored) (holds : List ℕ → Option (List ℕ))
    (exit : Exit) where
  pub asked_runs : (request : Request) → AskFor words request → Does writers request files holds exit
      → Runs writers words files holds exit
  asked_runs request asks does = inl (command_of request, given_of request, asks_for words request asks, does)

  -- what was done, where no file has changed
  module _ (refusal : Refusal) (r : Refuses refusal exit) (same : (path : Text) → holds path ≡ (files path).contents) where
    asked_for : IsAskedFor words → refusal ≡ Memory → Runs writers words files holds exit
    asked_for (for_plain path asks) is =
        inl (plain_command, given_as (path ∷ []) no_options, asks, memory_runs refusal (files path) exit is r)
    asked_for (for_check s f options asks) is = inl (
      check_command,
      given_as (s ∷ f ∷ []) options,
      asks,
      refused_checks refusal (asked_other_names options.schema_alias) (files s) (files f) exit is r,
    )
    asked_for (for_shrink s f o c options asks) is = inl (
      shrink_command,
      four s f o c options,
      asks,
      refused_smaller writers refusal (asked_choice options) options.strict (files s) (files f)
          (written_at files holds o) (written_at files holds c) exit is r (same o) (same c),
    )
    asked_for (for_verify s f o c options asks) is = inl (
      verify_command,
      four s f o c options,
      asks,
      refused_verifies refusal (asked_choice options) (files s) (files f) (files o) (files c) exit is r,
    )
    asked_for (for_presets asks) is =
        inl (presets_command, given_as [] no_options, asks, inr (subst (λ m. Refuses m exit) is r))

    pub refused_runs : IsAskedFor words ⊎ AsksNothing words → (IsAskedFor words → refusal ≡ Memory)
        → CallFor words refusal → Runs writers words files holds exit
    refused_runs (inl asked) granted calls = asked_for asked (granted asked)
    refused_runs (inr none) granted calls = inr (none, (refusal, calls, r))
