-- A run does what its words ask for, which is one thing, and its status tells what failed.
use Rattle.std.proofs.Common.{◌≡◌, List, ℕ, Option, inl, inr, subst}
use Rattle.command_line.specs.Commands.{Asks, AsksNothing, Command, Given}
use Rattle.command_line.proofs.Settling.{command_once, is_asked, once}
use Rattle.files.specs.Stores.{Stored}
use Rattle.commands.specs.CommandLines.{IsCarriedOut, IsDevices, Runs, RunsNothing}
use Rattle.commands.specs.Endings.{Exit}
use Rattle.commands.specs.Merges.{Writers}
use Rattle.commands.proofs.Carried.{carried_device, carried_says, shape}
use Rattle.commands.proofs.Endings.{SaysAs}
use Rattle.commands.proofs.Refused.{refused_device, refused_says}

module _ (writers : Writers) (words : List (List ℕ)) (files : List ℕ → Stored) (holds : List ℕ → Option (List ℕ))
    (exit : Exit) where
  -- what is asked for is the only thing, and it was carried out
  pub carried : Runs writers words files holds exit → (command : Command) → (all : Given) → Asks words command all
      → IsCarriedOut writers files holds exit command all.operands all.options
  carried (inl (found, one, asks, does)) command all other =
      subst (λ (x : Given). IsCarriedOut writers files holds exit command x.operands x.options)
      (once words found command one all asks.0 other.0)
      (subst (λ it. IsCarriedOut writers files holds exit it one.operands one.options)
      (command_once words found command one all asks.0 other.0) does)
  carried (inr (none, said)) command all other = absurd (none (is_asked words command all other))

  -- nothing is asked for
  pub refused : Runs writers words files holds exit → AsksNothing words → RunsNothing words exit
  refused (inl (command, all, asks, does)) none = absurd (none (is_asked words command all asks))
  refused (inr (none, said)) asks = said

  -- what is said of the outputs
  pub says : Runs writers words files holds exit → SaysAs exit
  says (inl (command, all, asks, does)) = carried_says writers files holds exit
      (shape writers files holds exit command all.operands all.options does) all.options does
  says (inr (none, (refusal, calls, r))) = refused_says refusal exit r

  pub device : Runs writers words files holds exit → exit.status ≡ 4 → IsDevices writers words files exit
  device (inl (command, all, asks, does)) = carried_device writers files holds exit words
      (shape writers files holds exit command all.operands all.options does) all.options asks does
  device (inr (none, (refusal, calls, r))) = refused_device writers words files refusal exit r
