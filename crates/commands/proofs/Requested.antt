-- What a request says of the arguments that it was read from.
use Rattle.std.proofs.Common.{◌≡◌, ◌∙◌, ℕ, List, Option, Some, None, refl, sym, ap, true≢false, codes}
use Rattle.std.specs.Prelude.{is_some}
use Rattle.std.proofs.lemmas.Slice.Eq.{bytes_eq-Decides}
use Rattle.command_line.specs.Commands.{Asks, IsAskedFor, Options, clash, for_check, for_plain, for_presets, for_shrink, for_verify, four}
use Rattle.command_line.specs.steps.Options.{check_options, shrink_options, verify_options}
use Rattle.command_line.specs.Requests.{AskFor}
use Rattle.command_line.specs.declared.command_words.Request.{Request}
use Rattle.command_line.specs.declared.command_words.Request.TheVariants as requests
use Rattle.commands.specs.CommandLines.{AsksToWrite}
use Rattle.commands.specs.steps.ComputedRequests.{IsApart, IsWritten, command_of, given_of}

abbrev Text : Type 0
Text = List ℕ

-- the arguments request its command
pub asks_for : (words : List Text) (request : Request) → AskFor words request
    → Asks words (command_of request) (given_of request)
asks_for words (requests.Plain path) asks = asks
asks_for words (requests.Check asked) asks = asks
asks_for words (requests.Shrink asked) asks = asks
asks_for words (requests.Verify asked) asks = asks
asks_for words requests.Presets asks = asks

pub is_asked_for : (words : List Text) (request : Request) → AskFor words request → IsAskedFor words
is_asked_for words (requests.Plain path) asks = for_plain path.now asks
is_asked_for words (requests.Check asked) asks =
    for_check asked.schema.now asked.file.now (check_options asked) asks
is_asked_for words (requests.Shrink asked) asks = for_shrink asked.schema.now asked.file.now asked.output.now
    asked.certificate.now (shrink_options asked) asks
is_asked_for words (requests.Verify asked) asks = for_verify asked.schema.now asked.file.now asked.output.now
    asked.certificate.now (verify_options asked) asks
is_asked_for words requests.Presets asks = for_presets asks

-- ---- what is written

pub written_asked : (words : List Text) (request : Request) (path : Text) → AskFor words request
    → (AsksToWrite words path → ⊥) → IsWritten request path → ⊥
written_asked words (requests.Plain found) path asks none is = is
written_asked words (requests.Check asked) path asks none is = is
written_asked words (requests.Verify asked) path asks none is = is
written_asked words requests.Presets path asks none is = is
written_asked words (requests.Shrink asked) path asks none is = none (
  asked.schema.now,
  asked.file.now,
  asked.output.now,
  asked.certificate.now,
  shrink_options asked,
  asks,
  is,
)

-- what isn't refused has two paths
clash_apart : (schema file output certificate : Text) (options : Options)
    → clash (four schema file output certificate options) ≡ None → output ≡ certificate → ⊥
clash_apart schema file output certificate options none same = some_none (sym clashes ∙ none)
  where
    clashes : clash (four schema file output certificate options)
        ≡ Some (codes "error: OUT and CERT are the same\n")
    clashes = rw (same, (bytes_eq-Decides certificate certificate).1 refl) refl

    some_none : Some (codes "error: OUT and CERT are the same\n") ≡ None → ⊥
    some_none e = true≢false (ap is_some e)

-- a request that was asked for writes two files
pub apart_asked : (words : List Text) (request : Request) → AskFor words request → IsApart request
apart_asked words (requests.Plain path) asks = tt
apart_asked words (requests.Check asked) asks = tt
apart_asked words (requests.Verify asked) asks = tt
apart_asked words requests.Presets asks = tt
apart_asked words (requests.Shrink asked) asks = clash_apart asked.schema.now asked.file.now asked.output.now
    asked.certificate.now (shrink_options asked) asks.1
