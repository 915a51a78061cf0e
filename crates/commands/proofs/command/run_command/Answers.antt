use Rattle.std.proofs.Common.{map, inr, refl, string_bytes}
use Rattle.files.specs.Stores.{file_seen}
use Rattle.command_line.proofs.Asking.{are_texts}
use Rattle.command_line.proofs.Settling.{any_or_nothing}
use Rattle.commands.proofs.Opening.{asked_opens}
use Rattle.commands.proofs.Requested.{apart_asked, is_asked_for, written_asked}
use Rattle.commands.proofs.Running.{asked_runs, refused_opens, refused_runs}
use Rattle.commands.proofs.command.run_command.Goals as goal

pub run-requires : goal.run-requires
run-requires g c = λ k. (
  (refl, tt),
  apart_asked (map string_bytes c.args.words.now) c.in-Ok.request
      c.in-Ok.ensures.asked,
)

pub returns-in-Ok-clause-unopened : goal.returns-in-Ok-clause-unopened
returns-in-Ok-clause-unopened g c = λ none.
    absurd (none (is_asked_for (map string_bytes c.args.words.now) c.in-Ok.request c.in-Ok.ensures.asked))

pub returns-in-Ok-clause-opened : goal.returns-in-Ok-clause-opened
returns-in-Ok-clause-opened g c = asked_opens (map string_bytes c.args.words.now) c.in-Ok.request _ _ _ _
    c.in-Ok.ensures.asked c.run.ensures.opened

pub returns-in-Ok-clause-runs : goal.returns-in-Ok-clause-runs
returns-in-Ok-clause-runs g c =
    asked_runs _ (map string_bytes c.args.words.now)
    (file_seen g.S.Store.contents g.S.Store.fails c.args.store.now) _ _
    c.in-Ok.request c.in-Ok.ensures.asked c.run.ensures.does

pub returns-in-Ok-clause-kept : goal.returns-in-Ok-clause-kept
returns-in-Ok-clause-kept g c = λ path none.
    c.run.ensures.kept path (written_asked (map string_bytes c.args.words.now) c.in-Ok.request path
    c.in-Ok.ensures.asked none)

pub returns-in-Err-clause-opened : goal.returns-in-Err-clause-opened
returns-in-Err-clause-opened g c = inr (
  refl,
  refused_opens (map string_bytes c.args.words.now)
      (any_or_nothing (map string_bytes c.args.words.now) (are_texts c.args.words.now)) c.in-Err.refusal
      c.in-Err.ensures.granted _ c.refuse.ensures.refuses,
)

pub returns-in-Err-clause-runs : goal.returns-in-Err-clause-runs
returns-in-Err-clause-runs g c =
    refused_runs _ (map string_bytes c.args.words.now)
    (file_seen g.S.Store.contents g.S.Store.fails c.args.store.now) _ _ c.in-Err.refusal c.refuse.ensures.refuses
    (λ path. refl) (any_or_nothing (map string_bytes c.args.words.now) (are_texts c.args.words.now))
    c.in-Err.ensures.granted c.in-Err.ensures.refused
