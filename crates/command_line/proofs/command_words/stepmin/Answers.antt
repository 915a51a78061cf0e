use Rattle.std.proofs.Common.{ap, ap₂, ◌≡◌, ◌∙◌, codes, true}
use Rattle.std.proofs.lemmas.Result.{IfOk-weaker}
use Rattle.clap.specs.Simple.{App, app_of, app_of_fields, new_app, on_top, with_subcommand}
use Rattle.command_line.proofs.command_words.stepmin.Goals as goal

pub returns : goal.returns
returns c =
    let needs : App → App = on_top (λ s. record s { subcommand_required = true }) in
    let shows : App → App = on_top (λ s. record s { has_version = true }) in
    let named : app_of c.about.result ≡ new_app (codes "stepmin") = ap app_of_fields c.about.ensures
    ∙ c.new.ensures.app in
    let top_is : app_of c.subcommand_required.result ≡ needs (shows (new_app (codes "stepmin"))) =
    ap app_of_fields c.subcommand_required.ensures
    ∙ ap needs (ap app_of_fields c.after_help.ensures ∙ ap app_of_fields c.version.ensures ∙ ap shows named) in
    let first = c.in_ok-subcommand.ensures.shape c.in_ok-plain.ensures.local
    ∙ ap₂ with_subcommand top_is (ap (λ (a : App). a.top) c.in_ok-plain.ensures.app) in
    let second = c.in_ok-subcommand-2.ensures.shape c.in_ok-check.ensures.local
    ∙ ap₂ with_subcommand first (ap (λ (a : App). a.top) c.in_ok-check.ensures.app) in
    let third = c.in_ok-subcommand-3.ensures.shape c.in_ok-shrink.ensures.local
    ∙ ap₂ with_subcommand second (ap (λ (a : App). a.top) c.in_ok-shrink.ensures.app) in
    let fourth = c.in_ok-subcommand-4.ensures.shape c.in_ok-verify.ensures.local
    ∙ ap₂ with_subcommand third (ap (λ (a : App). a.top) c.in_ok-verify.ensures.app) in
    IfOk-weaker c.subcommand-5.result _ _ (λ r h. h.shape c.presets.ensures.local ∙ ap₂ with_subcommand fourth
    (ap (λ (a : App). a.top) c.presets.ensures.app)) c.subcommand-5.ensures
