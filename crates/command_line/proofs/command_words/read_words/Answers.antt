use Rattle.std.proofs.Common.{◌≡◌, ◌∙◌, Some, refl, sym, ap, map, string_bytes, subst}
use Rattle.std.specs.Prelude.{unwrap_or}
use Rattle.clap.specs.Simple.{app_of, subcommand_rows_of}
use Rattle.command_line.specs.Clap.{HasValues}
use Rattle.command_line.specs.steps.AskedMerges.{check_given, shrink_given, verify_given}
use Rattle.command_line.specs.Commands.{AreOfCommand, AsksPlain, check_command, plain_command, presets_command, shrink_command, verify_command}
use Rattle.command_line.proofs.Asking.{are_texts, command_fits, failed, parsed, refused_calls, same_name}
use Rattle.command_line.proofs.Settling.{any_asked, meets, plain_is, presets_is, settled_asked, settled_called, settled_granted}
use Rattle.command_line.proofs.command_words.read_words.Goals as goal

pub returns-in-Err-clause-granted : goal.returns-in-Err-clause-granted
returns-in-Err-clause-granted c = λ asked.
    let any = any_asked asked in
    c.refused.ensures.memory (failed (app_of c.in_ok-stepmin.field-0) (map string_bytes c.args.words.now)
    c.in-Err.error c.in_ok-stepmin.ensures c.in-Err.ensures.kinds
    (command_fits (map string_bytes c.args.words.now) any.0 any.1 any.2.0))

pub returns-in-Err-clause-refused : goal.returns-in-Err-clause-refused
returns-in-Err-clause-refused c =
    refused_calls (app_of c.in_ok-stepmin.field-0) (map string_bytes c.args.words.now) c.in-Err.error c.refused.result
    c.in_ok-stepmin.ensures c.in-Err.ensures.kinds c.refused.ensures.kind

pub returns-in-Some-clause-asked : goal.returns-in-Some-clause-asked
returns-in-Some-clause-asked c =
    let words = map string_bytes c.args.words.now in
    let k = meets plain_command (parsed (app_of c.in_ok-stepmin.field-0) words c.in-Ok.matches c.in_ok-stepmin.ensures
    (are_texts c.args.words.now) c.in-Ok.ensures.kinds c.in-Ok.ensures.matches)
    (sym c.in-Some.ensures.command ∙ same_name _) in
    let is = plain_is k.0 k.1.4 k.1.5 in
    let same : Some c.in-Some.path.now ≡ Some is.0 = c.in-Some.ensures.file is.0
    (subst (HasValues (subcommand_rows_of c.in-Ok.matches) plain_command) is.1 k.2) in
    subst (AsksPlain words) (ap (λ o. unwrap_or o is.0) (sym same))
    (subst (AreOfCommand words plain_command) is.1 k.1, refl)

pub returns-in-Some-check_in-clause-asked : goal.returns-in-Some-check_in-clause-asked
returns-in-Some-check_in-clause-asked c =
    let words = map string_bytes c.args.words.now in
    let asked = c.in-Some-check_in.asked in
    let k = meets check_command (parsed (app_of c.in_ok-stepmin.field-0) words c.in-Ok.matches c.in_ok-stepmin.ensures
    (are_texts c.args.words.now) c.in-Ok.ensures.kinds c.in-Ok.ensures.matches)
    (sym c.in-Some-check_in.ensures.command ∙ same_name _) in
    let of : AreOfCommand words check_command (check_given asked) = subst (AreOfCommand words check_command)
    (sym (c.in-Some-check_in.ensures.values k.0 k.1.4 k.1.5 k.2)) k.1 in
    settled_asked words _ _ c.settled.result c.settled.ensures (λ none. (of, sym c.name_clash-said.ensures ∙ none))

pub returns-in-Some-check_in-clause-refused : goal.returns-in-Some-check_in-clause-refused
returns-in-Some-check_in-clause-refused c =
    let words = map string_bytes c.args.words.now in
    let asked = c.in-Some-check_in.asked in
    let k = meets check_command (parsed (app_of c.in_ok-stepmin.field-0) words c.in-Ok.matches c.in_ok-stepmin.ensures
    (are_texts c.args.words.now) c.in-Ok.ensures.kinds c.in-Ok.ensures.matches)
    (sym c.in-Some-check_in.ensures.command ∙ same_name _) in
    let of : AreOfCommand words check_command (check_given asked) = subst (AreOfCommand words check_command)
    (sym (c.in-Some-check_in.ensures.values k.0 k.1.4 k.1.5 k.2)) k.1 in
    settled_called words check_command (check_given asked) _ _ c.settled.result c.settled.ensures of c.name_clash-said.ensures

pub returns-in-Some-check_in-clause-granted : goal.returns-in-Some-check_in-clause-granted
returns-in-Some-check_in-clause-granted c =
    let words = map string_bytes c.args.words.now in
    let asked = c.in-Some-check_in.asked in
    let k = meets check_command (parsed (app_of c.in_ok-stepmin.field-0) words c.in-Ok.matches c.in_ok-stepmin.ensures
    (are_texts c.args.words.now) c.in-Ok.ensures.kinds c.in-Ok.ensures.matches)
    (sym c.in-Some-check_in.ensures.command ∙ same_name _) in
    let of : AreOfCommand words check_command (check_given asked) = subst (AreOfCommand words check_command)
    (sym (c.in-Some-check_in.ensures.values k.0 k.1.4 k.1.5 k.2)) k.1 in
    settled_granted words check_command (check_given asked) _ _ c.settled.result c.settled.ensures of c.name_clash-said.ensures

pub returns-in-Some-shrink_in-clause-asked : goal.returns-in-Some-shrink_in-clause-asked
returns-in-Some-shrink_in-clause-asked c =
    let words = map string_bytes c.args.words.now in
    let asked = c.in-Some-shrink_in.asked in
    let k = meets shrink_command (parsed (app_of c.in_ok-stepmin.field-0) words c.in-Ok.matches c.in_ok-stepmin.ensures
    (are_texts c.args.words.now) c.in-Ok.ensures.kinds c.in-Ok.ensures.matches)
    (sym c.in-Some-shrink_in.ensures.command ∙ same_name _) in
    let of : AreOfCommand words shrink_command (shrink_given asked) = subst (AreOfCommand words shrink_command)
    (sym (c.in-Some-shrink_in.ensures.values k.0 k.1.4 k.2)) k.1 in
    settled_asked words _ _ c.settled-in-Some-shrink_in.result c.settled-in-Some-shrink_in.ensures (λ none. (of, sym c.shrink_clash-said.ensures ∙ none))

pub returns-in-Some-shrink_in-clause-refused : goal.returns-in-Some-shrink_in-clause-refused
returns-in-Some-shrink_in-clause-refused c =
    let words = map string_bytes c.args.words.now in
    let asked = c.in-Some-shrink_in.asked in
    let k = meets shrink_command (parsed (app_of c.in_ok-stepmin.field-0) words c.in-Ok.matches c.in_ok-stepmin.ensures
    (are_texts c.args.words.now) c.in-Ok.ensures.kinds c.in-Ok.ensures.matches)
    (sym c.in-Some-shrink_in.ensures.command ∙ same_name _) in
    let of : AreOfCommand words shrink_command (shrink_given asked) = subst (AreOfCommand words shrink_command)
    (sym (c.in-Some-shrink_in.ensures.values k.0 k.1.4 k.2)) k.1 in
    settled_called words shrink_command (shrink_given asked) _ _ c.settled-in-Some-shrink_in.result c.settled-in-Some-shrink_in.ensures of c.shrink_clash-said.ensures

pub returns-in-Some-shrink_in-clause-granted : goal.returns-in-Some-shrink_in-clause-granted
returns-in-Some-shrink_in-clause-granted c =
    let words = map string_bytes c.args.words.now in
    let asked = c.in-Some-shrink_in.asked in
    let k = meets shrink_command (parsed (app_of c.in_ok-stepmin.field-0) words c.in-Ok.matches c.in_ok-stepmin.ensures
    (are_texts c.args.words.now) c.in-Ok.ensures.kinds c.in-Ok.ensures.matches)
    (sym c.in-Some-shrink_in.ensures.command ∙ same_name _) in
    let of : AreOfCommand words shrink_command (shrink_given asked) = subst (AreOfCommand words shrink_command)
    (sym (c.in-Some-shrink_in.ensures.values k.0 k.1.4 k.2)) k.1 in
    settled_granted words shrink_command (shrink_given asked) _ _ c.settled-in-Some-shrink_in.result c.settled-in-Some-shrink_in.ensures of c.shrink_clash-said.ensures

pub returns-in-Some-verify_in-clause-asked : goal.returns-in-Some-verify_in-clause-asked
returns-in-Some-verify_in-clause-asked c =
    let words = map string_bytes c.args.words.now in
    let asked = c.in-Some-verify_in.asked in
    let k = meets verify_command (parsed (app_of c.in_ok-stepmin.field-0) words c.in-Ok.matches c.in_ok-stepmin.ensures
    (are_texts c.args.words.now) c.in-Ok.ensures.kinds c.in-Ok.ensures.matches)
    (sym c.in-Some-verify_in.ensures.command ∙ same_name _) in
    let of : AreOfCommand words verify_command (verify_given asked) = subst (AreOfCommand words verify_command)
    (sym (c.in-Some-verify_in.ensures.values k.0 k.1.4 k.1.5 k.2)) k.1 in
    settled_asked words _ _ c.settled-in-Some-verify_in.result c.settled-in-Some-verify_in.ensures (λ none. (of, sym c.verify_clash-said.ensures ∙ none))

pub returns-in-Some-verify_in-clause-refused : goal.returns-in-Some-verify_in-clause-refused
returns-in-Some-verify_in-clause-refused c =
    let words = map string_bytes c.args.words.now in
    let asked = c.in-Some-verify_in.asked in
    let k = meets verify_command (parsed (app_of c.in_ok-stepmin.field-0) words c.in-Ok.matches c.in_ok-stepmin.ensures
    (are_texts c.args.words.now) c.in-Ok.ensures.kinds c.in-Ok.ensures.matches)
    (sym c.in-Some-verify_in.ensures.command ∙ same_name _) in
    let of : AreOfCommand words verify_command (verify_given asked) = subst (AreOfCommand words verify_command)
    (sym (c.in-Some-verify_in.ensures.values k.0 k.1.4 k.1.5 k.2)) k.1 in
    settled_called words verify_command (verify_given asked) _ _ c.settled-in-Some-verify_in.result c.settled-in-Some-verify_in.ensures of c.verify_clash-said.ensures

pub returns-in-Some-verify_in-clause-granted : goal.returns-in-Some-verify_in-clause-granted
returns-in-Some-verify_in-clause-granted c =
    let words = map string_bytes c.args.words.now in
    let asked = c.in-Some-verify_in.asked in
    let k = meets verify_command (parsed (app_of c.in_ok-stepmin.field-0) words c.in-Ok.matches c.in_ok-stepmin.ensures
    (are_texts c.args.words.now) c.in-Ok.ensures.kinds c.in-Ok.ensures.matches)
    (sym c.in-Some-verify_in.ensures.command ∙ same_name _) in
    let of : AreOfCommand words verify_command (verify_given asked) = subst (AreOfCommand words verify_command)
    (sym (c.in-Some-verify_in.ensures.values k.0 k.1.4 k.1.5 k.2)) k.1 in
    settled_granted words verify_command (verify_given asked) _ _ c.settled-in-Some-verify_in.result c.settled-in-Some-verify_in.ensures of c.verify_clash-said.ensures

pub returns-then-is_presets-clause-asked : goal.returns-then-is_presets-clause-asked
returns-then-is_presets-clause-asked c =
    let words = map string_bytes c.args.words.now in
    let k = meets presets_command (parsed (app_of c.in_ok-stepmin.field-0) words c.in-Ok.matches c.in_ok-stepmin.ensures
    (are_texts c.args.words.now) c.in-Ok.ensures.kinds c.in-Ok.ensures.matches)
    (sym (c.is_presets.ensures c.if-is_presets.true) ∙ same_name _) in
    (subst (AreOfCommand words presets_command) (presets_is k.0 k.1.4 k.1.5) k.1, refl)
