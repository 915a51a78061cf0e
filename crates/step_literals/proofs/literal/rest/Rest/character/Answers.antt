use Rattle.std.proofs.Common.{◌≡◌, subst, true}
use Rattle.std.specs.Str.{is_utf8}
use Rattle.step_literals.specs.Strings.{clean}
use Rattle.step_literals.specs.steps.Characters.{high_run}
use Rattle.step_literals.specs.steps.Inside.{is_sound}
use Rattle.step_literals.proofs.ItemLemmas.{group_goes, character_goes, byte_goes, over_characters}
use Rattle.step_literals.proofs.literal.rest.Rest.character.Goals as goal

pub returns-in_err-code-in-Characters : goal.returns-in_err-code-in-Characters
returns-in_err-code-in-Characters c =
    let bs = clean c.args.self.bytes.now in
    let sound : is_utf8 (high_run bs) ≡ true = subst (λ i. is_sound i bs ≡ true) c.in-Characters.is c.args.self.sound in
    rw (c.from_residual.ensures, c.in-Characters.is) (over_characters bs sound c.in_err-code-in-Characters.ensures)

pub returns-in_ok-code-in-Characters : goal.returns-in_ok-code-in-Characters
returns-in_ok-code-in-Characters c =
    let bs = clean c.args.self.bytes.now in
    let sound : is_utf8 (high_run bs) ≡ true = subst (λ i. is_sound i bs ≡ true) c.in-Characters.is c.args.self.sound in
    rw c.in-Characters.is (character_goes c.args.self.page c.in_ok-code-in-Characters.code bs
    (clean c.in_ok-code-in-Characters.after.now) sound c.in_ok-code-in-Characters.ensures)

pub returns-else-not-begins_hex : goal.returns-else-not-begins_hex
returns-else-not-begins_hex c =
    let bs = clean c.args.self.bytes.now in
    let sound = subst (λ i. is_sound i bs ≡ true) c.in-Groups.is c.args.self.sound in
    rw c.in-Groups.is (group_goes c.in-Groups.width c.args.self.page c.number_at-code.result.0 bs
    (clean c.number_at-code.result.1.now) c.if-not-begins_hex.ensures c.number_at-code.ensures.value
    c.number_at-code.ensures.left sound)

pub returns-else-byte-lt128 : goal.returns-else-byte-lt128
returns-else-byte-lt128 c =
    rw c.in-Bytes.is (byte_goes c.args.self.page c.in_ok-byte-in-Bytes.byte (clean c.args.self.bytes.now)
    (clean c.in_ok-byte-in-Bytes.after.now) c.in_ok-byte-in-Bytes.ensures.first c.if-byte-lt128.false)
