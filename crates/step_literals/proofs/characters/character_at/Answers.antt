use Rattle.std.proofs.Common.{◌≡◌, ◌<◌, ◌≤◌, ◌∙◌, sym, ap, arith, drop, length}
use Rattle.std.proofs.lemmas.Bool.Decides.{nat_tests}
use Rattle.std.proofs.Math.Utf8.{encode}
use Rattle.step_literals.specs.Strings.{clean}
use Rattle.step_literals.specs.steps.Characters.{BeginsCharacter}
use Rattle.step_literals.proofs.CharacterLemmas.{window_none, window_some, none_high}
use Rattle.step_literals.proofs.characters.character_at.Goals as goal

pub returns-in_err-character : goal.returns-in_err-character
returns-in_err-character c = rw c.from_residual.ensures (window_none c.window_of-len.ensures.same
    c.in_err-character.ensures)

pub returns-then-is_ascii : goal.returns-then-is_ascii
returns-then-is_ascii c =
    let low : c.in_ok-character.character < 128 = let e = sym c.is_ascii.ensures ∙ c.if-is_ascii.true in
    grind (arith, nat_tests) in
    none_high (window_some c.window_of-len.ensures.same c.in_ok-character.ensures.1) low

pub returns : goal.returns
returns c =
    let x = c.in_ok-character.character in
    let bs = clean c.args.bytes.now in
    let high : 128 ≤ x = let e = sym c.is_ascii.ensures ∙ c.if-is_ascii.false in grind (arith, nat_tests) in
    let left : drop (length (encode x)) bs ≡ clean c.skip.result.now = ap (λ n. drop n bs) (sym c.len_utf8.ensures.len)
    ∙ sym c.skip.ensures.left in
    let found : BeginsCharacter bs x (clean c.skip.result.now) =
    rw left at (window_some c.window_of-len.ensures.same c.in_ok-character.ensures.1) in
    rw c.from.ensures (found, high)
