use Rattle.std.proofs.Common.{◌∷◌, ◌∙◌, sym, ap, refl, drop}
use Rattle.step_literals.specs.Strings.{clean, apostrophe}
use Rattle.step_literals.proofs.ItemLemmas.{goes_piece, two_apostrophes}
use Rattle.step_literals.proofs.literal.rest.Rest.piece.Goals as goal

pub returns-in-Some : goal.returns-in-Some
returns-in-Some c =
    let bs = clean c.args.self.bytes.now in
    let e = c.in_ok-first.ensures.first ∙ ap (λ b. b ∷ clean c.in_ok-first.after.now) c.in-39.is in
    goes_piece bs c.in-Some.rest.now apostrophe c.args.self.page c.args.self.page
    (two_apostrophes e c.in-Some.ensures.0) c.new.ensures.bytes (c.in-Some.ensures.1.left
    ∙ sym (ap (λ l. drop 2 l) e)) c.new.ensures.left (λ ps. refl)
