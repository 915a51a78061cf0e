use Rattle.std.proofs.Common.{◌≡◌, ◌∙◌, ◌∷◌, ap, sym, subst}
use Rattle.step_literals.specs.Bytes.{Stops}
use Rattle.step_literals.specs.Strings.{is_high}
use Rattle.step_literals.specs.declared.literal.items.Item.TheVariants.{Code}
use Rattle.express_lexer.specs.DoubledApostrophes.{undoubled, left}
use Rattle.express_lexer.specs.Meanings.{characters_of}
use Rattle.express_lexer.specs.steps.Left.{characters_left}
use Rattle.express_lexer.proofs.MeaningLemmas.{none_begun, first_says, none_left}
use Rattle.express_lexer.proofs.literal.characters.CharactersIterator.next.Goals as goal

pub returns-in-Some-inner-clause-steps : goal.returns-in-Some-inner-clause-steps
returns-in-Some-inner-clause-steps c = let s = c.args.self.now in
    none_begun s.run.now s.raw.now s.rest.now c.in_default.ensures.0.0 c.in_default.ensures.0.1
    ∙ ap (λ l. characters_of (undoubled l)) (sym c.in_default.ensures.2) ∙ sym c.at_run.ensures.left
    ∙ c.in-Some-inner.ensures

pub returns-in_err-first-clause-steps : goal.returns-in_err-first-clause-steps
returns-in_err-first-clause-steps c =
    let s = c.args.self.now in let t = c.inner-2.new.self in let r = c.at_run.result in
    let a = c.in_default.ensures in let b = c.in_default-inner.ensures in
    let over = none_left t.run.now t.raw.now t.rest.now b.1.0 b.1.1 c.in_err-first.ensures.cases in
    let same : characters_left s ≡ characters_left t =
    none_begun s.run.now s.raw.now s.rest.now a.0.0 a.0.1 ∙ ap (λ l. characters_of (undoubled l)) (sym a.2)
    ∙ sym c.at_run.ensures.left ∙ none_begun r.run.now r.raw.now r.rest.now b.0.0 b.0.1
    ∙ ap (λ l. characters_of (undoubled l)) (sym b.2) ∙ sym (none_begun t.run.now t.raw.now t.rest.now b.1.0 b.1.1) in
    rw c.from_residual.ensures (same ∙ over, over)

pub returns-clause-steps : goal.returns-clause-steps
returns-clause-steps c =
    let s = c.args.self.now in let t = c.inner-2.new.self in let r = c.at_run.result in
    let a = c.in_default.ensures in let b = c.in_default-inner.ensures in
    let same : characters_left s ≡ characters_left t =
    none_begun s.run.now s.raw.now s.rest.now a.0.0 a.0.1 ∙ ap (λ l. characters_of (undoubled l)) (sym a.2)
    ∙ sym c.at_run.ensures.left ∙ none_begun r.run.now r.raw.now r.rest.now b.0.0 b.0.1
    ∙ ap (λ l. characters_of (undoubled l)) (sym b.2) ∙ sym (none_begun t.run.now t.raw.now t.rest.now b.1.0 b.1.1) in
    let low = subst (Stops is_high) (sym b.2) c.at_run.ensures.stops in
    let says = first_says t.run.now t.raw.now t.rest.now c.in_ok-first.rest.now c.behind-self.result.now _ b.1.0 b.1.1
    c.in_ok-first.ensures.cases.0 low c.behind-self.ensures in
    same ∙ says ∙ ap (λ x. Code x ∷ left t.run.now t.raw.now c.behind-self.result.now) (sym c.from.ensures)
