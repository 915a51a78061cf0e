use Rattle.std.proofs.Common.{◌<◌, ◌+◌, ◌∙◌, true, refl, sym, subst, take, drop, length, arith, length-drop}
use Rattle.step_lexer.specs.declared.token.Sort.TheVariants as sorts
use Rattle.step_lexer.specs.declared.token.Token.{Token}
use Rattle.step_lexer.specs.Reading.{Reading, SkipsMark}
use Rattle.step_lexer.proofs.MarkFound.{first_left, mark_taken}
use Rattle.step_lexer.proofs.lexer.Lexer.skip_mark.Goals as goal

pub returns : goal.returns
returns c =
    let text = c.self.inside.text.now in
    let at = c.self.inside.place in
    let old : Reading = record { text = text; place = at } in
    let new : Reading = record { text = text; place = at + 1 } in
    let left = drop at text in
    let t : Token = record {
      sort = sorts.Mark c.args.wanted;
      text = record c.self.inside.text { now = take 1 left };
      place = at;
    } in
    let some : 0 < length left = omega (arith, length-drop at text, c.if-place-self.false) in
    let first = sym c.byte_of.ensures ∙ sym c.if-self-place.false ∙ first_left text at in
    let P : Reading → Type 0 = λ r. SkipsMark c.args.wanted true r new in
    subst P c.self.view_is (
      t,
      refl,
      mark_taken old left t c.args.wanted new c.self.invariant refl some first refl refl
          refl refl refl,
    )
