use Rattle.std.proofs.Common.{◌+◌, ap, refl, rules}
use Rattle.step_lexer.specs.Reading.{Reading, lexis}
use Rattle.parsing.proofs.Readings.{faulty}
use Rattle.step_lexer.proofs.lexer.Lexer.next_token.Goals as goal

pub returns-in-Err : goal.returns-in-Err
returns-in-Err c =
    faulty lexis c.args.self.now c.self.inside.text.now c.split_at.result.1.now c.self.inside.place c.layout_len.result
    (ap (λ (r : Reading). r.text) c.self.view_is) (ap (λ (r : Reading). r.place) c.self.view_is) c.self.invariant
    c.split_at.ensures.back c.layout_len.ensures.within c.layout_len.ensures.layout c.split_at-2.result.1.now
    (record {
      flaw = c.in-Err.flaw;
      place = c.self.inside.place + c.layout_len.result + c.in-Err.index;
    })
    c.split_at-2.ensures.back (search rules) (c.in-Err.index, c.in-Err.ensures, refl)
