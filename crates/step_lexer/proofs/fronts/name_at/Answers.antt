use Rattle.std.proofs.Common.{sym, refl, arith, ◌∙◌, ap, ◌+◌, take}
use Rattle.std.specs.Str.Parse.{digits_value}
use Rattle.step_lexer.proofs.DigitsRead.{number_some, number_large}
use Rattle.step_lexer.proofs.FrontLemmas.{name_at, name_none_at}
use Rattle.step_lexer.proofs.fronts.name_at.Goals as goal

pub returns-then-len-eq0 : goal.returns-then-len-eq0
returns-then-len-eq0 c = name_none_at c.args.bytes.now c.split_at.result.1.now c.digits_number-number.result.1 c.requires
    c.split_at.ensures.back c.digits_number-number.ensures.len c.if-len-eq0.true

pub returns-in-Some : goal.returns-in-Some
returns-in-Some c =
    let n = name_at c.args.bytes.now c.split_at.result.1.now c.digits_number-number.result.1 c.requires c.split_at.ensures.back
    c.digits_number-number.ensures.len c.if-len-eq0.false in
    let v = number_some c.digits_number-number.result.0 c.in-Some.value
    (take c.digits_number-number.result.1 c.split_at.result.1.now) c.in-Some.is c.digits_number-number.ensures.number in
    record {
      within = n.0;
      next = n.1;
      value = (v.0 ∙ ap (digits_value 10) (sym n.2), v.1);
    }

pub returns-in-None : goal.returns-in-None
returns-in-None c =
    let n = name_at c.args.bytes.now c.split_at.result.1.now c.digits_number-number.result.1 c.requires c.split_at.ensures.back
    c.digits_number-number.ensures.len c.if-len-eq0.false in
    let v = number_large c.digits_number-number.result.0 (take c.digits_number-number.result.1 c.split_at.result.1.now)
    c.in-None.is c.digits_number-number.ensures.number in (
      record {
        len = 1 + c.digits_number-number.result.1;
        within = n.0;
        next = n.1;
        large = omega (arith, ap (digits_value 10) (sym n.2), v);
      },
      refl,
    )
