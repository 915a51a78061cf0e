use Rattle.std.proofs.Common.{rules, sym, ap, ◌∙◌, ◌∷◌, ◌+◌}
use Rattle.std.specs.Prelude.{drop}
use Rattle.std.specs.List.{flat_map}
use Rattle.step_literals.specs.Bits.{digit_bits}
use Rattle.step_literals.proofs.BitsLemmas.{last_bit, other_bit}
use Rattle.step_literals.proofs.literal.binaries.BitsLeftIterator.next.Goals as goal

pub returns-then-self-eq3-clause-steps : goal.returns-then-self-eq3-clause-steps
returns-then-self-eq3-clause-steps c =
    let b = c.args.self.now in
    let rest = c.in_ok-digit.rest.now in
    last_bit b.passed c.in_ok-digit.digit.now rest b.digits.now c.if-self-eq3.true c.in_ok-digit.ensures.cases.0
    ∙ ap (λ x. x ∷ flat_map digit_bits rest) (sym c.digit_bit-bit.ensures)

pub returns-then-self-eq3-clause-goes : goal.returns-then-self-eq3-clause-goes
returns-then-self-eq3-clause-goes c =
    let b = c.args.self.now in
    let e = last_bit b.passed c.in_ok-digit.digit.now c.in_ok-digit.rest.now b.digits.now c.if-self-eq3.true
    c.in_ok-digit.ensures.cases.0 in
    search rules

pub returns-else-self-eq3-clause-steps : goal.returns-else-self-eq3-clause-steps
returns-else-self-eq3-clause-steps c =
    let b = c.args.self.now in
    other_bit b.passed c.in_ok-digit.digit.now c.in_ok-digit.rest.now b.digits.now b.within c.if-self-eq3.false
    c.in_ok-digit.ensures.cases.0 ∙ ap (λ x. x ∷ drop (b.passed + 1) (flat_map digit_bits b.digits.now))
    (sym c.digit_bit-bit.ensures)

pub returns-else-self-eq3-clause-goes : goal.returns-else-self-eq3-clause-goes
returns-else-self-eq3-clause-goes c =
    let b = c.args.self.now in
    let e = other_bit b.passed c.in_ok-digit.digit.now c.in_ok-digit.rest.now b.digits.now b.within c.if-self-eq3.false
    c.in_ok-digit.ensures.cases.0 in
    search rules
