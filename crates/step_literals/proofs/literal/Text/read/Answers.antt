use Rattle.std.proofs.Common.{refl, sym, take, drop, take-append-drop}
use Rattle.step_literals.specs.Tokens.{string}
use Rattle.step_literals.proofs.LiteralLemmas.{whole_allowed, not_whole, none_whole, broken_content}
use Rattle.step_literals.proofs.DirectiveLemmas.{readable_not_broken}
use Rattle.step_literals.specs.Strings.{content_of}
use Rattle.step_literals.proofs.literal.Text.read.Goals as goal

pub returns-in_default-clause-otherwise : goal.returns-in_default-clause-otherwise
returns-in_default-clause-otherwise c = λ text. none_whole string c.args.bytes.now c.in_default.ensures
    (text.string_is, tt)

pub returns-then-len-bytes-clause-cases : goal.returns-then-len-bytes-clause-cases
returns-then-len-bytes-clause-cases c =
    let bytes = c.args.bytes.now in
    let n = c.in-Some.len in (
      λ h. not_whole string bytes n c.in-Some.ensures.1 c.if-len-bytes.true (h, tt),
      λ first none. none string (take n bytes) (drop n bytes) (sym (take-append-drop n bytes))
          c.in-Some.ensures.1.allowed,
      refl,
    )

pub returns-then-len-bytes-clause-otherwise : goal.returns-then-len-bytes-clause-otherwise
returns-then-len-bytes-clause-otherwise c = λ text. not_whole string c.args.bytes.now c.in-Some.len c.in-Some.ensures.1
    c.if-len-bytes.true (text.string_is, tt)

pub returns-in-Some-broken_directive-clause-cases : goal.returns-in-Some-broken_directive-clause-cases
returns-in-Some-broken_directive-clause-cases c =
    let spelled = (whole_allowed string c.args.bytes.now c.in-Some.len c.in-Some.ensures.1 c.if-len-bytes.false).0 in (
      c.in-Some-broken_directive.index,
      spelled,
      broken_content c.args.bytes.now c.in-Some.len
          c.in-Some-broken_directive.index c.in-Some.ensures.0 c.if-len-bytes.false c.in-Some-broken_directive.ensures,
      refl,
    )

pub returns-in-Some-broken_directive-clause-otherwise : goal.returns-in-Some-broken_directive-clause-otherwise
returns-in-Some-broken_directive-clause-otherwise c =
    λ text. readable_not_broken (content_of c.args.bytes.now) c.in-Some-broken_directive.index text.readable
    (broken_content c.args.bytes.now c.in-Some.len c.in-Some-broken_directive.index c.in-Some.ensures.0
    c.if-len-bytes.false c.in-Some-broken_directive.ensures)
