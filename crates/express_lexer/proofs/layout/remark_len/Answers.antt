use Rattle.std.proofs.Common.{◌≡◌, ◌-◌, refl, [], ◌++◌, length, sym, ap, ◌∙◌, subst, arith, codes, take-append-drop}
use Rattle.express_lexer.specs.Layout.{turns}
use Rattle.express_lexer.proofs.Remarks.{Counts, counts_start, counts_open, counts_close, counts_byte, not_closed, remark_at, stripped, no_turn, empty_of}
use Rattle.express_lexer.proofs.layout.remark_len.Goals as goal

pub loop-open-init : goal.loop-open-init
loop-open-init c =
    let whole = sym (take-append-drop 2 c.args.bytes.now) ∙ (λ i. c.requires i ++ sym c.split_at.ensures.back i) in
    (counts_start c.args.bytes.now c.split_at.result.1.now whole, omega (arith, ap length whole))

pub loop-open-preserved-in-Some : goal.loop-open-preserved-in-Some
loop-open-preserved-in-Some c =
    let bytes = c.args.bytes.now in
    let n = c.loop-open.open in
    let after = c.in-Some.after.now in
    let i = c.loop-open.invariant in
    let split = stripped (codes "(*") c.loop-open.rest.now after c.in-Some.ensures.cases.0 c.in-Some.ensures.cases.1 in (
      counts_open bytes n c.loop-open-test.true after (subst (Counts bytes n) split i.0),
      omega (arith, ap length split, i.1),
    )

pub loop-open-preserved-in-Some-strip_prefix : goal.loop-open-preserved-in-Some-strip_prefix
loop-open-preserved-in-Some-strip_prefix c =
    let bytes = c.args.bytes.now in
    let n = c.loop-open.open in
    let after = c.in-Some-strip_prefix.after.now in
    let i = c.loop-open.invariant in
    let split = stripped (codes "*)") c.loop-open.rest.now after c.in-Some-strip_prefix.ensures.cases.0
    c.in-Some-strip_prefix.ensures.cases.1 in (
      counts_close bytes n c.loop-open-test.true after (subst (Counts bytes n) split i.0),
      omega (arith, ap length split, i.1),
    )

pub returns-in_err-after : goal.returns-in_err-after
returns-in_err-after c =
    let bytes = c.args.bytes.now in
    let n = c.loop-open.open in
    let counts : Counts bytes n [] = subst (Counts bytes n) (empty_of c.loop-open.rest.now c.in_err-after.ensures.cases)
    c.loop-open.invariant.0 in
    rw c.from_residual.ensures (not_closed bytes n c.loop-open-test.true counts)

pub loop-open-preserved : goal.loop-open-preserved
loop-open-preserved c =
    let bytes = c.args.bytes.now in
    let n = c.loop-open.open in
    let after = c.in_ok-after.after.now in
    let i = c.loop-open.invariant in
    let split = c.in_ok-after.ensures.cases.0 in
    let plain = no_turn c.loop-open.rest.now c.in_default.ensures.cases c.in_default-strip_prefix.ensures.cases in (
      counts_byte bytes n c.loop-open-test.true after _ (ap turns (sym split) ∙ plain)
          (subst (Counts bytes n) split i.0),
      omega (arith, ap length split, i.1),
    )

pub returns : goal.returns
returns c =
    let bytes = c.args.bytes.now in
    let i = c.loop-open.invariant in
    let zero : c.loop-open.open ≡ 0 = omega (arith, c.loop-open-test.false) in
    remark_at bytes (length bytes - length c.loop-open.rest.now) c.loop-open.rest.now refl (rw zero at i.0)
