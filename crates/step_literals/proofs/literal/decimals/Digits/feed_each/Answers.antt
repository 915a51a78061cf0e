use Rattle.std.proofs.Common.{ℕ, List, ◌∙◌, arith}
use Rattle.step_literals.specs.steps.Digits.{digits_of}
use Rattle.step_literals.proofs.DecimalDigits.{fed_at, fed_before_it, front_wraps}
use Rattle.step_literals.proofs.literal.decimals.Digits.feed_each.Goals as goal
use Rattle.step_literals.proofs.literal.decimals.Digits.feed_each.Goals.{then-i, else-i}

pub loop-i-preserved : goal.loop-i-preserved
loop-i-preserved g c =
    let write = g.H.Hasher.write in
    let xs : List ℕ = digits_of c.args.self.now in
    let i : ℕ = c.loop-i.i in
    let worth = front_wraps xs i c.loop-i.value c.from.result c.loop-i.invariant.value (c.from.ensures ∙ c.digit.ensures) in
    record {
      value = worth;
      fed = elim c.if-i.branch [
        | then-i w ↦
            fed_at write c.args.state.now c.loop-i.state c.if-i.state xs i c.loop-i.invariant.fed _ (omega (arith, w.if-i))
            worth (w.state-is ∙ w.write_u64.ensures)
        | else-i w ↦
            fed_before_it write c.args.state.now c.loop-i.state c.if-i.state xs i c.loop-i.invariant.fed
            (λ e. omega (arith, e, w.if-i)) w.state-is
      ];
    }
