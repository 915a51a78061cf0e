use Rattle.std.proofs.Common.{◌≡◌, ◌<◌, length, get_or, arith}
use Rattle.std.proofs.lemmas.Bool.Decides.{nat_tests}
use Rattle.step_literals.proofs.BinaryLemmas.{none_bits, none_open, binary_at}
use Rattle.step_literals.proofs.binaries.binary_len.Goals.{else-len-eq0-via-then-len-eq0+else-unused-ne48, else-len-eq0-via-else-len-eq0, then-is_empty-2-via-then-is_empty-2, then-is_empty-2-via-else-is_empty-2+then-after-ne34}
use Rattle.step_literals.proofs.binaries.binary_len.Goals as goal

pub returns-then-unused-ne48 : goal.returns-then-unused-ne48
returns-then-unused-ne48 c =
    let r = c.split_at.result.1.now in
    let some : 0 < length r = grind (arith, nat_tests) in
    λ k other rest e. none_bits c.args.bytes.now r c.requires c.split_at.ensures.back c.split_at-2.result.1.now some
    c.split_at-2.ensures.back c.hex_len-len.result c.hex_len-len.ensures.len c.if-len-eq0.true c.if-unused-ne48.true
    k other rest e

pub returns-then-is_empty-2 : goal.returns-then-is_empty-2
returns-then-is_empty-2 c =
    let r = c.split_at.result.1.now in
    let some : 0 < length r = grind (arith, nat_tests) in
    let after = c.split_at-3.result.1.now in
    let unquoted : 0 < length after → get_or after 0 0 ≡ 34 → ⊥ = λ h e. elim c.then-is_empty-2.branch [
      | then-is_empty-2-via-then-is_empty-2 w ↦ grind (arith, nat_tests)
      | then-is_empty-2-via-else-is_empty-2+then-after-ne34 w ↦ w.if-after-ne34.true e
    ] in
    λ k other rest e. none_open c.args.bytes.now r c.requires c.split_at.ensures.back c.split_at-2.result.1.now some
    c.split_at-2.ensures.back c.hex_len-len.result after c.hex_len-len.ensures.len c.split_at-3.ensures.back
    unquoted k other rest e

pub returns : goal.returns
returns c =
    let r = c.split_at.result.1.now in
    let some : 0 < length r = grind (arith, nat_tests) in
    let after = c.split_at-3.result.1.now in
    let some_after : 0 < length after = grind (arith, nat_tests) in
    let bits : c.hex_len-len.result ≡ 0 → get_or r 0 0 ≡ 48 = λ z. elim c.else-len-eq0.branch [
      | else-len-eq0-via-then-len-eq0+else-unused-ne48 w ↦ w.if-unused-ne48.false
      | else-len-eq0-via-else-len-eq0 w ↦
          absurd (w.if-len-eq0.false z)
    ] in
    binary_at c.args.bytes.now r c.requires c.split_at.ensures.back c.split_at-2.result.1.now some
    c.split_at-2.ensures.back c.hex_len-len.result after c.hex_len-len.ensures.len c.split_at-3.ensures.back
    some_after c.if-after-ne34.false (omega (arith, c.if-unused-lt48.false)) (omega (arith, c.if-unused-gt51.false))
    bits
