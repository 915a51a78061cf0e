use Rattle.std.proofs.Common.{◌≡◌, ◌∙◌, sym, arith}
use Rattle.std.specs.Prelude.{◌-ℤ◌, ◌<ℤ◌, ◌≤ℤ◌, unsigned_abs}
use Rattle.std.specs.Int.{w64}
use Rattle.std.proofs.lemmas.Int.{ints, to_z-of_z}
use Rattle.rule_values.specs.Parts.{holding}
use Rattle.rule_values.proofs.Indexed.{index-fits, under-first, found-at, distance}
use Rattle.rule_values.proofs.indices.element_from.Goals as goal

pub returns-then-index-first : goal.returns-then-index-first
returns-then-index-first c =
    let test = c.if-index-first.true in
    let under : c.args.index <ℤ c.args.first = grind (arith, ints, to_z-of_z) in
    sym (under-first (holding c.args.part.now).elements c.args.first c.args.index under)

pub returns : goal.returns
returns c =
    let test = c.if-index-first.false in
    let behind : c.args.first ≤ℤ c.args.index = grind (arith, ints, to_z-of_z) in
    let far : c.abs_diff.result ≡ unsigned_abs (c.args.index -ℤ c.args.first) =
    c.abs_diff.ensures
    ∙ (λ i. unsigned_abs (to_z-of_z w64 c.args.index c.ranges.index i -ℤ to_z-of_z w64 c.args.first c.ranges.first i)) in
    c.datum.ensures ∙ c.element_value.ensures
    ∙ sym (found-at (holding c.args.part.now).elements c.args.first c.args.index c.abs_diff.result
    (distance c.args.first c.args.index c.abs_diff.result behind far) (index-fits c.args.index c.ranges.index))
