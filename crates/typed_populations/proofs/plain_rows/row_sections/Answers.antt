use Rattle.std.proofs.Common.{◌≡◌, ◌<◌, ◌-◌, ◌++◌, ◌∙◌, length, take, get_or, replicate, sym, ap, subst, rules, arith}
use Rattle.typed_populations.proofs.Headed.{Numbered, numbered-first, numbered-next}
use Rattle.typed_populations.proofs.plain_rows.row_sections.Goals as goal

pub loop-k-init : goal.loop-k-init
loop-k-init c =
    subst (Numbered c.args.sections.now 0) (sym c.new-numbers.ensures.items)
    (numbered-first c.args.sections.now c.requires)

pub loop-k-preserved : goal.loop-k-preserved
loop-k-preserved c =
    let xs = c.args.sections.now in
    let k = c.loop-k.k in
    let x = get_or xs k c.index-sections-k.result in
    let old = c.loop-k.numbers in
    let lt : k < length xs = omega (arith, c.loop-k-test.true) in
    numbered-next xs k x old.items c.resize.new.self.items lt (ap (get_or xs k) c.index-sections-k.is) c.loop-k.invariant
    (c.in_ok-resize.ensures.items
    ∙ ap (λ n. take x.past old.items ++ replicate (x.past - n) c.in-Ok.number) old.ok.0
    ∙ ap (λ n. take x.past old.items ++ replicate (x.past - length old.items) n)
    (let same : c.in-Ok.number ≡ k = search rules in same))
