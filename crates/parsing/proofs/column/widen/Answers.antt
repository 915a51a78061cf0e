use Rattle.std.proofs.Common.{◌≡◌, ◌+◌, ◌-◌, ◌++◌, length, take, drop, replicate, sym, ap, ◌∙◌, subst, arith, rules, take_all}
use Rattle.std.proofs.lemmas.List.{length-replicate, with_items_is}
use Rattle.parsing.specs.steps.Gaps.{Frees}
use Rattle.parsing.proofs.Buffers.{widened}
use Rattle.parsing.proofs.column.widen.Goals as goal

pub returns : goal.returns
returns g c =
    let old = c.args.cells.now.items in
    let top = c.args.top in
    let free = c.free_cells-free.result in
    let new = c.move_up.new.cells in
    let size : c.len-end.result ≡ length old = c.len-end.ensures ∙ c.args.cells.now.ok.0 in
    let len : c.args.cells.now.len ≡ length old = c.args.cells.now.ok.0 in
    let more = replicate (c.len-end.result + free - c.args.cells.now.len) c.args.filler in
    let long : length more ≡ free = length-replicate (c.len-end.result + free - c.args.cells.now.len) c.args.filler
    ∙ omega (arith, size, len) in
    let grown : c.resize.new.self.items ≡ old ++ more = search rules
    ∙ ap (λ l. l ++ more) (take_all (c.len-end.result + free) old (omega (arith, size))) in
    let given = c.as_mut_slice.ensures.value ∙ grown in
    let whole : length new ≡ c.resize.new.self.len = c.move_up.ensures.len ∙ ap length c.as_mut_slice.ensures.value
    ∙ sym c.resize.new.self.ok.0 in
    subst (λ l. Frees top old top l (top + free)) (sym (with_items_is c.resize.new.self new whole))
    (widened old more new top free c.requires c.free_cells-free.ensures.positive long
    (c.move_up.ensures.len ∙ ap length given) (c.move_up.ensures.front ∙ ap (take top) given)
    (c.move_up.ensures.behind ∙ ap (λ l. take (length l - free - top) (drop top l)) given))
