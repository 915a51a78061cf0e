use Rattle.std.proofs.Common.{◌≡◌, ◌≤◌, ◌+◌, ◌-◌, ◌++◌, length, take, drop, reverse, sym, ap, ◌∙◌, arith}
use Rattle.std.proofs.lemmas.List.{with_items_is}
use Rattle.parsing.proofs.Buffers.{pending_len, closes}
use Rattle.parsing.proofs.column.Column.close.Goals as goal

pub returns : goal.returns
returns g c =
    let v = c.self.inside in
    let xs = c.self.inside.cells.items in
    let ys = c.move_reversed.new.cells in
    let mark = c.args.mark in
    let end = c.len.result - c.args.mark in
    let slice : c.as_mut_slice.result.now ≡ xs = c.as_mut_slice.ensures.value in
    let size : c.len.result ≡ length xs = c.len.ensures ∙ v.cells.ok.0 in
    let pending : length xs - v.top ≡ length c.args.self.now.pending =
    pending_len xs v.len v.top c.args.self.now c.self.view_is in
    let asked : mark ≤ length c.args.self.now.pending = c.requires in
    let top : v.top ≤ length xs = c.self.invariant.1 in
    let up : v.top ≤ end = omega (arith, size, pending, asked, top) in
    let all : end + mark ≡ length xs = omega (arith, size, pending, asked, top) in
    let long : length ys ≡ v.cells.len = c.move_reversed.ensures.len ∙ ap length slice ∙ sym v.cells.ok.0 in
    let items = with_items_is v.cells ys long in
    let front = ap (take (v.len + (end - v.top))) items ∙ c.move_reversed.ensures.front
    ∙ ap (λ l. take v.len l ++ reverse (take (end - v.top) (drop v.top l))) slice in
    let behind = ap (drop end) items ∙ c.move_reversed.ensures.behind ∙ ap (drop end) slice in
    let whole = closes xs _ v.len v.top end mark up all c.self.invariant.0 front behind in
    rw (← c.self.view_is) whole
