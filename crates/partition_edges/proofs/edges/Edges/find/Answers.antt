use Rattle.std.proofs.Common.{rules, ◌≡◌, ◌≤◌, ◌+◌, ℕ, List, [], length, sym, subst, arith}
use Rattle.std.specs.List.{between}
use Rattle.partition_edges.specs.declared.edges.Edge.{Edge}
use Rattle.partition_edges.specs.Edges.{AreInto}
use Rattle.partition_edges.specs.steps.Index.{IsStart}
use Rattle.partition_edges.proofs.Searching.{start_read, in_order, are_into, none_into}
use Rattle.partition_edges.proofs.edges.Edges.find.Goals as goal

pub returns-then-at-len : goal.returns-then-at-len
returns-then-at-len c =
    let e = c.len.ensures in
    let f = c.self.inside.starts.ok.0 in
    let lengths : c.len.result ≡ length c.self.inside.starts.items = omega arith in
    subst (λ l. AreInto l c.args.target []) c.self.view_is
    (none_into c.self.inside.edges.items c.self.inside.starts.items c.args.target c.self.invariant
    (omega (arith, lengths, c.if-at-len.true)))

pub offset_bounds-deref-first : goal.offset_bounds-deref-first
offset_bounds-deref-first c =
    let es : List Edge = c.self.inside.edges.items in
    let starts : List ℕ = c.self.inside.starts.items in
    let t : ℕ = c.args.target in
    let first : ℕ = c.index-first.result.now in
    let e = c.len.ensures in
    let f = c.self.inside.starts.ok.0 in
    let lengths : c.len.result ≡ length starts = omega arith in
    let begins : IsStart es t first =
    start_read es starts t first c.self.invariant (omega (arith, lengths, c.if-at-len.false)) c.index-first.ensures in
    let within : first ≤ length c.deref.result.now =
    subst (λ l. first ≤ length l) (sym c.deref.ensures.value) begins.within in
    search rules

pub slice_bounds-result-count : goal.slice_bounds-result-count
slice_bounds-result-count c =
    let es : List Edge = c.self.inside.edges.items in
    let starts : List ℕ = c.self.inside.starts.items in
    let t : ℕ = c.args.target in
    let first : ℕ = c.index-first.result.now in
    let end : ℕ = c.index-end.result.now in
    let e = c.len.ensures in
    let f = c.self.inside.starts.ok.0 in
    let lengths : c.len.result ≡ length starts = omega arith in
    let begins : IsStart es t first =
    start_read es starts t first c.self.invariant (omega (arith, lengths, c.if-at-len.false)) c.index-first.ensures in
    let ends : IsStart es (t + 1) end =
    start_read es starts (t + 1) end c.self.invariant (omega (arith, lengths, c.if-at-len.false)) c.index-end.ensures in
    in_order es t first end begins ends

pub slice_bounds-result-start : goal.slice_bounds-result-start
slice_bounds-result-start c =
    let es : List Edge = c.self.inside.edges.items in
    let starts : List ℕ = c.self.inside.starts.items in
    let t : ℕ = c.args.target in
    let first : ℕ = c.index-first.result.now in
    let end : ℕ = c.index-end.result.now in
    let e = c.len.ensures in
    let f = c.self.inside.starts.ok.0 in
    let lengths : c.len.result ≡ length starts = omega arith in
    let begins : IsStart es t first =
    start_read es starts t first c.self.invariant (omega (arith, lengths, c.if-at-len.false)) c.index-first.ensures in
    let ends : IsStart es (t + 1) end =
    start_read es starts (t + 1) end c.self.invariant (omega (arith, lengths, c.if-at-len.false)) c.index-end.ensures in
    in_order es t first end begins ends

pub returns : goal.returns
returns c =
    let es : List Edge = c.self.inside.edges.items in
    let starts : List ℕ = c.self.inside.starts.items in
    let t : ℕ = c.args.target in
    let first : ℕ = c.index-first.result.now in
    let end : ℕ = c.index-end.result.now in
    let e = c.len.ensures in
    let f = c.self.inside.starts.ok.0 in
    let lengths : c.len.result ≡ length starts = omega arith in
    let begins : IsStart es t first =
    start_read es starts t first c.self.invariant (omega (arith, lengths, c.if-at-len.false)) c.index-first.ensures in
    let ends : IsStart es (t + 1) end =
    start_read es starts (t + 1) end c.self.invariant (omega (arith, lengths, c.if-at-len.false)) c.index-end.ensures in
    subst (λ l. AreInto l t (between first end c.deref.result.now)) c.self.view_is
    (subst (λ l. AreInto es t (between first end l)) (sym c.deref.ensures.value)
    (are_into es t first end begins ends))
