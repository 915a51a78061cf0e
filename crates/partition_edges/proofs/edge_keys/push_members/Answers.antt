use Rattle.std.proofs.Common.{◌≡◌, ◌<◌, ◌+◌, ℕ, List, length, refl, subst, arith}
use Rattle.partitions.specs.Layouts.{size}
use Rattle.partitions.specs.Views.{layout}
use Rattle.partition_edges.specs.declared.edges.Edge.{Edge}
use Rattle.partition_edges.specs.steps.Steps.{Adds}
use Rattle.partition_edges.proofs.Gathering.{IsIntoFirst, adds_both, into_from, into_more}
use Rattle.partition_edges.proofs.edge_keys.push_members.Goals as goal

pub push_edges-requires-clause-there : goal.push_edges-requires-clause-there
push_edges-requires-clause-there c =
    into_from c.args.edges.now c.find.result.now _ (size (layout c.args.groups.now)) c.find.ensures c.requires.there

pub loop-place-preserved : goal.loop-place-preserved
loop-place-preserved c =
    let edges : List Edge = c.args.edges.now in
    let members : List ℕ = c.args.members.now in
    let k : ℕ = c.loop-place.place-index in
    let inside : k < length members = omega arith in
    adds_both (layout c.args.groups.now) c.args.class _ _ (IsIntoFirst edges members (k + 1)) _ _ _
    c.loop-place.invariant c.in_ok-push_edges.ensures
    (λ e. into_more edges c.find.result.now members k _ inside refl c.find.ensures e)

pub returns : goal.returns
returns c =
    let edges : List Edge = c.args.edges.now in
    let members : List ℕ = c.args.members.now in
    let done : c.loop-place.place-index ≡ length members = omega arith in
    subst (λ k. Adds (layout c.args.groups.now) c.args.class (IsIntoFirst edges members k) c.args.pairs.now.items
    c.loop-place.pairs.items) done c.loop-place.invariant
