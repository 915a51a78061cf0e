use Rattle.std.proofs.Common.{inl, inr, refl, subst, arith}
use Rattle.std.proofs.lemmas.List.{length-map}
use Rattle.graphs.specs.Graphs.{graph_of}
use Rattle.graphs.specs.Closures.{IsFirstCyclic}
use Rattle.schema_faults.proofs.Loops.{cyclic-within}
use Rattle.schema_faults.proofs.cycles.first_named.Goals as goal

pub name-requires : goal.name-requires
name-requires c =
    let first = subst (IsFirstCyclic (graph_of c.args.edges.now)) c.in-Some.is c.in_ok-number.ensures in
    let within = cyclic-within (graph_of c.args.edges.now) c.in-Some.number c.requires.graph first in
    let rows = length-map c.args.edges.now (λ v. v.items) in
    let same = c.requires.same in
    omega (arith, within, rows, same)

pub returns-in-Some : goal.returns-in-Some
returns-in-Some c =
    inr (
      c.in-Some.number,
      subst (IsFirstCyclic (graph_of c.args.edges.now)) c.in-Some.is c.in_ok-number.ensures,
      c.name.ensures,
    )

pub returns-in-None : goal.returns-in-None
returns-in-None c =
    inl (refl, subst (IsFirstCyclic (graph_of c.args.edges.now)) c.in-None.is c.in_ok-number.ensures)
