use Rattle.std.proofs.Common.{◌≡◌, [], map, take, length}
use Rattle.graphs.specs.Graphs.{next, StaysBelow}
use Rattle.graphs.specs.Orders.{Solves, IsElsewhere, joined}
use Rattle.graphs.specs.Rounds.{AreMarks}
use Rattle.graphs.proofs.edge_tables.gather_all.Given as goal

abbrev pub invariant-loop-a : goal.invariant-loop-a
invariant-loop-a l =
    record {
      long : length l.table.items ≡ length l.edges;
      done : Solves (map (λ v. v.items) l.edges) (take l.a-index l.order) (joined (map (λ v. v.items) l.own))
          (next (map (λ v. v.items) l.table.items));
      others : IsElsewhere (take l.a-index l.order) [] (next (map (λ v. v.items) l.table.items));
      below : StaysBelow (length l.marks) (map (λ v. v.items) l.table.items);
      clean : AreMarks l.marks [];
      marks : length l.marks ≡ length l.fn.marks;
    }
