use Rattle.std.proofs.Common.{◌≡◌, [], map, take, length}
use Rattle.graphs.specs.Graphs.{next, StaysBelow}
use Rattle.graphs.specs.Orders.{Solves}
use Rattle.graphs.specs.Rounds.{AreMarks}
use Rattle.schema_explicit_attributes.specs.SupertypeLines.{line_from}
use Rattle.schema_explicit_attributes.proofs.supertype_lines.lines_along.Given as goal

abbrev pub invariant-loop-a : goal.invariant-loop-a
invariant-loop-a l =
    record {
      long : length l.table.items ≡ length l.edges;
      done : Solves (map (λ v. v.items) l.edges) (take l.a-index l.order) line_from
          (next (map (λ v. v.items) l.table.items));
      below : StaysBelow (length l.marks) (map (λ v. v.items) l.table.items);
      clean : AreMarks l.marks [];
      marks : length l.marks ≡ length l.fn.marks;
    }
