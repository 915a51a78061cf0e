use Rattle.std.proofs.Common.{◌≡◌, ℕ, ◌<◌, true, map, drop, length}
use Rattle.std.specs.List.{concat}
use Rattle.graphs.specs.Graphs.{has, next}
use Rattle.graphs.specs.Rounds.{added, AreMarks}
use Rattle.schema_explicit_attributes.specs.SupertypeLines.{line_from}
use Rattle.schema_explicit_attributes.proofs.supertype_lines.line.Given as goal

abbrev pub invariant-loop-b : goal.invariant-loop-b
invariant-loop-b l =
    record {
      line : added l.found.items (concat (map (next (map (λ v. v.items) l.table)) (drop l.b-index l.after)))
          ≡ line_from l.fn.first (map (next (map (λ v. v.items) l.table)) l.after);
      marked : AreMarks l.marks l.found.items;
      same : length l.marks ≡ length l.fn.marks;
      within : (y : ℕ) → has l.found.items y ≡ true → y < length l.marks;
    }
