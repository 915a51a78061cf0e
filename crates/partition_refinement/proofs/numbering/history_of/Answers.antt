use Rattle.std.proofs.Common.{refl, ◌∙◌, ap, arith}
use Rattle.std.specs.Prelude.{slice_index}
use Rattle.partitions.specs.Layouts.{class_in}
use Rattle.partitions.specs.Views.{layout}
use Rattle.partition_refinement.proofs.Counting.{rounds_few}
use Rattle.partition_refinement.proofs.Table.{heads_are}
use Rattle.partition_refinement.proofs.numbering.history_of.Goals as goal

pub overflow_cast-counts : goal.overflow_cast-counts
overflow_cast-counts c =
    let few = rounds_few (layout c.args.parts) c.args.counts.now c.requires.laid c.requires.counts in omega arith

pub returns : goal.returns
returns c = record {
  laid = c.requires.laid;
  counted = c.requires.counts;
  places = refl;
  undone = c.in_ok-undo_rounds.ensures;
  headed = heads_are (layout c.args.parts) c.in_ok-first_places.first_places.items c.in_ok-heads.heads.items c.requires.laid
      c.in_ok-first_places.ensures.first_places c.in_ok-heads.ensures.length
      (λ x l. c.in_ok-heads.ensures.each x l
      ∙ ap (λ xs. slice_index xs (class_in (layout c.args.parts) x)) c.deref.ensures.value);
}
