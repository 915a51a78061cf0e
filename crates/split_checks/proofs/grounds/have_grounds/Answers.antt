use Rattle.std.proofs.Common.{◌<◌, ◌∙◌, length, subst, sym}
use Rattle.std.specs.List.{All}
use Rattle.std.proofs.lemmas.Result.{IfOk-weaker}
use Rattle.partitions.specs.declared.pairs.Pair.{Pair}
use Rattle.partition_edges.specs.Edges.{AreEdges}
use Rattle.split_checks.specs.steps.Moves.{AreFalling, AreMoves}
use Rattle.split_checks.proofs.Telling.{told}
use Rattle.split_checks.proofs.grounds.have_grounds.Goals as goal

pub have_ground-requires-clause-edges : goal.have_ground-requires-clause-edges
have_ground-requires-clause-edges c = subst (λ n. AreEdges n c.args.edges.now) (sym c.requires.own) c.requires.edges

pub have_ground-requires-clause-falling : goal.have_ground-requires-clause-falling
have_ground-requires-clause-falling c = subst AreFalling (sym c.deref.ensures.value) c.in_ok-moves.ensures.falling

pub have_ground-requires-clause-places : goal.have_ground-requires-clause-places
have_ground-requires-clause-places c =
    subst (λ n. All (λ (a : Pair). a.place < n) c.deref.result.now) (sym c.requires.own)
    (subst (All (λ (a : Pair). a.place < length c.args.last.now)) (sym c.deref.ensures.value)
    c.in_ok-moves.ensures.places)

pub returns : goal.returns
returns c =
    IfOk-weaker c.have_ground.result _ _
    (told c.args.births.items c.args.last.now c.args.own.now c.args.shapes.now c.args.edges.now c.deref.result.now
    (subst (AreMoves c.args.births.items c.args.last.now) (sym c.deref.ensures.value) c.in_ok-moves.ensures)
    c.requires.own c.requires.edges) c.have_ground.ensures

pub have_ground-requires-clause-few : goal.have_ground-requires-clause-few
have_ground-requires-clause-few c = subst (λ n. n < 4294967296) (sym c.requires.own) c.requires.few

pub have_ground-requires-clause-shapes : goal.have_ground-requires-clause-shapes
have_ground-requires-clause-shapes c = c.requires.shapes ∙ sym c.requires.own
