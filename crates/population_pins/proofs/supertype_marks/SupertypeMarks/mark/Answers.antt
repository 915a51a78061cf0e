use Rattle.std.proofs.Common.{◌≡◌, ◌∙◌, ap, sym, length, arith}
use Rattle.std.proofs.lemmas.Result.{on_ok_weaker}
use Rattle.std.specs.Vec.{with_items}
use Rattle.std.proofs.lemmas.List.{with_items_is}
use Rattle.graphs.specs.Graphs.{graph_of}
use Rattle.population_pins.specs.declared.supertype_marks.SupertypeMarks.{SupertypeMarks}
use Rattle.population_pins.proofs.Transitive.{skipped-lists, row-below, grown-marked, grown-lists}
use Rattle.population_pins.proofs.supertype_marks.SupertypeMarks.mark.Goals as goal

pub returns-then-contains-clause-lists : goal.returns-then-contains-clause-lists
returns-then-contains-clause-lists c =
    skipped-lists (graph_of c.args.above.now) c.requires.above c.args.self.now c.requires.marked c.args.entity
    (sym c.contains.ensures ∙ c.if-contains.true)

pub add_new-requires-clause-within : goal.add_new-requires-clause-within
add_new-requires-clause-within c =
    row-below (graph_of c.args.above.now) c.requires.above c.args.entity c.row_at.result.now
    (length c.deref_mut.result.now) c.row_at.ensures (ap length c.deref_mut.ensures.value ∙ c.requires.marked.same)

pub returns-clause-marked : goal.returns-clause-marked
returns-clause-marked c =
    let old = c.args.self.now in
    let after = c.add_new.new.marks in
    let new : SupertypeMarks = record { numbers = c.add_new.new.found; marks = with_items old.marks after } in
    let long : length after ≡ old.marks.len = omega (arith, c.add_new.auto.marks, c.deref_mut.ensures.len) in
    grown-marked c.add_new.result (graph_of c.args.above.now) c.requires.above c.args.entity c.row_at.result.now
    c.deref_mut.result.now after old new c.row_at.ensures c.requires.marked c.deref_mut.ensures.value
    (with_items_is old.marks after long) c.add_new.ensures.length c.add_new.ensures.added c.add_new.ensures.marked

pub returns-clause-lists : goal.returns-clause-lists
returns-clause-lists c some lists =
    on_ok_weaker c.add_new.result
    (λ grown. grown-lists (graph_of c.args.above.now) c.args.entity c.row_at.result.now c.args.self.now.numbers.items
    c.add_new.new.found.items c.row_at.ensures grown some lists) c.add_new.ensures.added
