use Rattle.std.proofs.Common.{◌≡◌, ◌<◌, ◌∙◌, ℕ, List, map, length, sym, subst, ap, arith}
use Rattle.std.specs.List.{All}
use Rattle.std.proofs.lemmas.List.{length-map}
use Rattle.std.proofs.lemmas.List.Elements.{All-map}
use Rattle.partition_edges.specs.Edges.{AreEdges}
use Rattle.split_checks.specs.steps.Births.{AreBirths}
use Rattle.value_equality.specs.Maps.{is_pinned}
use Rattle.value_equality.specs.TableViews.{origin_of, table_of}
use Rattle.certificate_checks.proofs.FirstMembers.{map_members}
use Rattle.certificate_checks.proofs.Finding.{through_ok}
use Rattle.row_signatures.specs.steps.Signatures.{AreShapes, none_pinned}
use Rattle.certificate_checks.specs.steps.ComputedSplits.{AreBirthsOf, AreOwn}
use Rattle.certificate_checks.proofs.Sharing.{as_many}
use Rattle.certificate_checks.proofs.SplitOff.{are_births}
use Rattle.certificate_checks.proofs.Standing.{grounds_where}
use Rattle.certificate_checks.proofs.splits.splits_have_grounds.Goals as goal

abbrev classes_of : List (ℕ × ℕ) → List ℕ
classes_of ms = map (λ (m : ℕ × ℕ). m.1) ms

pub have_grounds-requires-clause-births : goal.have_grounds-requires-clause-births
have_grounds-requires-clause-births c =
    let long = length-map c.args.table.now.classes.items origin_of in
    let same : length (table_of c.args.table.now).classes ≡ c.len-classes.result =
    omega (arith, long, c.len-classes.ensures) in
    subst (λ n. AreBirths n c.in_ok-births.births.items) same
    (are_births (table_of c.args.table.now) c.requires.well_formed c.in_ok-births.births.items
    (subst (λ os. AreBirthsOf (map origin_of os) c.in_ok-births.births.items) c.deref.ensures.value
    c.in_ok-births.ensures))

pub have_grounds-requires-clause-known : goal.have_grounds-requires-clause-known
have_grounds-requires-clause-known c =
    let t = table_of c.args.table.now in
    let last_is = c.deref-3.ensures.value ∙ c.in_ok-last.ensures ∙ ap classes_of c.deref-2.ensures.value
    ∙ ap classes_of (sym (map_members c.args.table.now.members.items)) in
    let long = length-map c.args.table.now.classes.items origin_of in
    let same : length t.classes ≡ c.len-classes.result = omega (arith, long, c.len-classes.ensures) in
    subst (All (λ k. k < c.len-classes.result)) (sym last_is)
    (All-map (λ k. k < c.len-classes.result) (λ (m : ℕ × ℕ). m.1) t.members
    (subst (λ n. All (λ (m : ℕ × ℕ). m.1 < n) t.members) same c.requires.well_formed.declared))

pub have_grounds-requires-clause-edges : goal.have_grounds-requires-clause-edges
have_grounds-requires-clause-edges c =
    let t = table_of c.args.table.now in
    let last_is = c.deref-3.ensures.value ∙ c.in_ok-last.ensures ∙ ap classes_of c.deref-2.ensures.value
    ∙ ap classes_of (sym (map_members c.args.table.now.members.items)) in
    subst (λ n. AreEdges n c.args.signatures.now.edges)
    (sym (as_many c.args.input.now t c.deref-3.result.now c.requires.members last_is))
    c.requires.signatures.references.are

pub returns : goal.returns
returns c =
    let P = c.args.input.now in
    let pinned = is_pinned c.args.pinned.now in
    let t = table_of c.args.table.now in
    let births = c.in_ok-births.births.items in
    let last_is = c.deref-3.ensures.value ∙ c.in_ok-last.ensures ∙ ap classes_of c.deref-2.ensures.value
    ∙ ap classes_of (sym (map_members c.args.table.now.members.items)) in
    through_ok c.have_grounds.result c.have_grounds.ensures
    (grounds_where P pinned t c.len-rows.ensures.population c.requires.members c.requires.well_formed births
    (subst (λ os. AreBirthsOf (map origin_of os) births) c.deref.ensures.value c.in_ok-births.ensures)
    c.deref-3.result.now last_is c.deref-4.result.now
    (subst (λ ns. AreOwn P pinned ns (length P)) (sym c.deref-4.ensures.value) c.in_ok-own.ensures)
    c.args.signatures.now.edges c.requires.signatures.references c.deref-5.result.now
    (subst (AreShapes P none_pinned) (sym c.deref-5.ensures.value) c.requires.signatures.shaped))
