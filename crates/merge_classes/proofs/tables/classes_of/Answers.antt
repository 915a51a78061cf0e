use Rattle.std.proofs.Common.{◌∙◌, ap}
use Rattle.std.specs.Prelude.{map}
use Rattle.value_equality.specs.Rows.{names}
use Rattle.merge_classes.specs.Laws.{members_of, origin_in}
use Rattle.merge_classes.proofs.tables.classes_of.Goals as goal

pub returns-clause-table : goal.returns-clause-table
returns-clause-table c =
    let classes = c.in_ok-classes.ensures ∙ ap (map origin_in) c.deref.ensures.value in
    let members = c.in_ok-members.ensures.members ∙ ap (members_of (names c.args.input.now)) c.deref-2.ensures.value in
    λ i. record { rounds = c.args.found.last; classes = classes i; members = members i }
