use Rattle.std.proofs.Common.{◌<◌, ◌^◌, ◌∙◌, sym, ap, length, nat_eq, subst}
use Rattle.std.specs.List.{All, IsDistinct}
use Rattle.std.proofs.lemmas.List.{length-map}
use Rattle.std.proofs.lemmas.Result.{err_from_is_err_and}
use Rattle.step_values.specs.steps.Targets.{LeadTo, ReferTo}
use Rattle.value_equality.specs.steps.ComputedPlaces.{Finds}
use Rattle.value_equality.specs.Views.{head_names, rows_of, values_within}
use Rattle.value_equality.proofs.Laying.{refused_rows}
use Rattle.value_equality.proofs.Parted.{heads_numbered, length_numbered, names_numbered, rows_parted}
use Rattle.value_equality.proofs.Placing.{few_rows}
use Rattle.value_equality.proofs.plain.Plain.from_rows.Goals as goal

pub returns-in_err-values-clause-fault : goal.returns-in_err-values-clause-fault
returns-in_err-values-clause-fault c =
    let p = err_from_is_err_and c.from_residual-in_err-values.result c.from_residual-in_err-values.ensures.1 in
    let named = rw c.deref.ensures.value at c.in_ok-names.ensures in
    let placed = rw c.deref-2.ensures.value at c.in_ok-places.ensures.places in
    let few = rw c.deref-2.ensures.value at c.in_ok-places.ensures.few in
    let distinct = rw c.deref-2.ensures.value at c.in_ok-places.ensures.distinct in
    rw (p.1, p.2) (refused_rows c.in_ok-places.places (rows_of c.args.rows.items)
    (subst (Finds c.in_ok-places.places) named placed)
    (few_rows (rows_of c.args.rows.items) c.in_ok-names.names.items (sym named) few)
    (subst (IsDistinct nat_eq) named distinct) _
    (rw c.deref-4.ensures.value at c.in_err-values.ensures.fault))

pub settled-requires-clause-each : goal.settled-requires-clause-each
settled-requires-clause-each c =
    let values = rw c.deref-4.ensures.value at c.in_ok-values.ensures.rows in
    let heads = rw c.deref-5.ensures.value at c.in_ok-heads.ensures in
    ap length heads ∙ length_numbered 0 c.args.rows.items ∙ sym (length-map c.args.rows.items values_within)
    ∙ ap length (sym values)

pub settled-requires-clause-places : goal.settled-requires-clause-places
settled-requires-clause-places c =
    let named = rw c.deref.ensures.value at c.in_ok-names.ensures in
    let heads = rw c.deref-5.ensures.value at c.in_ok-heads.ensures in
    let same = named ∙ sym (names_numbered 0 c.args.rows.items) ∙ ap head_names (sym heads) in
    subst (Finds c.in_ok-places.places) same
    (rw c.deref-2.ensures.value at c.in_ok-places.ensures.places)

pub settled-requires-clause-few : goal.settled-requires-clause-few
settled-requires-clause-few c =
    let named = rw c.deref.ensures.value at c.in_ok-names.ensures in
    let heads = rw c.deref-5.ensures.value at c.in_ok-heads.ensures in
    let same = named ∙ sym (names_numbered 0 c.args.rows.items) ∙ ap head_names (sym heads) in
    subst (λ ns. length ns < 4294967296) same
    (rw c.deref-2.ensures.value at c.in_ok-places.ensures.few)

pub settled-requires-clause-distinct : goal.settled-requires-clause-distinct
settled-requires-clause-distinct c =
    let named = rw c.deref.ensures.value at c.in_ok-names.ensures in
    let heads = rw c.deref-5.ensures.value at c.in_ok-heads.ensures in
    let same = named ∙ sym (names_numbered 0 c.args.rows.items) ∙ ap head_names (sym heads) in
    subst (IsDistinct nat_eq) same
    (rw c.deref-2.ensures.value at c.in_ok-places.ensures.distinct)

pub settled-requires-clause-range : goal.settled-requires-clause-range
settled-requires-clause-range c =
    let named = rw c.deref.ensures.value at c.in_ok-names.ensures in
    let heads = rw c.deref-5.ensures.value at c.in_ok-heads.ensures in
    let same = named ∙ sym (names_numbered 0 c.args.rows.items) ∙ ap head_names (sym heads) in
    subst (All (λ y. y < 2 ^ 64)) same
    (rw c.deref-2.ensures.value at c.in_ok-places.ensures.range)

pub settled-requires-clause-leads : goal.settled-requires-clause-leads
settled-requires-clause-leads c =
    let named = rw c.deref.ensures.value at c.in_ok-names.ensures in
    let heads = rw c.deref-5.ensures.value at c.in_ok-heads.ensures in
    let same = named ∙ sym (names_numbered 0 c.args.rows.items) ∙ ap head_names (sym heads) in
    subst (λ ns. LeadTo ns c.in_ok-values.values.targets) same
    (rw c.deref-3.ensures.value at c.in_ok-values.ensures.leads)

pub settled-requires-clause-closed : goal.settled-requires-clause-closed
settled-requires-clause-closed c =
    let named = rw c.deref.ensures.value at c.in_ok-names.ensures in
    let heads = rw c.deref-5.ensures.value at c.in_ok-heads.ensures in
    let same = named ∙ sym (names_numbered 0 c.args.rows.items) ∙ ap head_names (sym heads) in
    subst (λ ns. ReferTo ns c.in_ok-values.values.rows) same
    (rw c.deref-3.ensures.value at c.in_ok-values.ensures.closed)

pub returns-clause-rows : goal.returns-clause-rows
returns-clause-rows c =
    let values = rw c.deref-4.ensures.value at c.in_ok-values.ensures.rows in
    let heads = rw c.deref-5.ensures.value at c.in_ok-heads.ensures in
    rw (sym (rows_parted c.args.rows.items), sym (heads_numbered c.args.rows.items))
    (rw (c.in_ok-type_lists.ensures, heads, values) at c.in_ok-settled.ensures.rows)
