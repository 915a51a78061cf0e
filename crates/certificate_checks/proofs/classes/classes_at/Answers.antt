use Rattle.std.proofs.Common.{◌≡◌, ◌≤◌, ◌∙◌, ℕ, Some, sym, subst, ap, length, slice_get}
use Rattle.std.proofs.lemmas.List.{length-map}
use Rattle.std.proofs.lemmas.Result.{IfOk-weaker}
use Rattle.value_equality.specs.TableViews.{origin_of, table_of}
use Rattle.certificate_checks.proofs.FirstMembers.{map_members}
use Rattle.certificate_checks.specs.steps.ComputedParents.{led_by_classes}
use Rattle.certificate_checks.proofs.AtRounds.{ancestors_below, led_are_classes}
use Rattle.certificate_checks.proofs.classes.classes_at.Goals as goal

pub led_by_classes-requires-clause-below : goal.led_by_classes-requires-clause-below
led_by_classes-requires-clause-below c =
    subst (λ xs. (k a : ℕ) → slice_get xs k ≡ Some a → a ≤ k) (sym c.deref-2.ensures.value)
    (ancestors_below (table_of c.args.table.now) c.args.round c.in_ok-ancestors.ancestors.items
    c.in_ok-ancestors.ensures.ancestors)

pub returns : goal.returns
returns c =
    let t = table_of c.args.table.now in
    let found = c.in_ok-ancestors.ancestors.items in
    let each = c.in_ok-ancestors.ensures.length ∙ sym (length-map c.args.table.now.classes.items origin_of) in
    IfOk-weaker c.led_by_classes.result _ _ (λ v e. led_are_classes c.args.input.now t c.args.round c.requires.members
    c.requires.well_formed c.len-rows.ensures.population.distinct found each c.in_ok-ancestors.ensures.ancestors v.items
    (e ∙ (λ i. led_by_classes (c.deref-2.ensures.value i) (c.deref.ensures.value i))
    ∙ ap (led_by_classes found) (sym (map_members c.args.table.now.members.items)))) c.led_by_classes.ensures
