use Rattle.std.proofs.Common.{◌≡◌, ◌∙◌, Some, suc, sym, ap, map, slice_get}
use Rattle.std.specs.Option.{option_map}
use Rattle.value_equality.specs.TableViews.{member_of, origin_of, table_of}
use Rattle.value_equality.specs.Tables.{ancestor, ancestor_of}
use Rattle.value_equality.proofs.Ancestors.{seen_at}
use Rattle.population_pins.specs.steps.Classes.{class_there}
use Rattle.population_pins.proofs.classes.Classes.class.Goals as goal

pub returns : goal.returns
returns c =
    let t = table_of c.args.self.now.table.now in
    let k = c.in_ok-place.place in
    let m = c.in_ok-class.field-0.now in
    let found = c.in_ok-class.ensures.lookup in
    let at : slice_get (map member_of c.deref.result.now) k ≡ Some m =
    seen_at member_of c.deref.result.now k m found.3.0 found.1 in
    let there : class_there t.members (Some k) ≡ Some m.1 =
    ap (option_map (λ n. n.1)) (ap (λ l. slice_get (map member_of l) k) (sym c.deref.ensures.value) ∙ at) in
    c.class_above.ensures
    ∙ ap (λ l. ancestor (map origin_of l) t.rounds (suc m.1) m.1) c.deref-2.ensures.value
    ∙ ap (ancestor_of t.classes t.rounds)
    (sym (ap (class_there t.members) (sym c.find.ensures ∙ c.in_ok-place.was) ∙ there))
