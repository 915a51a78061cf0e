use Rattle.std.proofs.Common.{◌≡◌, ◌∙◌, ap, map}
use Rattle.population_rows.specs.Index.{place_of}
use Rattle.value_equality.specs.TableViews.{table_of}
use Rattle.value_equality.specs.Tables.{ancestor_of}
use Rattle.population_pins.specs.steps.Classes.{class_there}
use Rattle.population_pins.proofs.Tabled.{class_by_place}
use Rattle.population_pins.proofs.classes.Classes.of.Goals as goal

pub returns : goal.returns
returns c y =
    let t = table_of c.args.table.now in
    ap (λ o. ancestor_of t.classes t.rounds (class_there t.members o))
    (c.in_ok-places.ensures y
    ∙ ap (λ ns. place_of ns y)
    (c.deref-2.ensures.value ∙ c.in_ok-names.ensures ∙ ap (map (λ m. m.0)) c.deref.ensures.value))
    ∙ ap (ancestor_of t.classes t.rounds) (class_by_place c.args.table.now.members.items y)
