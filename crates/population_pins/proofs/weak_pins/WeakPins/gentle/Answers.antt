use Rattle.std.proofs.Common.{ℕ, subst, ◌∙◌}
use Rattle.std.specs.BTreeSet.{InsertsAll}
use Rattle.std.specs.Ordering.{nat_cmp}
use Rattle.std.proofs.IntoIterSteps.{All-taken}
use Rattle.schema_semantics.specs.Names.{OneOf}
use Rattle.conformance.specs.Pins.{StandsBesideItsClass}
use Rattle.value_equality.specs.Tables.{shares}
use Rattle.value_equality.specs.TableViews.{table_of}
use Rattle.population_pins.specs.Lists.{StandsBeside}
use Rattle.population_pins.proofs.Assembled.{same-names, pins-more}
use Rattle.population_pins.proofs.Pinning.{pins-alike}
use Rattle.population_pins.proofs.weak_pins.WeakPins.gentle.Goals as goal

pub returns : goal.returns
returns c s is unique d en domain are y =
    let t = table_of c.args.table.now in
    let E = shares t c.args.table.now.rounds in
    let old = c.args.self.now.pins.names in
    let copy = c.in_ok-names.names in
    let none = c.new-beside.result in
    let more = c.pin_by_table.new.pinned in
    let new = c.extend.new.self in
    let P : ℕ → Type 0 = λ z. OneOf (StandsBesideItsClass s d en E z) is in
    let h = c.in_ok-extend.ensures.ran in
    pins-more P old.keys copy.keys new none more c.new-beside.ensures.items
    (pins-alike (λ z. OneOf (StandsBeside E z) c.args.self.now.lists) P none more (λ z. unique d en domain are E z)
    c.in_ok-pin_by_table.ensures)
    (same-names old.keys copy.keys c.in_ok-names.ensures.cases)
    (subst (λ names. InsertsAll nat_cmp copy names new) (All-taken h.0 h.1 h.4 ∙ h.2.0) h.3).0 y
