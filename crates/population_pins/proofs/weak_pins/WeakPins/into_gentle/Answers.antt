use Rattle.std.proofs.Common.{◌≡◌, ◌∙◌, ℕ, IsTrue, refl, sym, ap, subst, eqb-true, eq-eqb}
use Rattle.std.specs.Prelude.{◌||◌}
use Rattle.std.specs.BTreeSet.{InsertsAll}
use Rattle.std.specs.Ordering.{nat_cmp}
use Rattle.std.proofs.IntoIterSteps.{All-taken}
use Rattle.schema_semantics.specs.Names.{OneOf}
use Rattle.conformance.specs.Pins.{StandsBesideItsClass}
use Rattle.value_equality.specs.Maps.{is_pinned}
use Rattle.value_equality.specs.Tables.{shares}
use Rattle.value_equality.specs.TableViews.{table_of}
use Rattle.population_pins.specs.Lists.{StandsBeside}
use Rattle.population_pins.specs.steps.Pinning.{has_name}
use Rattle.population_pins.proofs.Assembled.{pins-more}
use Rattle.population_pins.proofs.Pinning.{pins-alike}
use Rattle.population_pins.proofs.SameNames.{as-many-where-same, same-where-as-many}
use Rattle.population_pins.proofs.weak_pins.WeakPins.into_gentle.Goals as goal
use Rattle.population_pins.proofs.weak_pins.WeakPins.into_gentle.Goals.{After-drop-lists-inside-3}

-- the names are those that were there, and those beside another one of their class
both : (c : After-drop-lists-inside-3) (y : ℕ)
    → is_pinned c.extend.new.self y ≡ (is_pinned c.args.self.pins.names y || has_name c.pin_by_table.new.pinned y)
both c y =
    let h = c.in_ok-extend.ensures.ran in
    (subst (λ names. InsertsAll nat_cmp c.args.self.pins.names names c.extend.new.self)
    (All-taken h.0 h.1 h.4 ∙ h.2.0) h.3).0 y

pub returns-clause-pins : goal.returns-clause-pins
returns-clause-pins c s is unique d en domain are y =
    let t = table_of c.args.table.now in
    let E = shares t c.args.table.now.rounds in
    let old = c.args.self.pins.names in
    let none = c.new-beside.result in
    let more = c.pin_by_table.new.pinned in
    let P : ℕ → Type 0 = λ z. OneOf (StandsBesideItsClass s d en E z) is in
    pins-more P old.keys old.keys c.extend.new.self none more c.new-beside.ensures.items
    (pins-alike (λ z. OneOf (StandsBeside E z) c.args.self.lists) P none more (λ z. unique d en domain are E z)
    c.in_ok-pin_by_table.ensures)
    refl (both c) y

pub returns-clause-grows : goal.returns-clause-grows
returns-clause-grows c y t = both c y ∙ ap (λ b. b || has_name c.pin_by_table.new.pinned y) t

pub returns-clause-weak : goal.returns-clause-weak
returns-clause-weak c =
    let old = c.args.self.pins.names in
    let new = c.extend.new.self in
    let grows : (y : ℕ) → IsTrue (is_pinned old y) → IsTrue (is_pinned new y) = returns-clause-grows c in (
      λ e. same-where-as-many old new c.len-count.ensures.ordered c.len.ensures.ordered grows
          (sym c.len.ensures.len ∙ eqb-true c.len.result c.len-count.result e ∙ c.len-count.ensures.len),
      λ same. eq-eqb c.len.result c.len-count.result (c.len.ensures.len
          ∙ as-many-where-same old new c.len-count.ensures.ordered c.len.ensures.ordered grows same
          ∙ sym c.len-count.ensures.len),
    )
