use Rattle.std.proofs.Common.{◌≡◌, subst, arith}
use Rattle.std.proofs.lemmas.Result.{on_ok_weaker}
use Rattle.schema_semantics.specs.Names.{OneOf}
use Rattle.value_equality.specs.Tables.{same_class, shares}
use Rattle.value_equality.specs.TableViews.{table_of}
use Rattle.population_pins.specs.steps.Classes.{class_of, members_of, share_class, HasClassmate}
use Rattle.population_pins.specs.Lists.{StandsBeside}
use Rattle.population_pins.specs.steps.Pinning.{Pins}
use Rattle.population_pins.proofs.Beside.{none-listed, same-lists}
use Rattle.population_pins.proofs.Classmates.{classmates}
use Rattle.population_pins.proofs.Pinning.{pins-nothing, pins-alike}
use Rattle.population_pins.proofs.weak_pins.pin_by_table.Goals as goal

pub returns-then-len-eq0 : goal.returns-then-len-eq0
returns-then-len-eq0 c =
    let t = table_of c.args.table.now in
    let E = shares t c.args.table.now.rounds in
    let none = c.len.ensures in
    let few = c.if-len-eq0.true in
    pins-nothing (λ y. OneOf (StandsBeside E y) c.args.lists.now) c.args.pinned.now
    (λ y. none-listed (StandsBeside E y) c.args.lists.now (omega (arith, none, few)))

pub returns : goal.returns
returns c =
    let t = table_of c.args.table.now in
    let n = c.args.table.now.rounds in
    let of = class_of c.in_ok-classes.classes in
    let ls = c.args.lists.now in
    let old = c.args.pinned.now in
    let new = c.pin_in_lists.new.pinned in
    let same : share_class of ≡ shares t n =
    λ i x z. same_class (c.in_ok-classes.ensures x i) (c.in_ok-classes.ensures z i) in
    on_ok_weaker c.pin_in_lists.result
    (λ p. subst (λ E. Pins (λ y. OneOf (StandsBeside E y) ls) old new) same
    (pins-alike (λ y. OneOf (λ l. HasClassmate (members_of of l) y) ls)
    (λ y. OneOf (StandsBeside (share_class of) y) ls) old new
    (λ y. same-lists (λ l. HasClassmate (members_of of l) y) (StandsBeside (share_class of) y) ls
    (λ l. classmates of y l)) p))
    c.pin_in_lists.ensures
