use Rattle.std.proofs.Common.{◌≡◌, ◌==◌, ◌∙◌, [], true, false, length, ap, sym}
use Rattle.std.specs.Prelude.{◌⊎◌}
use Rattle.std.proofs.lemmas.Result.{on_ok_weaker}
use Rattle.schema_semantics.specs.Names.{Among}
use Rattle.population_pins.specs.steps.Pinning.{Pins}
use Rattle.population_pins.proofs.Pinning.{pins-both, pins-alike}
use Rattle.population_pins.specs.steps.Sides.{IsOnSide}
use Rattle.population_pins.proofs.Sided.{on-side}
use Rattle.population_pins.proofs.sides.pin_side.Goals as goal

pub returns : goal.returns
returns c =
    let n = c.args.name in
    let held = c.args.held.now in
    let old = c.args.pinned.now in
    let mid = c.pin.new.pinned in
    let new = c.pin_all.new.pinned in
    let more : (length held == 0) ≡ false = sym c.is_empty.ensures ∙ c.if-is_empty.false in
    on_ok_weaker {Q = Pins (IsOnSide n held) old new} _
    (λ p. pins-alike (λ y. (y ≡ n) ⊎ Among y held) (IsOnSide n held) old new
    (λ y. on-side n y held (λ e. let none : (length held == 0) ≡ true = ap (λ l. length l == 0) e in cc))
    (pins-both (λ y. y ≡ n) (λ y. Among y held) old mid new c.in_ok-pin.ensures p))
    c.pin_all.ensures
