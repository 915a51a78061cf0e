use Rattle.std.proofs.Common.{◌≡◌, ◌∙◌, ◌++◌, ◌∷◌, [], Some, None, sym, subst, ap, cond}
use Rattle.std.specs.BTreeMap.{get}
use Rattle.std.specs.Ordering.{nat_cmp}
use Rattle.std.proofs.lemmas.Result.{on_ok_weaker}
use Rattle.population_pins.specs.steps.Classes.{first_of, AreFirsts, ComesBeside}
use Rattle.population_pins.specs.steps.Pinning.{Pins}
use Rattle.population_pins.proofs.Classmates.{firsts-stay, firsts-go-on}
use Rattle.population_pins.proofs.Pinning.{finds, pins-nothing}
use Rattle.population_pins.proofs.classes.pin_beside_first.Goals as goal

pub returns-in-Some : goal.returns-in-Some
returns-in-Some c before h =
    let first : first_of before c.args.class ≡ Some c.in-Some.first =
    sym (h c.args.class) ∙ sym c.get.ensures.value ∙ sym c.copied.ensures ∙ c.in-Some.is in
    on_ok_weaker {Q = AreFirsts c.args.firsts.now (before ++ (c.args.class, c.args.name) ∷ [])
    × Pins (ComesBeside (first_of before c.args.class) c.args.name) c.args.pinned.now c.pin_two.new.pinned} _
    (λ p. (
      firsts-stay c.args.firsts.now before c.args.class c.args.name c.in-Some.first h first,
      subst (λ o. Pins (ComesBeside o c.args.name) c.args.pinned.now c.pin_two.new.pinned) (sym first) p,
    ))
    c.pin_two.ensures

pub returns-in_ok-insert-in-None : goal.returns-in_ok-insert-in-None
returns-in_ok-insert-in-None c before h =
    let first : first_of before c.args.class ≡ None =
    sym (h c.args.class) ∙ sym c.get.ensures.value ∙ sym c.copied.ensures ∙ c.in-None.is in (
      firsts-go-on c.args.firsts.now c.insert.new.self before c.args.class c.args.name h first
          (λ d. c.in_ok-insert-in-None.ensures.updates.0 d
          ∙ ap (λ b. cond b (Some c.args.name) (get nat_cmp c.args.firsts.now d)) (finds c.args.class d)),
      pins-nothing (ComesBeside (first_of before c.args.class) c.args.name) c.args.pinned.now
          (λ y k. subst (λ o. ComesBeside o c.args.name y) first k),
    )
