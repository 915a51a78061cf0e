use Rattle.std.specs.Prelude.{not}
use Rattle.std.proofs.Common.{false, option_copied, sym, subst}
use Rattle.population_uniqueness.specs.steps.Parts.{parts_at, parts_by}
use Rattle.population_uniqueness.specs.steps.Positions.{numbers_in}
use Rattle.population_uniqueness.specs.steps.Keys.{IsKey, Meets, forms_in}
use Rattle.population_uniqueness.proofs.Meeting.{meets_none, meets_no_key, meets_key}
use Rattle.population_uniqueness.proofs.key_lookup.meets_again.Goals as goal

pub returns-in_default : goal.returns-in_default
returns-in_default c =
    let vs = c.args.values.now in
    let met = c.args.met.now in
    subst (λ p. Meets (parts_by vs (numbers_in (option_copied p))) false met met) (sym c.in_default.is) (meets_none met)

pub returns-in_default-2 : goal.returns-in_default-2
returns-in_default-2 c =
    let vs = c.args.values.now in
    let met = c.args.met.now in
    subst (λ p. Meets (parts_by vs (numbers_in (option_copied p))) false met met) (sym c.in-Some.is)
    (subst (λ is. Meets (parts_at vs is) false met met) c.deref.ensures.value
    (meets_no_key (parts_at vs c.deref.result.now) met
    (subst (λ o. IsKey (parts_at vs c.deref.result.now) (forms_in o)) c.in_default-2.is c.in_ok-parts.ensures)))

pub returns : goal.returns
returns c =
    let vs = c.args.values.now in
    let old = c.args.met.now in
    let new = c.insert.new.self in
    let is_new = c.in_ok-is_new.is_new in
    subst (λ p. Meets (parts_by vs (numbers_in (option_copied p))) (not is_new) old new) (sym c.in-Some.is)
    (subst (λ is. Meets (parts_at vs is) (not is_new) old new) c.deref.ensures.value
    (meets_key (parts_at vs c.deref.result.now) (record { parts = c.in-Some-2.parts }) old new is_new
    (subst (λ o. IsKey (parts_at vs c.deref.result.now) (forms_in o)) c.in-Some-2.is c.in_ok-parts.ensures)
    c.in_ok-is_new.ensures.added c.in_ok-is_new.ensures.updates))
