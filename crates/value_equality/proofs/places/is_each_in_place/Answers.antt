use Rattle.std.proofs.Common.{◌<◌, ◌^◌, ◌∙◌, refl, arith}
use Rattle.std.specs.Prelude.{get_or}
use Rattle.std.proofs.lemmas.Bool.{false≢true}
use Rattle.value_equality.proofs.Placing.{each_in_place, all_of_each, found_once, not_found, out_of_place}
use Rattle.value_equality.proofs.places.is_each_in_place.Goals as goal

pub returns-in_default-clause-distinct : goal.returns-in_default-clause-distinct
returns-in_default-clause-distinct c =
    let ns = c.args.names.now in
    out_of_place ns c.loop-n.n c.find.result (c.find.ensures ∙ c.requires.places (get_or ns c.loop-n.n 0))
    c.loop-n-test.true (not_found c.find.result c.loop-n.n c.in_default.is)

pub returns-in_default-clause-range : goal.returns-in_default-clause-range
returns-in_default-clause-range c = λ e. absurd (false≢true e)

pub returns-then-place-n-clause-distinct : goal.returns-then-place-n-clause-distinct
returns-then-place-n-clause-distinct c =
    let ns = c.args.names.now in
    out_of_place ns c.loop-n.n c.find.result (c.find.ensures ∙ c.requires.places (get_or ns c.loop-n.n 0))
    c.loop-n-test.true (λ e.
    let same = found_once c.find.result c.in-Some.place c.loop-n.n c.in-Some.is e in
    omega (arith, c.if-place-n.true, same))

pub returns-then-place-n-clause-range : goal.returns-then-place-n-clause-range
returns-then-place-n-clause-range c = λ e. absurd (false≢true e)

pub returns-clause-distinct : goal.returns-clause-distinct
returns-clause-distinct c = (
  λ _. each_in_place c.args.names.now (λ k l. c.loop-n.invariant.placed k (omega (arith, l, c.loop-n-test.false))),
  λ _. refl,
)

pub returns-clause-range : goal.returns-clause-range
returns-clause-range c =
    λ _. all_of_each (λ y. y < 2 ^ 64) c.args.names.now
    (λ k l. c.loop-n.invariant.range k (omega (arith, l, c.loop-n-test.false)))
