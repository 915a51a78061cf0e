use Rattle.std.proofs.Common.{refl, []}
use Rattle.step_records.specs.steps.Building.{kept_by}
use Rattle.step_records.proofs.Joined.{list_stands}
use Rattle.step_records.proofs.stretch.list_place.Goals as goal

pub has_parentheses-requires-clause-before : goal.has_parentheses-requires-clause-before
has_parentheses-requires-clause-before c = (c.in_ok-inside.ensures []).0.before

pub has_parentheses-requires-clause-within : goal.has_parentheses-requires-clause-within
has_parentheses-requires-clause-within c = (c.in_ok-inside.ensures []).0.within

pub returns-then-has_parentheses : goal.returns-then-has_parentheses
returns-then-has_parentheses c = λ column. list_stands c.args.text.now
    (kept_by c.args.text.now column c.args.cells.now) c.in_ok-inside.inside.from c.in_ok-inside.inside.end
    (c.if-has_parentheses.ensures.begins refl) (c.in_ok-inside.ensures column) (c.if-has_parentheses.ensures.opens refl)
    (c.if-has_parentheses.ensures.closes refl)
