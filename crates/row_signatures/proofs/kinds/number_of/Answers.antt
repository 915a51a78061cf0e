use Rattle.std.proofs.Common.{◌≡◌, ◌∙◌, sym, ap, subst}
use Rattle.value_equality.specs.Rows.{Row}
use Rattle.value_equality.specs.Views.{row_seen}
use Rattle.row_signatures.specs.steps.ComputedKinds.{IsNumber, first_in}
use Rattle.row_signatures.proofs.Naming.{once}
use Rattle.row_signatures.proofs.Recent.{again, free_number, pinned_number, recent_next}
use Rattle.row_signatures.proofs.kinds.number_of.Goals as goal

pub returns-then-is_pinned-clause-number : goal.returns-then-is_pinned-clause-number
returns-then-is_pinned-clause-number c pinned r at mark are =
    pinned_number pinned r c.args.place (first_in c.args.firsts.now.entries) (mark ∙ c.if-is_pinned.true)

pub returns-in-Some-clause-number : goal.returns-in-Some-clause-number
returns-in-Some-clause-number c pinned r at mark are =
    again pinned r c.args.place c.in-Some.first (first_in c.args.firsts.now.entries) (mark ∙ c.if-is_pinned.false)
    (c.in-Some.ensures (first_in c.args.firsts.now.entries) r are at)

pub returns-clause-number : goal.returns-clause-number
returns-clause-number c pinned r at mark are =
    let same : row_seen c.row-row.result ≡ r = once (row_seen c.row-row.result) r (sym c.row-row.ensures ∙ at) in
    let old = first_in c.args.firsts.now.entries in
    let new = first_in c.first_of.new.firsts.entries in
    subst (λ s. IsNumber pinned s c.args.place c.in_ok-first.first old new) same
    (free_number pinned (row_seen c.row-row.result) c.args.place c.in_ok-first.first old new
    (ap (λ (s : Row). pinned s.name) same ∙ mark ∙ c.if-is_pinned.false) c.in_ok-first.ensures.first
    c.in_ok-first.ensures.noted)

pub returns-clause-recent : goal.returns-clause-recent
returns-clause-recent c are have =
    recent_next c.args.input.now (first_in c.args.firsts.now.entries) (first_in c.first_of.new.firsts.entries)
    (row_seen c.row-row.result) c.args.place c.in_ok-first.first c.in_ok-first.ensures.first c.in_ok-first.ensures.noted
    c.row-row.ensures have c.args.recent.now.items c.remember.new.recent.items are c.remember.ensures
