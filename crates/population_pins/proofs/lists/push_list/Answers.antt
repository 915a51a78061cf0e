use Rattle.std.proofs.Common.{◌≡◌, ◌∙◌, ◌∷◌, ◌++◌, [], length, take, arith, sym, ap, subst}
use Rattle.population_pins.specs.Lists.{stand_in}
use Rattle.population_pins.specs.steps.Runs.{AreWithin, lists_at}
use Rattle.population_pins.proofs.Stretches.{within-longer, within-few, within-many, added-few, added-many}
use Rattle.population_pins.proofs.lists.push_list.Goals as goal

pub returns-in_err-push_elements-clause-within : goal.returns-in_err-push_elements-clause-within
returns-in_err-push_elements-clause-within c h =
    within-longer c.args.names.now.items c.push_elements.new.names.items c.args.runs.now.items
    c.in_err-push_elements.ensures.longer h

pub overflow_sub-count : goal.overflow_sub-count
overflow_sub-count c =
    let e = c.len-first.ensures in
    let f = c.args.names.now.ok.0 in
    let start : c.len-first.result ≡ length c.args.names.now.items = omega arith in
    let g = c.len-end.ensures in
    let k = c.push_elements.new.names.ok.0 in
    let stop : c.len-end.result ≡ length c.push_elements.new.names.items = omega arith in
    let longer = c.in_ok-push_elements.ensures.longer in
    omega (arith, start, stop, longer)

pub returns-then-count-lt2-clause-within : goal.returns-then-count-lt2-clause-within
returns-then-count-lt2-clause-within c h =
    let names = c.args.names.now.items in
    let mid = c.push_elements.new.names.items in
    let e = c.len-first.ensures in
    let f = c.args.names.now.ok.0 in
    let start : c.len-first.result ≡ length names = omega arith in
    subst (λ l. AreWithin l c.args.runs.now.items) (sym (c.truncate.ensures.items ∙ ap (λ n. take n mid) start))
    (within-few names (stand_in c.args.values.now) c.args.runs.now.items mid c.in_ok-push_elements.ensures.added h)

pub returns-then-count-lt2-clause-lists : goal.returns-then-count-lt2-clause-lists
returns-then-count-lt2-clause-lists c h =
    let names = c.args.names.now.items in
    let mid = c.push_elements.new.names.items in
    let e = c.len-first.ensures in
    let f = c.args.names.now.ok.0 in
    let start : c.len-first.result ≡ length names = omega arith in
    let g = c.len-end.ensures in
    let k = c.push_elements.new.names.ok.0 in
    let stop : c.len-end.result ≡ length mid = omega arith in
    let less = c.if-count-lt2.true in
    ap (λ l. lists_at l c.args.runs.now.items) (c.truncate.ensures.items ∙ ap (λ n. take n mid) start)
    ∙ added-few names (stand_in c.args.values.now) c.args.runs.now.items mid c.in_ok-push_elements.ensures.added
    (omega (arith, start, stop, less))

pub returns-in_err-push-clause-within : goal.returns-in_err-push-clause-within
returns-in_err-push-clause-within c h =
    subst (AreWithin c.push_elements.new.names.items) (sym c.in_err-push.ensures.items)
    (within-longer c.args.names.now.items c.push_elements.new.names.items c.args.runs.now.items
    c.in_ok-push_elements.ensures.longer h)

pub returns-clause-within : goal.returns-clause-within
returns-clause-within c h =
    let names = c.args.names.now.items in
    let runs = c.args.runs.now.items in
    let mid = c.push_elements.new.names.items in
    let e = c.len-first.ensures in
    let f = c.args.names.now.ok.0 in
    let start : c.len-first.result ≡ length names = omega arith in
    let g = c.len-end.ensures in
    let k = c.push_elements.new.names.ok.0 in
    let stop : c.len-end.result ≡ length mid = omega arith in
    subst (AreWithin mid)
    (sym (c.in_ok-push.ensures.items ∙ (λ i. runs ++ record { first = start i; end = stop i } ∷ [])))
    (within-many names (stand_in c.args.values.now) runs mid c.in_ok-push_elements.ensures.added h)

pub returns-clause-lists : goal.returns-clause-lists
returns-clause-lists c h =
    let names = c.args.names.now.items in
    let runs = c.args.runs.now.items in
    let mid = c.push_elements.new.names.items in
    let e = c.len-first.ensures in
    let f = c.args.names.now.ok.0 in
    let start : c.len-first.result ≡ length names = omega arith in
    let g = c.len-end.ensures in
    let k = c.push_elements.new.names.ok.0 in
    let stop : c.len-end.result ≡ length mid = omega arith in
    let many = c.if-count-lt2.false in
    ap (lists_at mid) (c.in_ok-push.ensures.items ∙ (λ i. runs ++ record { first = start i; end = stop i } ∷ []))
    ∙ added-many names (stand_in c.args.values.now) runs mid c.in_ok-push_elements.ensures.added
    (omega (arith, start, stop, many)) h
