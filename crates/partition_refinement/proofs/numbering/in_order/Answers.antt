use Rattle.std.proofs.Common.{◌≡◌, ℕ, List, map, ◌∙◌, sym, ap, subst, length, arith}
use Rattle.std.specs.Prelude.{slice_index}
use Rattle.partition_refinement.specs.steps.Origins.{origin_of, place_in}
use Rattle.partition_refinement.specs.steps.Working.{IsIndex}
use Rattle.partition_refinement.proofs.Counting.{rounds_few}
use Rattle.partition_refinement.proofs.Table.{are_numbered, places_below, befores_below}
use Rattle.partition_refinement.proofs.numbering.in_order.Goals as goal

pub overflow_cast-counts : goal.overflow_cast-counts
overflow_cast-counts c =
    let h = c.requires.1 in
    let few = rounds_few c.requires.0 c.args.counts.now h.laid h.counted in omega arith

pub births-requires : goal.births-requires
births-requires c =
    let h = c.requires.1 in
    let each = h.undone.marked.each in
    let many = h.places in omega (arith, each, many)

pub numbers-requires-clause-places : goal.numbers-requires-clause-places
numbers-requires-clause-places c =
    let h = c.requires.1 in
    places_below c.requires.0 c.args.counts.now c.args.rounds.now c.args.before.now c.in_ok-births.births.items h.laid
    h.counted h.undone c.in_ok-births.ensures c.deref.result.now c.args.size c.deref.ensures.value (sym h.places)

pub origins-requires-clause-places : goal.origins-requires-clause-places
origins-requires-clause-places c =
    let h = c.requires.1 in
    places_below c.requires.0 c.args.counts.now c.args.rounds.now c.args.before.now c.in_ok-births.births.items h.laid
    h.counted h.undone c.in_ok-births.ensures c.deref-3.result.now (length c.args.before.now) c.deref-3.ensures.value
    h.undone.traced.each

pub origins-requires-clause-before : goal.origins-requires-clause-before
origins-requires-clause-before c =
    let h = c.requires.1 in
    befores_below c.requires.0 c.args.counts.now c.args.rounds.now c.args.before.now c.in_ok-births.births.items h.laid
    h.counted h.undone c.in_ok-births.ensures c.deref-3.result.now (length c.deref-4.result.now)
    c.deref-3.ensures.value
    (ap length c.deref-4.ensures.value ∙ c.in_ok-numbers.ensures.length ∙ sym h.places)

pub members-requires : goal.members-requires
members-requires c x l =
    let h = c.requires.1 in
    let each = h.headed.each in
    let within = (h.headed.first x (omega (arith, l, each))).2.within in
    let long : length c.deref-5.result.now ≡ c.args.size = ap length c.deref-5.ensures.value
    ∙ c.in_ok-numbers.ensures.length in
    let many = h.places in
    omega (arith, within, long, many)

pub returns : goal.returns
returns c p h =
    let births : List ℕ = c.in_ok-births.births.items in
    let numbers : List ℕ = c.in_ok-numbers.numbers.items in
    let index : IsIndex births numbers (length births) =
    subst (λ xs. IsIndex xs numbers (length xs)) c.deref.ensures.value c.in_ok-numbers.ensures.index in
    are_numbered p c.args.counts.now c.args.rounds.now c.args.before.now births h.laid h.counted h.undone
    c.in_ok-births.ensures numbers index c.in_ok-firsts.field-0.items c.in_ok-origins.field-0.items
    (c.in_ok-firsts.ensures ∙ ap (map place_in) c.deref-2.ensures.value)
    (c.in_ok-origins.ensures ∙ ap (λ ns. map (origin_of ns c.args.before.now) c.deref-3.result.now) c.deref-4.ensures.value
    ∙ ap (map (origin_of numbers c.args.before.now)) c.deref-3.ensures.value)
    c.args.heads.now c.in_ok-members.field-0.items h.headed
    (c.in_ok-members.ensures ∙ ap (λ ns. map (slice_index ns) c.args.heads.now) c.deref-5.ensures.value)
