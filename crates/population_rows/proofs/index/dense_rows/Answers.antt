use Rattle.std.proofs.Common.{◌<◌, ◌-◌, ◌∙◌, sym, ap, length, map, get_or, None, Some, arith}
use Rattle.std.proofs.lemmas.List.{length-map, length-replicate, length-set}
use Rattle.population_rows.specs.Index.{dense_at, told}
use Rattle.population_rows.specs.steps.Noting.{earlier}
use Rattle.population_rows.proofs.Noted.{noted-more, dense-more, told-none}
use Rattle.population_rows.proofs.index.dense_rows.Goals as goal

pub loop-n-init : goal.loop-n-init
loop-n-init c =
    let none = c.in_ok-rows.ensures.items_if_clones_equal (λ y h. h) in (
      ap length none ∙ length-replicate c.args.width 0,
      λ y. ap (λ rows. dense_at c.args.least (map told rows) y) none ∙ told-none c.args.width c.args.least y,
    )

pub loop-n-preserved : goal.loop-n-preserved
loop-n-preserved c =
    let least = c.args.least in
    let names = c.args.names.now in
    let n = c.loop-n.n in
    let old = map told c.loop-n.rows.items in
    let new = map told c.note.new.rows.items in
    let within = c.requires.within n c.loop-n-test.true in
    let place = get_or names n 0 - least in
    let size = length-map c.loop-n.rows.items told in
    let room : place < length old = omega (arith, within.0, within.1, c.loop-n.invariant.0, size) in (
      sym (length-map c.note.new.rows.items told)
          ∙ ap length c.note.ensures
          ∙ length-set old place (Some (earlier (get_or old place None) n))
          ∙ size
          ∙ c.loop-n.invariant.0,
      noted-more names n (dense_at least old) (dense_at least new) c.loop-n-test.true c.loop-n.invariant.1
          (λ y. ap (λ rows. dense_at least rows y) c.note.ensures
          ∙ dense-more least old (get_or names n 0) n y within.0 room),
    )
