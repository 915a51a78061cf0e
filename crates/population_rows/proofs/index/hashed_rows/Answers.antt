use Rattle.std.proofs.Common.{◌∙◌, nat_eq, ap}
use Rattle.std.proofs.lemmas.List.{take_all}
use Rattle.indexmap.specs.IndexMap.{get}
use Rattle.population_rows.specs.Index.{place_of}
use Rattle.population_rows.proofs.Noted.{noted-more}
use Rattle.population_rows.proofs.index.hashed_rows.Goals as goal

pub loop-n-preserved : goal.loop-n-preserved
loop-n-preserved c =
    noted-more c.args.names.now c.loop-n.n (get nat_eq c.loop-n.rows) (get nat_eq c.add.new.rows)
    c.loop-n-test.true c.loop-n.invariant c.in_ok-add.ensures

pub returns : goal.returns
returns c y =
    c.loop-n.invariant y ∙ ap (λ ns. place_of ns y) (take_all c.loop-n.n c.args.names.now c.loop-n-test.false)
