use Rattle.std.proofs.Common.{◌∙◌, ap, sym}
use Rattle.step_structures.specs.Normal.{plain_trees}
use Rattle.step_records.specs.Cells.{all_of}
use Rattle.step_records.specs.Params.{are_literals}
use Rattle.step_records.proofs.Joined.{at_stretch}
use Rattle.step_records.proofs.param.Params.spelling.Goals as goal

pub returns-clause-says : goal.returns-clause-says
returns-clause-says c =
    let v = c.self.inside in
    ap (λ ts. plain_trees (all_of ts)) (sym c.self.view_is)
    ∙ at_stretch v.text.now _ c.in_ok-place.place.from c.in_ok-place.place.end c.in_ok-place.ensures.0
    ∙ sym c.bytes_of.ensures

pub returns-clause-which : goal.returns-clause-which
returns-clause-which c = ap (λ ts. are_literals (all_of ts)) (sym c.self.view_is) ∙ c.in_ok-place.ensures.1
