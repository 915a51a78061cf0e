use Rattle.std.proofs.Common.{◌≡◌, ◌<◌, sym, ◌∙◌, ap, slice_get, Some, length, arith}
use Rattle.std.specs.Prelude.{unwrap_or}
use Rattle.std.proofs.lemmas.Option.{slice_get-get_or}
use Rattle.certificate_checks.proofs.FirstMembers.{by_place_found}
use Rattle.certificate_checks.proofs.Finding.{found_row}
use Rattle.certificate_checks.proofs.classes.Classes.class.Goals as goal

pub returns : goal.returns
returns c =
    let f = c.in_ok-place.ensures in
    let P = c.args.self.now.input.now in
    let cs = c.args.self.now.classes.items in
    let each : length cs ≡ length P = c.args.self.now.each in
    let x = c.index.result.now in
    let within : c.in_ok-place.place < length cs = omega (arith, f.0, each) in
    let at : slice_get cs c.in_ok-place.place ≡ Some x =
    slice_get-get_or cs c.in_ok-place.place x within ∙ ap Some (sym c.index.ensures) in (
      found_row P c.in_ok-place.place c.args.name f.0 f.1,
      sym (by_place_found P cs c.args.name c.in_ok-place.place c.len-rows.ensures.population.distinct f.0 f.1
          ∙ ap (λ o. unwrap_or o c.args.name) at),
    )
