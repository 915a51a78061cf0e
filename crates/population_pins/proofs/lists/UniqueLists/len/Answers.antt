use Rattle.std.proofs.Common.{◌≡◌, ap, length, arith}
use Rattle.std.proofs.lemmas.List.{length-map}
use Rattle.population_pins.specs.steps.Runs.{list_at, lists_at}
use Rattle.population_pins.proofs.lists.UniqueLists.len.Goals as goal

pub returns : goal.returns
returns c =
    let v = c.self.inside in
    let seen : length (lists_at v.names.items v.runs.items) ≡ length c.args.self.now = ap length c.self.view_is in
    let count = length-map v.runs.items (list_at v.names.items) in
    let e = c.len.ensures in
    let f = v.runs.ok.0 in
    omega (arith, seen, count)
