use Rattle.std.proofs.Common.{◌≡◌, ◌∙◌, sym, ap, length, slice_get, arith}
use Rattle.std.proofs.lemmas.List.{length-map}
use Rattle.population_pins.specs.steps.Runs.{list_at, lists_at}
use Rattle.population_pins.proofs.lists.UniqueLists.list.Goals as goal

pub list_in-requires : goal.list_in-requires
list_in-requires c =
    let v = c.self.inside in
    let seen : length (lists_at v.names.items v.runs.items) ≡ length c.args.self.now = ap length c.self.view_is in
    let count = length-map v.runs.items (list_at v.names.items) in
    let asked = c.requires in
    rw (c.deref.ensures.value, c.deref-2.ensures.value) (record {
      within = c.self.invariant;
      index = omega (arith, seen, count, asked);
    })

pub returns : goal.returns
returns c =
    let seen = rw (c.deref.ensures.value, c.deref-2.ensures.value) at c.list_in.ensures in
    ap (λ ls. slice_get ls c.args.index) (sym c.self.view_is) ∙ seen
