use Rattle.std.proofs.Common.{◌≡◌, ◌+◌, map, drop}
use Rattle.std.specs.Option.{option_map}
use Rattle.population_rows.specs.Index.{place_of}
use Rattle.population_rows.specs.declared.form.SlotForm.{SlotForm}
use Rattle.typed_populations.proofs.accessors.position_of.Given as goal

abbrev pub invariant-loop-i : goal.invariant-loop-i
invariant-loop-i l =
    place_of (map (λ (x : SlotForm). x.place) l.slots) l.place
    ≡ option_map (λ j. l.i + j) (place_of (map (λ (x : SlotForm). x.place) (drop l.i l.slots)) l.place)
