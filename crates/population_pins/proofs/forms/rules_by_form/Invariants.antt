use Rattle.std.proofs.Common.{take}
use Rattle.std.specs.List.{AllZip}
use Rattle.graphs.specs.Graphs.{graph_of}
use Rattle.population_pins.specs.steps.Forms.{IsFormRules}
use Rattle.population_pins.specs.steps.SupertypeLists.{AreClear}
use Rattle.population_pins.proofs.forms.rules_by_form.Given as goal

abbrev pub invariant-loop-form : goal.invariant-loop-form
invariant-loop-form l =
    record {
      rows : AllZip (IsFormRules l.sources) (take l.form-index l.forms) l.rows.items;
      clear : AreClear (graph_of l.sources.above.now) l.marks;
    }
