use Rattle.std.proofs.Common.{◌≡◌, ◌∙◌, Some, sym, ap, get_or, slice_get}
use Rattle.std.proofs.lemmas.Option.{slice_get-get_or}
use Rattle.population_pins.specs.declared.lists.Run.{Run}
use Rattle.population_pins.proofs.Stretches.{list-of, within-at}
use Rattle.population_pins.proofs.lists.list_in.Goals as goal

pub names_at-requires : goal.names_at-requires
names_at-requires c =
    let names = c.args.names.now in
    let runs = c.args.runs.now in
    let none : Run = record { first = 0; end = 0 } in
    let run = get_or runs c.args.index none in
    let got = slice_get-get_or runs c.args.index none c.requires.index in
    let both = within-at names runs c.args.index run got c.requires.within in
    record { order = both.0; within = both.1 }

pub returns : goal.returns
returns c =
    let names = c.args.names.now in
    let runs = c.args.runs.now in
    let none : Run = record { first = 0; end = 0 } in
    let run = get_or runs c.args.index none in
    let got = slice_get-get_or runs c.args.index none c.requires.index in
    list-of names runs c.args.index run got ∙ ap Some (sym c.names_at.ensures)
