use Rattle.std.proofs.Common.{sym}
use Rattle.population_rows.specs.Index.{found}
use Rattle.parameter_fits.specs.steps.References.{IsFound}
use Rattle.typed_populations.proofs.Copied.{refers_at}
use Rattle.typed_populations.proofs.copies.push_picked.Goals as goal

pub push_copy-requires-clause-within : goal.push_copy-requires-clause-within
push_copy-requires-clause-within c =
    refers_at (IsFound (found c.args.index.now)) c.args.values.now c.in-Some.position c.in-Some-item.value
    (sym c.in-Some-item.ensures) c.requires.within
