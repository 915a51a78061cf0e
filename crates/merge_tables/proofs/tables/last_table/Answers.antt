use Rattle.std.proofs.Common.{sym, subst}
use Rattle.value_equality.specs.Maps as maps
use Rattle.value_equality.specs.Standard.{IsStandard}
use Rattle.row_signatures.specs.steps.Signatures.{AreSignatures}
use Rattle.population_pins.specs.PopulationPins.{is_pinned}
use Rattle.merge_tables.proofs.tables.last_table.Goals as goal

pub refine_last-requires : goal.refine_last-requires
refine_last-requires c =
    subst (λ names. AreSignatures c.args.rows.now (maps.is_pinned names) c.args.signatures)
    (sym c.names.ensures) c.requires

pub returns : goal.returns
returns c =
    let rows = c.args.rows.now in
    subst (IsStandard rows (is_pinned c.args.pinned.now)) (sym c.into_table.ensures)
    (subst (λ names. IsStandard rows (maps.is_pinned names) c.in_ok-classes.classes) c.names.ensures
    c.in_ok-classes.ensures.standard)
