use Rattle.std.proofs.Common.{sym, subst}
use Rattle.value_equality.specs.Standard.{IsStandard}
use Rattle.value_equality.specs.TableViews.{table_of}
use Rattle.population_pins.specs.PopulationPins.{is_pinned}
use Rattle.row_signatures.proofs.MorePins.{signatures_under_more}
use Rattle.merge_tables.proofs.Last.{standard-last}
use Rattle.merge_tables.proofs.tables.tables_by.Goals as goal

pub second_table-requires : goal.second_table-requires
second_table-requires c = record {
  signatures = signatures_under_more c.args.rows (is_pinned c.args.weak.pins) (is_pinned c.in_ok-gentle.gentle.pins)
      c.args.signatures c.in_ok-gentle.ensures.grows c.requires.signatures;
}

pub returns : goal.returns
returns c s is are unique = record {
  rows = c.args.rows;
  are_rows = are;
  population = c.requires.population;
  pinned = is_pinned c.in_ok-gentle.gentle.pins;
  gentle = c.in_ok-gentle.ensures.pins s is unique;
  first_is = c.in_ok-first.ensures;
  second_is = standard-last c.args.rows (is_pinned c.in_ok-gentle.gentle.pins) c.in_ok-first.first c.in_ok-second.second _
      c.in_ok-second.ensures
      (λ are_weak. subst (λ p. IsStandard c.args.rows p (table_of c.in_ok-first.first))
      (λ i y. sym (c.in_ok-gentle.ensures.weak.0 are_weak y) i) c.in_ok-first.ensures);
}
