use Rattle.population_forms.proofs.tables.SchemaTables.of.Goals as goal

pub returns : goal.returns
returns c = record {
  base_types = c.in_ok-base_types.ensures;
  uses = c.in_ok-uses.ensures;
  one_ofs = c.in_ok-one_ofs.ensures;
}
