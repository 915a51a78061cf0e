use Rattle.std.proofs.Common.{◌∙◌, ap, subst, sym}
use Rattle.graphs.specs.Graphs.{graph_of}
use Rattle.schema_explicit_attributes.specs.Places.{ArePlaceRows, places_of, all_places}
use Rattle.schema_attribute_references.specs.steps.Taking.{schema_in}
use Rattle.schema_resolution.proofs.population_rules.rules_by.Goals as goal

pub rule_tables-requires : goal.rule_tables-requires
rule_tables-requires c =
    let s = schema_in c.args.known.now in
    record {
      sources = record {
        known = c.requires.known;
        lines = c.requires.lines;
        each = c.requires.each;
        places = ap places_of c.deref-2.ensures.value ∙ c.requires.places;
        own = subst (λ rows. ArePlaceRows (all_places s) s.declarations (graph_of rows)) (sym c.deref-3.ensures.value)
            c.requires.own;
      };
    }
