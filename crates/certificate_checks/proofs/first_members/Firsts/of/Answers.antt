use Rattle.std.proofs.Common.{◌≡◌, sym, ◌∙◌, ap, map}
use Rattle.value_equality.specs.TableViews.{table_of, member_of}
use Rattle.certificate_checks.specs.steps.ComputedFirsts.{firsts_of}
use Rattle.certificate_checks.proofs.FirstMembers.{map_members, leads_to_firsts}
use Rattle.certificate_checks.proofs.first_members.Firsts.of.Goals as goal

pub returns-clause-firsts : goal.returns-clause-firsts
returns-clause-firsts c =
    let ms = c.args.table.now.members.items in
    let is : c.in_ok-firsts.firsts.items ≡ firsts_of (map member_of ms) =
    c.in_ok-firsts.ensures ∙ ap firsts_of (c.deref.ensures.value ∙ sym (map_members ms)) in
    leads_to_firsts c.args.input.now (table_of c.args.table.now) c.requires.members c.requires.well_formed
    c.len-rows.ensures.population.distinct c.in_ok-firsts.firsts.items is
