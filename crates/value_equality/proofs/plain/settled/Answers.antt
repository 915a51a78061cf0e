use Rattle.std.proofs.Common.{◌≡◌, ◌<◌, ◌^◌, ◌∙◌, sym, subst, arith}
use Rattle.std.specs.List.{All}
use Rattle.std.proofs.lemmas.List.{length-map}
use Rattle.step_values.specs.steps.Targets.{LeadTo}
use Rattle.value_equality.specs.steps.ComputedPlaces.{Finds}
use Rattle.value_equality.specs.Rows.{names}
use Rattle.value_equality.specs.Views.{head_names, heads_seen, type_lists_of, rows_from}
use Rattle.value_equality.proofs.Parted.{length_from, length_seen, names_kept, names_seen, population_from}
use Rattle.value_equality.proofs.Settling.{heads_settled, few_settled, population_settled, rows_settled, whole_settled}
use Rattle.value_equality.proofs.plain.settled.Goals as goal

pub invariant_of-result : goal.invariant_of-result
invariant_of-result c =
    let heads = c.args.heads.items in
    let ks = c.args.type_lists.items in
    let js = c.settle_type_lists.new.type_lists in
    let hs = heads_seen (type_lists_of ks) heads in
    let gs = heads_seen (type_lists_of js) heads in
    let rows = c.args.values.rows in
    let settled = rw c.deref_mut.ensures.value at c.in_ok-settle_type_lists.ensures in
    let kept = rows_settled hs gs rows (heads_settled ks js settled heads) in
    let each = length_seen (type_lists_of ks) heads ∙ c.requires.each in
    let population = population_from hs rows each (head_names heads) (sym (names_seen (type_lists_of ks) heads))
    c.requires.distinct c.requires.closed in
    let named : head_names heads ≡ names (rows_from gs rows) =
    sym (names_kept (type_lists_of js) heads rows c.requires.each) in
    rw (whole_settled c.args.type_lists.len ks js c.args.type_lists.ok.0 settled) (record {
      each = length_seen (type_lists_of js) heads ∙ c.requires.each;
      placed = record {
        finds = subst (Finds c.args.places) named c.requires.places;
        population = population_settled (rows_from hs rows) (rows_from gs rows) kept population;
        few = few_settled (rows_from hs rows) (rows_from gs rows) kept
            (omega (
              arith,
              c.requires.few,
              length-map heads (λ h. h.name),
              length_seen (type_lists_of ks) heads,
              length_from hs rows each,
            ));
        range = subst (All (λ y. y < 2 ^ 64)) named c.requires.range;
      };
      leads = subst (λ ns. LeadTo ns c.args.values.targets) named c.requires.leads;
    })

pub returns-clause-rows : goal.returns-clause-rows
returns-clause-rows c =
    let heads = c.args.heads.items in
    let ks = c.args.type_lists.items in
    let js = c.settle_type_lists.new.type_lists in
    let settled = rw c.deref_mut.ensures.value at c.in_ok-settle_type_lists.ensures in
    rw (whole_settled c.args.type_lists.len ks js c.args.type_lists.ok.0 settled)
    (rows_settled (heads_seen (type_lists_of ks) heads) (heads_seen (type_lists_of js) heads) c.args.values.rows
    (heads_settled ks js settled heads))

pub returns-clause-population : goal.returns-clause-population
returns-clause-population c = (invariant_of-result c).placed.population

pub returns-clause-few : goal.returns-clause-few
returns-clause-few c = (invariant_of-result c).placed.few
