-- What the steps find.
use Rattle.std.proofs.Common.{◌≡◌, ◌≤◌, ◌<◌, ℕ, ◌+◌, ◌^◌, Bool, List, length, sym, subst, arith}
use Rattle.std.specs.Prelude.{◌↔◌, slice_index}
use Rattle.std.proofs.lemmas.List.{length-map}
use Rattle.partitions.specs.Layouts.{Layout, size}
use Rattle.partition_edges.specs.steps.Starts.{IsStarted}
use Rattle.partition_refinement.specs.declared.numbering.Origin.{Origin}
use Rattle.partition_refinement.specs.Births.{AreCounts}
use Rattle.partition_refinement.specs.Numbers.{IsNumbering}
use Rattle.value_equality.specs.ValueEquality.{AreAlike}
use Rattle.value_equality.specs.Rows.{Row, AreFew, IsPopulation, names}
use Rattle.value_equality.specs.Standard.{IsStandard}
use Rattle.value_equality.specs.Tables.{Table}
use Rattle.value_equality.proofs.Few.{rounds_are_few}
use Rattle.merge_classes.specs.Laws.{origin_in, table_of}
use Rattle.merge_classes.specs.steps.ComputedRounds.{IsByKinds, IsByValues, IsFound}
use Rattle.merge_classes.proofs.Refining.{numbers_are_those}
use Rattle.merge_classes.proofs.Firsts.{classes_few, firsts_are}

pub started_by_kinds : (rows : List Row) (pinned : ℕ → Bool) (kinds : List ℕ) (p : Layout) → length kinds ≡ length rows
    → ((i j : ℕ) → i < length rows → j < length rows → (slice_index kinds i ≡ slice_index kinds j)
    ↔ AreAlike rows pinned (slice_index (names rows) i) (slice_index (names rows) j))
    → IsStarted kinds p → IsByKinds rows pinned p
started_by_kinds rows pinned kinds p each tell is =
    let places = is.places in record {
      laid = is.laid;
      settled = is.settled;
      places = omega (arith, places, each);
      parts = λ x z l m.
          let parts = is.parts x z l m in
          let alike = tell x z (omega (arith, l, places, each)) (omega (arith, m, places, each)) in
          (λ e. alike.0 (parts.0 e), λ a. parts.1 (alike.1 a));
    }

-- numbers of refined places
pub all_found : (rows : List Row) (pinned : ℕ → Bool) (start p : Layout) (counts firsts : List ℕ)
    (origins : List Origin) (members : List ℕ) (last : ℕ) → IsPopulation rows → IsByKinds rows pinned start
    → IsByValues rows pinned start p counts → AreCounts p counts → IsNumbering p counts firsts origins members
    → last + 1 ≡ length counts → IsFound rows pinned last firsts origins members
all_found rows pinned start p counts firsts origins members last population kinds values counted numbered rounds =
    let laid = values.refined.laid in
    let size_is : size p ≡ length rows =
    (let a = values.refined.places in let b = kinds.places in omega (arith, a, b)) in
    let standard =
    numbers_are_those rows pinned population start p counts kinds values firsts origins members last rounds counted
    numbered in
    record {
      each = let places = numbered.places in omega (arith, places, size_is);
      few = classes_few p counts firsts origins members laid counted numbered last rounds;
      standard = standard;
      firsts_are = firsts_are p counts firsts origins members laid counted numbered last rounds rows pinned population
          size_is standard;
    }

-- the table of these numbers
module _ (rows : List Row) (pinned : ℕ → Bool) (last : ℕ) (firsts : List ℕ) (origins : List Origin) (members : List ℕ)
    (is : IsFound rows pinned last firsts origins members) (t : Table)
    (e : t ≡ table_of (names rows) last origins members) where
  pub table_stands : IsStandard rows pinned t
  table_stands = subst (IsStandard rows pinned) (sym e) is.standard

  pub rounds_within : IsPopulation rows → t.rounds ≤ length rows
  rounds_within population = rounds_are_few rows pinned t population table_stands

  pub rounds_short : IsPopulation rows → AreFew rows → t.rounds < 2 ^ 32
  rounds_short population few = let within = rounds_within population in omega (arith, within, few)

  pub classes_short : length t.classes < 2 ^ 32
  classes_short =
      let few = is.few in
      let long = length-map origins origin_in in
      subst (λ (s : Table). length s.classes < 2 ^ 32) (sym e) (omega (arith, few, long))
