-- Elements at indices, and what a QUERY keeps.
use Rattle.std.specs.Prelude.{◌≡◌, ◌<◌, ℤ, pos, negsuc, ◌+ℤ◌, ◌<ℤ◌, ◌^◌, Bool, true, false, [], ◌∷◌, filter, if◌then◌else◌}
use Rattle.std.proofs.Common.{refl, sym, ap, arith}
use Rattle.std.proofs.lemmas.Bool.Decides.{nat_tests}
use Rattle.std.proofs.lemmas.Int.{ints}
use Rattle.express_syntax.specs.declared.expression.Logical.{Logical}
use Rattle.express_logic.specs.Data.{Datum, Data, none, more}
use Rattle.conformance.specs.Operations.{is_index, is_true, filtered, queried, says}
use Rattle.conformance.specs.Expressions.{bound, means}
use Rattle.conformance.proofs.Indices.{found_at}
use Rattle.rule_values.proofs.Indexed.{missing, under-first}
use Rattle.rule_outcomes.specs.Laws.{ElementsOfArraysStandAtTheirIndices, listed, QueriesKeepWhatTheirConditionIsTrueOf}

is-index : (n : ℤ) → n <ℤ pos (2 ^ 63) → is_index n ≡ true
is-index (pos n) lt =
    let less : n < 2 ^ 63 = omega (arith, ints, lt) in
    grind (arith, nat_tests)
is-index (negsuc n) lt = refl

pub elements_of_arrays_stand_at_their_indices : ElementsOfArraysStandAtTheirIndices
elements_of_arrays_stand_at_their_indices first last ds = (
  (λ k lt. found_at ds first (first +ℤ pos k) k refl (is-index (first +ℤ pos k) lt)),
  (λ n lt. under-first ds first n lt),
  (λ z never. missing ds first z (λ n le i units. never n (sym units))),
)

listed-filtered : (condition : Datum → Logical) (ds : Data)
    → listed (filtered condition ds) ≡ filter (λ d. is_true (condition d)) (listed ds)
listed-filtered condition none = refl
listed-filtered condition (more d ds) = by (is_true (condition d)) (listed-filtered condition ds)
  where
    rest : Data
    rest = filtered condition ds

    by : (b : Bool) → listed rest ≡ filter (λ d. is_true (condition d)) (listed ds)
        → listed (if b then more d rest else rest)
        ≡ (if b then d ∷ filter (λ d. is_true (condition d)) (listed ds) else filter (λ d. is_true (condition d)) (listed ds))
    by true h = ap (λ l. d ∷ l) h
    by false h = h

pub queries_keep_what_their_condition_is_true_of : QueriesKeepWhatTheirConditionIsTrueOf
queries_keep_what_their_condition_is_true_of S variables me n source condition s ds e =
    let says-of : Datum → Logical = λ d. says (means S (bound n d variables) me condition) in
    (filtered says-of ds, ap (queried (λ d. means S (bound n d variables) me condition)) e, listed-filtered says-of ds)
