-- The instances of an exchange structure that was read.
use Rattle.std.specs.Prelude.{◌≡◌, ℕ, zero, suc, ◌+◌, ◌-◌, ◌<◌, ◌≤◌, ◌^◌, ◌==◌, ◌||◌, Bool, true, false, cond, List, [], ◌∷◌, ◌++◌, map, Option, None, Some, slice_get}
use Rattle.std.specs.List.{AllByRecursion}
use Rattle.std.specs.Option.{option_map}
use Rattle.std.proofs.Common.{refl, sym, ap, subst, ◌∙◌, arith, eqb-true}
use Rattle.std.proofs.Math.Logic.{∥∥₁_elim, ∥∥₁_map}
use Rattle.std.proofs.Math.Nat.{ℕ_set}
use Rattle.step_structures.specs.Texts.{ReadsAs}
use Rattle.step_structures.specs.Normal.{normal_file}
use Rattle.step_exchange.specs.declared.section.Section as code
use Rattle.step_exchange.specs.declared.structure.Exchange.{Exchange}
use Rattle.step_exchange.specs.Exchanges.{structure}
use Rattle.step_exchange.proofs.Named.{names-are}
use Rattle.population_rows.specs.Index.{place_of, found}
use Rattle.population_rows.specs.declared.index.RowIndex.{RowIndex}
use Rattle.value_equality.specs.Images.{head_of}
use Rattle.value_equality.specs.Tables.{Table, last_class, ancestor_of, shares}
use Rattle.step_structures.specs.MergedTexts.{merged_file}
use Rattle.step_structures.proofs.MergedReads.{merged_text_reads}
use Rattle.step_structures.proofs.Bounded.{names_within}
use Rattle.merge_output.specs.steps.Firsts.{or_name}
use Rattle.merge_output.specs.steps.Leading.{at_row, led_by}
use Rattle.merge_output.specs.steps.Rewriting.{members, first_of_class, smaller_text}
use Rattle.merge_output.proofs.FirstHeads.{head_out}

placed : (ns : List ℕ) (y i : ℕ) → place_of ns y ≡ Some i → slice_get ns i ≡ Some y
placed [] y i e = absurd (cc)
placed (n ∷ ns) y i e = by (n == y) refl e (λ j f. placed ns y j f)
  where
    behind : (o : Option ℕ) → place_of ns y ≡ o → (i : ℕ) → option_map suc o ≡ Some i
        → ((j : ℕ) → place_of ns y ≡ Some j → slice_get ns j ≡ Some y) → slice_get (n ∷ ns) i ≡ Some y
    behind None f i k more = absurd (cc)
    behind (Some j) f zero k more = absurd (let same : suc j ≡ 0 = cc in let no : ⊥ = omega (arith, same) in no)
    behind (Some j) f (suc i) k more =
        let same : suc j ≡ suc i = cc in
        let here : j ≡ i = omega (arith, same) in
        more i (f ∙ ap Some here)

    by : (b : Bool) → (n == y) ≡ b → cond b (Some 0) (option_map suc (place_of ns y)) ≡ Some i
        → ((j : ℕ) → place_of ns y ≡ Some j → slice_get ns j ≡ Some y) → slice_get (n ∷ ns) i ≡ Some y
    by true f k more =
        let first : 0 ≡ i = cc in
        subst (λ j. slice_get (n ∷ ns) j ≡ Some y) first (ap Some (eqb-true n y f))
    by false f k more = behind (place_of ns y) refl i k more

mapped_at : (f : ℕ → ℕ) (ns : List ℕ) (i y : ℕ) → slice_get ns i ≡ Some y → slice_get (map f ns) i ≡ Some (f y)
mapped_at f [] i y e = absurd (cc)
mapped_at f (n ∷ ns) zero y e = let same : n ≡ y = cc in ap (λ k. Some (f k)) same
mapped_at f (n ∷ ns) (suc i) y e = mapped_at f ns i y e

no_member : (ms : List (ℕ × ℕ)) (y : ℕ) → place_of (map (λ m. m.0) ms) y ≡ None → last_class ms y ≡ None
no_member [] y e = refl
no_member (m ∷ ms) y e = by (m.0 == y) e (no_member ms y)
  where
    none_behind : (o : Option ℕ) → option_map suc o ≡ None → o ≡ None
    none_behind None k = refl
    none_behind (Some j) k = absurd (cc)

    by : (b : Bool) → cond b (Some 0) (option_map suc (place_of (map (λ m. m.0) ms) y)) ≡ None
        → (place_of (map (λ m. m.0) ms) y ≡ None → last_class ms y ≡ None)
        → cond b (Some m.1) (last_class ms y) ≡ None
    by true k more = absurd (cc)
    by false k more = more (none_behind (place_of (map (λ m. m.0) ms) y) k)

-- names are led by the index and the list to the first of their classes
pub led_so : (t : Table) (names : List ℕ) (index : RowIndex) (heads : List ℕ) → members t ≡ names
    → ((y : ℕ) → found index y ≡ place_of names y) → heads ≡ map (first_of_class t) (members t) → (y : ℕ)
    → led_by index heads y ≡ first_of_class t y
led_so t names index heads are finds all y = by (place_of (members t) y) refl
  where
    at : (o : Option ℕ) → place_of (members t) y ≡ o → led_by index heads y ≡ or_name y (at_row heads o)
    at o e = ap (λ p. or_name y (at_row heads p)) (finds y ∙ ap (λ ns. place_of ns y) (sym are) ∙ e)

    by : (o : Option ℕ) → place_of (members t) y ≡ o → led_by index heads y ≡ first_of_class t y
    by None e =
        at None e
        ∙ sym (head_out t (members t) y (ap (ancestor_of t.classes t.rounds) (no_member t.members y e)))
    by (Some i) e =
        at (Some i) e
        ∙ ap (or_name y) (ap (λ l. slice_get l i) all
        ∙ mapped_at (first_of_class t) (members t) i y (placed (members t) y i e))

head_within : (ys : List ℕ) (E : ℕ → ℕ → Bool) (x : ℕ) → x < 2 ^ 64 → AllByRecursion (λ n. n < 2 ^ 64) ys
    → head_of ys E x < 2 ^ 64
head_within [] E x l w = l
head_within (y ∷ ys) E x l w = go (E y x) (head_within ys E x l w.1)
  where
    go : (b : Bool) → head_of ys E x < 2 ^ 64 → cond b y (head_of ys E x) < 2 ^ 64
    go true more = w.0
    go false more = more

-- the text that is written reads as the structure that is merged
pub reads_smaller : (x : Exchange) (t : Table) → members t ≡ x.names
    → ∥ ReadsAs (smaller_text x t) x.header_bytes.now (normal_file (merged_file (first_of_class t) (structure x))) ∥₁
reads_smaller x t are =
    ∥∥₁_map x.read (λ r. merged_text_reads (first_of_class t)
    (λ y l. head_within (members t) (shares t t.rounds) y l
    (subst (AllByRecursion (λ n. n < 2 ^ 64)) (names-are x ∙ sym are)
    (names_within r.0 x.header_bytes.now (structure x) r.1))) r.0 x.header_bytes.now (structure x) r.1)
