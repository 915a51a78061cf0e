-- The instances that have the key of an earlier one are told row by row.
use Rattle.std.specs.Prelude.{◌≡◌, ℕ, ◌+◌, ◌≤◌, Bool, true, false, cond, ◌||◌, List, [], ◌∷◌, ◌++◌, length, map, Some, slice_get}
use Rattle.std.specs.List.{list_any}
use Rattle.std.proofs.Common.{refl, sym, ◌∙◌, ap, drop}
use Rattle.std.proofs.lemmas.List.{append-nil}
use Rattle.indexmap.specs.IndexSet.{IndexSet}
use Rattle.conformance.specs.Populations.{Instance}
use Rattle.conformance.specs.Rules.{UniqueRule}
use Rattle.conformance.specs.RuleFindings.{key, same_keys, repeats}
use Rattle.typed_populations.proofs.Turns.{drop-item}
use Rattle.population_uniqueness.specs.declared.key_lookup.Key.{Key}
use Rattle.population_uniqueness.specs.steps.Keys.{AreMet, Meets}
use Rattle.population_uniqueness.proofs.Behind.{append_one, drop_all}
use Rattle.population_uniqueness.proofs.Meeting.{none_met}

any_mapped : {A B : Type 0} (p : B → Bool) (f : A → B) (xs : List A) → list_any p (map f xs) ≡ list_any (λ x. p (f x)) xs
any_mapped p f [] = refl
any_mapped p f (x ∷ xs) = ap (λ b. p (f x) || b) (any_mapped p f xs)

abbrev pub names_of : List Instance → List ℕ
names_of is = map (λ (x : Instance). x.name) is

module _ {S : Type 0} (u : UniqueRule) (is : List Instance) where
  -- these names are told of the rows before one, and the keys of these were met
  pub record TellsUpTo (row : ℕ) (names : List ℕ) (met : IndexSet Key S) : Type 0 where
    pub before : List Instance
    pub met_before : AreMet (map (key u) before) met
    pub told : names ++ names_of (repeats u before (drop row is)) ≡ names_of (repeats u [] is)

  pub tells_first : (names : List ℕ) (met : IndexSet Key S) → names ≡ [] → met.keys ≡ [] → TellsUpTo 0 names met
  tells_first names met none empty = record {
    before = [];
    met_before = none_met met empty;
    told = ap (λ ns. ns ++ names_of (repeats u [] is)) none;
  }

  module _ (row : ℕ) (x : Instance) (at : slice_get is row ≡ Some x) (names : List ℕ)
      (old new : IndexSet Key S) (again : Bool) (meets : Meets (key u x) again old new)
      (tells : TellsUpTo row names old) where
    abbrev rest : List Instance
    rest = repeats u (x ∷ tells.before) (drop (row + 1) is)

    left : names_of (repeats u tells.before (drop row is)) ≡ names_of (cond again (x ∷ rest) rest)
    left =
        ap (λ xs. names_of (repeats u tells.before xs)) (drop-item is row x at)
        ∙ ap (λ b. names_of (cond b (x ∷ rest) rest))
        (sym ((meets (map (key u) tells.before) tells.met_before).0 ∙ any_mapped (same_keys (key u x)) (key u) tells.before))

    -- an instance whose key was met before
    pub tells_more : again ≡ true → TellsUpTo (row + 1) (names ++ x.name ∷ []) new
    tells_more e = record {
      before = x ∷ tells.before;
      met_before = (meets (map (key u) tells.before) tells.met_before).1;
      told = append_one names x.name (names_of rest)
          ∙ ap (λ ns. names ++ ns) (sym (left ∙ ap (λ b. names_of (cond b (x ∷ rest) rest)) e)) ∙ tells.told;
    }

    -- an instance whose key wasn't met before
    pub tells_as_before : again ≡ false → TellsUpTo (row + 1) names new
    tells_as_before e = record {
      before = x ∷ tells.before;
      met_before = (meets (map (key u) tells.before) tells.met_before).1;
      told = ap (λ ns. names ++ ns) (sym (left ∙ ap (λ b. names_of (cond b (x ∷ rest) rest)) e)) ∙ tells.told;
    }

  pub tells_all : (row : ℕ) (names : List ℕ) (met : IndexSet Key S) → length is ≤ row
      → TellsUpTo row names met → names ≡ names_of (repeats u [] is)
  tells_all row names met le tells =
      sym (append-nil names)
      ∙ ap (λ xs. names ++ names_of (repeats u tells.before xs)) (sym (drop_all is row le)) ∙ tells.told
